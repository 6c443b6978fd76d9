use Rattle.std.proofs.Common.{refl}
use Rattle.ifmap_changes.specs.ifmap_standing.Standing.{standing_of}
use Rattle.ifmap_subscribes.proofs.renamings.order_to_name.Goals as goal

pub returns : goal.returns
returns c = c.order.ensures (record (standing_of c.args.one.now) { serial = c.args.serial; name = c.args.name.now }) refl refl
