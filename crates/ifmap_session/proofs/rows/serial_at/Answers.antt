use Rattle.ifmap_session.proofs.PlaceLaws.{serial_got}
use Rattle.ifmap_session.proofs.rows.serial_at.Goals as goal

pub returns : goal.returns
returns c = serial_got c.args.rows.now c.args.place c.index-rows-place.result c.requires
