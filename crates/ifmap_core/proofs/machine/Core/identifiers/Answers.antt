use Rattle.ifmap_core.proofs.InUse.{so_many_in_use}
use Rattle.ifmap_core.proofs.machine.Core.identifiers.Goals as goal

pub returns : goal.returns
returns c =
    let parts = c.self.inside.parts
    in rw (← c.self.view_is)
    (so_many_in_use parts.graph c.bytes_tell_identifiers_apart.ensures c.is_view.ensures parts.standing.items c.self.invariant.sound.steady
    (c.identifiers.ensures.used c.self.invariant.lean) c.identifiers.result c.identifiers.ensures.count)
