use Rattle.std.proofs.Common.{◌<◌, arith, length}
use Rattle.ifmap_envelopes.proofs.EnvelopeLaws.{element_taken}
use Rattle.ifmap_envelopes.proofs.envelopes.take_child.Goals as goal

pub returns-in-Element-clause-found : goal.returns-in-Element-clause-found
returns-in-Element-clause-found c =
    let low : c.args.index < length c.args.children.items = omega (arith, c.args.children.ok.0) in
    element_taken c.args.children.items c.args.index c.swap_remove.result low c.swap_remove.ensures.value c.in-Element.child
    c.in-Element.is
