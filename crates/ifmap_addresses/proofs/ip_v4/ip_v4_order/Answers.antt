use Rattle.std.proofs.Common.{◌∙◌}
use Rattle.std.specs.Ordering.{ordering_then}
use Rattle.ifmap_addresses.proofs.Dotted.{dotted_order}
use Rattle.ifmap_addresses.proofs.ip_v4.ip_v4_order.Goals as goal

pub returns : goal.returns
returns c =
    c.then-3.ensures ∙ (λ i. ordering_then ((c.then-2.ensures ∙ (λ j. ordering_then ((c.then.ensures
    ∙ (λ k. ordering_then (c.number_order.ensures k) (c.number_order-2.ensures k))) j) (c.number_order-3.ensures j))) i)
    (c.number_order-4.ensures i))
    ∙ dotted_order c.args.one.now c.args.other.now c.fits-one c.fits-other
