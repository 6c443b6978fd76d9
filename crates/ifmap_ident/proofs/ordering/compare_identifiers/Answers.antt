use Rattle.std.proofs.Common.{nat_cmp, ◌∙◌}
use Rattle.std.specs.Ordering.{ordering_then}
use Rattle.ifmap_ident.specs.Written.{kind_rank}
use Rattle.ifmap_ident.proofs.OrderLaws.{by_kind}
use Rattle.ifmap_ident.proofs.ordering.compare_identifiers.Goals as goal

pub returns : goal.returns
returns c =
    c.then.ensures ∙ (λ i. ordering_then ((c.kind_order.ensures
    ∙ (λ j. nat_cmp (kind_rank (c.kind.ensures j)) (kind_rank (c.kind-2.ensures j)))) i) c.order_in_kind.result)
    ∙ by_kind c.args.one.now c.args.other.now c.order_in_kind.result c.order_in_kind.ensures
