use Rattle.std.proofs.Common.{ap, ◌∙◌}
use Rattle.std.specs.Ordering.{ordering_then}
use Rattle.ifmap_ident.proofs.OrderLaws.{v4_addresses}
use Rattle.ifmap_ident.proofs.ordering.v4_order.Goals as goal

pub returns : goal.returns
returns c =
    c.then.ensures ∙ ap (ordering_then c.optional_order.result) c.ip_v4_order.ensures
    ∙ v4_addresses c.optional_order.result c.args.value.now c.args.domain.now c.args.other_value.now c.args.other_domain.now
    c.fits-value c.fits-other_value c.optional_order.ensures
