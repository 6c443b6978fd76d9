use Rattle.std.proofs.Common.{ap, sym, ◌∙◌}
use Rattle.ifmap_ident.specs.declared.identifiers.Identifier.TheVariants.{IpV4}
use Rattle.ifmap_ident.specs.Identifiers.{identifier_order}
use Rattle.ifmap_ident.proofs.OrderLaws.{v4_v6_addresses}
use Rattle.ifmap_ident.proofs.ordering.order_of_v4.Goals as goal

pub returns-in-IpV6 : goal.returns-in-IpV6
returns-in-IpV6 c kind =
    c.then.ensures ∙ v4_v6_addresses c.optional_order.result c.args.value.now c.args.domain.now _ c.in-IpV6.other_domain
    c.optional_order.ensures
    ∙ ap (identifier_order (IpV4 c.args.value.now c.args.domain.now)) (sym c.in-IpV6.is)
