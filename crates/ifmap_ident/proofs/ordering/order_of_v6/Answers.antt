use Rattle.std.proofs.Common.{ap, sym, ◌∙◌}
use Rattle.ifmap_ident.specs.declared.identifiers.Identifier.TheVariants.{IpV6}
use Rattle.ifmap_ident.specs.Identifiers.{identifier_order}
use Rattle.ifmap_ident.proofs.OrderLaws.{v6_v4_addresses}
use Rattle.ifmap_ident.proofs.ordering.order_of_v6.Goals as goal

pub returns-in-IpV4 : goal.returns-in-IpV4
returns-in-IpV4 c kind =
    c.then.ensures ∙ v6_v4_addresses c.optional_order.result c.args.value.now c.args.domain.now _ c.in-IpV4.other_domain
    c.optional_order.ensures
    ∙ ap (identifier_order (IpV6 c.args.value.now c.args.domain.now)) (sym c.in-IpV4.is)
