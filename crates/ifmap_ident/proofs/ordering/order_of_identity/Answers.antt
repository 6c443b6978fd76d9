use Rattle.std.proofs.Common.{ap, sym, ◌∙◌}
use Rattle.std.specs.Ordering.{ordering_then}
use Rattle.ifmap_ident.specs.declared.identifiers.Identifier.TheVariants.{Identity}
use Rattle.ifmap_ident.specs.Identifiers.{identifier_order}
use Rattle.ifmap_ident.proofs.OrderLaws.{identities}
use Rattle.ifmap_ident.proofs.ordering.order_of_identity.Goals as goal

pub returns-in-Identity : goal.returns-in-Identity
returns-in-Identity c kind =
    c.then-in-Identity-2.ensures ∙ (λ i. ordering_then ((c.then-in-Identity.ensures
    ∙ (λ j. ordering_then (c.then.ensures j) c.optional_order-in-Identity.result)) i) c.type_order.result)
    ∙ identities c.optional_order.result c.text_order.result c.optional_order-in-Identity.result c.type_order.result
    c.args.one.name.now c.args.one.kind c.args.one.definition.now c.args.one.domain.now
    c.in-Identity.name c.in-Identity.kind c.in-Identity.definition c.in-Identity.domain
    c.optional_order.ensures c.text_order.ensures c.optional_order-in-Identity.ensures c.type_order.ensures
    ∙ ap (identifier_order (Identity c.args.one.name.now c.args.one.kind c.args.one.definition.now c.args.one.domain.now))
    (sym c.in-Identity.is)
