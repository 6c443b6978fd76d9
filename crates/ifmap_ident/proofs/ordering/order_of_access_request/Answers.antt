use Rattle.std.proofs.Common.{ap, sym, ◌∙◌}
use Rattle.ifmap_ident.specs.declared.identifiers.Identifier.TheVariants.{AccessRequest}
use Rattle.ifmap_ident.specs.Identifiers.{identifier_order}
use Rattle.ifmap_ident.proofs.OrderLaws.{access_requests}
use Rattle.ifmap_ident.proofs.ordering.order_of_access_request.Goals as goal

pub returns-in-AccessRequest : goal.returns-in-AccessRequest
returns-in-AccessRequest c kind =
    c.then.ensures ∙ access_requests c.optional_order.result c.text_order.result c.args.name.now c.args.domain.now
    c.in-AccessRequest.other_name c.in-AccessRequest.other_domain c.optional_order.ensures c.text_order.ensures
    ∙ ap (identifier_order (AccessRequest c.args.name.now c.args.domain.now)) (sym c.in-AccessRequest.is)
