use Rattle.std.proofs.Common.{length, ap, ◌∙◌, arith}
use Rattle.ifmap_ident.specs.Identifiers.{identifier_bytes}
use Rattle.ifmap_ident.proofs.SizeLaws.{access_request_size, device_size, identity_size}
use Rattle.ifmap_ident.proofs.sizes.identifier_len.Goals as goal

pub returns-in-AccessRequest : goal.returns-in-AccessRequest
returns-in-AccessRequest c =
    let whole = ap (λ i. length (identifier_bytes i)) c.in-AccessRequest.is
    ∙ access_request_size c.in-AccessRequest.name c.in-AccessRequest.domain in
    omega arith

pub returns-in-Device : goal.returns-in-Device
returns-in-Device c =
    let whole = ap (λ i. length (identifier_bytes i)) c.in-Device.is ∙ device_size c.in-Device.name in
    omega arith

pub returns-in-Identity : goal.returns-in-Identity
returns-in-Identity c =
    let whole = ap (λ i. length (identifier_bytes i)) c.in-Identity.is
    ∙ identity_size c.in-Identity.name c.in-Identity.kind c.in-Identity.other c.in-Identity.domain in
    let type = ap length c.name.ensures in
    omega arith
