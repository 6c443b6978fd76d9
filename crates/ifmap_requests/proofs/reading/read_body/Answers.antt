use Rattle.std.proofs.Common.{◌∷◌, [], List, Ok, refl, subst}
use Rattle.ifmap_elem.specs.declared.readings.Declared.{Declared}
use Rattle.ifmap_forms.specs.Answers.{IsCheckRefusal}
use Rattle.ifmap_forms.specs.Scopes.{scopes_by}
use Rattle.ifmap_requests.specs.RequestForms.{request_check}
use Rattle.ifmap_requests.proofs.ReadingLaws.{refused_reading, request_read, request_refused}
use Rattle.ifmap_requests.proofs.reading.read_body.Goals as goal

pub returns-in_default : goal.returns-in_default
returns-in_default c = c.in_default.ensures.none refl

pub returns-in_err-read_inner : goal.returns-in_err-read_inner
returns-in_err-read_inner c =
    let inner = c.in-Some.inner in
    let path = inner.body ∷ (inner.index ∷ []) in
    let error = c.in_err-read_inner.field-0.0 in
    refused_reading c.args.reading c.from_residual.result error c.from_residual.ensures.1
    (request_refused c.args.reading path inner.element c.in-Some.ensures.found error
    (subst (λ (declared : List Declared). IsCheckRefusal (request_check (scopes_by declared path) inner.element) error) c.as_slice.ensures
    c.in_err-read_inner.ensures))

pub returns : goal.returns
returns c =
    let inner = c.in-Some.inner in
    let path = inner.body ∷ (inner.index ∷ []) in
    let request = c.in_ok-read_inner.field-0 in
    request_read c.args.reading path inner.element c.in-Some.ensures.found request
    (subst (λ (declared : List Declared). request_check (scopes_by declared path) inner.element (Ok request)) c.as_slice.ensures
    c.in_ok-read_inner.ensures)
