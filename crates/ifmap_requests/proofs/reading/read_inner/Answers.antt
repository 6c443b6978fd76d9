use Rattle.std.proofs.Common.{◌≡◌, ◌∷◌, [], ℕ, List, subst}
use Rattle.ifmap_forms.specs.AnswerLaws.{refused_exit}
use Rattle.ifmap_forms.specs.Answers.{IsChecked}
use Rattle.ifmap_forms.specs.Scopes.{scopes_by}
use Rattle.ifmap_requests.specs.RequestForms.{request_check}
use Rattle.ifmap_requests.proofs.PlaceLaws.{out_of_memory}
use Rattle.ifmap_requests.proofs.reading.read_inner.Goals as goal

pub returns-in_err-body : goal.returns-in_err-body
returns-in_err-body c =
    let inner = c.args.inner in
    let check = request_check (scopes_by c.args.declared.now (inner.body ∷ (inner.index ∷ []))) inner.element in
    refused_exit check c.from_residual.result c.in_err-body.field-0.0 c.from_residual.ensures.1
    (out_of_memory check c.in_err-body.field-0.0 c.in_err-body.ensures.refused)

pub returns-in_err-index : goal.returns-in_err-index
returns-in_err-index c =
    let inner = c.args.inner in
    let check = request_check (scopes_by c.args.declared.now (inner.body ∷ (inner.index ∷ []))) inner.element in
    refused_exit check c.from_residual-in_err-index.result c.in_err-index.field-0.0 c.from_residual-in_err-index.ensures.1
    (out_of_memory check c.in_err-index.field-0.0 c.in_err-index.ensures.refused)

pub returns : goal.returns
returns c =
    let inner = c.args.inner in
    let path_is : c.in_ok-body.body ∷ (c.in_ok-index.index ∷ []) ≡ inner.body ∷ (inner.index ∷ []) =
    λ i. c.in_ok-body.ensures.same i ∷ (c.in_ok-index.ensures.same i ∷ []) in
    subst (λ (path : List ℕ). IsChecked (request_check (scopes_by c.args.declared.now path) inner.element) c.read_at.result) path_is
    c.read_at.ensures
