use Rattle.std.proofs.Common.{[], ◌∷◌, ◌++◌, Ok, codes, subst}
use Rattle.ifmap_ident.specs.ifmap_reader.declared.scoping.Scope.{Scope}
use Rattle.ifmap_forms.specs.AnswerLaws.{refused_exit}
use Rattle.ifmap_forms.specs.Answers.{IsCheckRefusal}
use Rattle.ifmap_forms.specs.Scopes.{scopes_by}
use Rattle.ifmap_forms.specs.Tables.{form_check}
use Rattle.ifmap_forms.specs.Values.{session_field}
use Rattle.ifmap_requests.specs.declared.requests.Request.TheVariants as request
use Rattle.ifmap_envelopes.specs.Spaces.{ifmap_space}
use Rattle.ifmap_requests.specs.RequestForms.{search_attributes, search_check, search_form, search_of}
use Rattle.ifmap_requests.proofs.FormLaws.{found_search, refused_search, refused_text}
use Rattle.ifmap_requests.proofs.PlaceLaws.{own_place}
use Rattle.ifmap_requests.proofs.asking.read_asked_search.Goals as goal

pub returns-in_err-session : goal.returns-in_err-session
returns-in_err-session c =
    let scopes = (scopes_by c.args.place.now.declared.now c.args.place.now.path.now) in
    let e = c.args.element.now in
    let error = c.in_err-session.field-0.0 in
    refused_exit (form_check search_form search_of scopes e) c.from_residual.result error c.from_residual.ensures.1
    (refused_text session_field (record { space = ifmap_space; local = codes "search" }) (codes "validation" ∷ [])
    (λ session search. request.Search session search) scopes e error c.in_err-session.ensures)

pub returns-in_err-search : goal.returns-in_err-search
returns-in_err-search c =
    let scopes = (scopes_by c.args.place.now.declared.now c.args.place.now.path.now) in
    let e = c.args.element.now in
    let error = c.in_err-search.field-0.0 in
    let allowed = ((codes "validation" ∷ []) ++ (session_field.local ∷ search_attributes.locals)) in
    refused_exit (form_check search_form search_of scopes e) c.from_residual-in_err-search.result error
    c.from_residual-in_err-search.ensures.1
    (refused_search session_field (record { space = ifmap_space; local = codes "search" }) (codes "validation" ∷ [])
    (λ session search. request.Search session search) scopes e c.in_ok-session.session c.in_ok-session.ensures error
    (subst (λ (scope : Scope). IsCheckRefusal (search_check allowed scope e) error)
    (own_place c.args.place.now.declared.now c.args.place.now.path.now c.args.place.now.child c.requires) c.in_err-search.ensures))

pub returns : goal.returns
returns c =
    let scopes = (scopes_by c.args.place.now.declared.now c.args.place.now.path.now) in
    let e = c.args.element.now in
    let allowed = ((codes "validation" ∷ []) ++ (session_field.local ∷ search_attributes.locals)) in
    found_search session_field (record { space = ifmap_space; local = codes "search" }) (codes "validation" ∷ [])
    (λ session search. request.Search session search) scopes e c.in_ok-session.session c.in_ok-session.ensures c.in_ok-search.search
    (subst (λ (scope : Scope). search_check allowed scope e (Ok c.in_ok-search.search))
    (own_place c.args.place.now.declared.now c.args.place.now.path.now c.args.place.now.child c.requires) c.in_ok-search.ensures)
