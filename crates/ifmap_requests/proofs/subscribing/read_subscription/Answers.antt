use Rattle.std.proofs.Common.{[], ◌∷◌, ◌++◌, Ok, codes, subst}
use Rattle.ifmap_elem.specs.Building.{bare_name}
use Rattle.ifmap_ident.specs.ifmap_reader.declared.scoping.Scope.{Scope}
use Rattle.ifmap_forms.specs.AnswerLaws.{refused_exit}
use Rattle.ifmap_forms.specs.Answers.{IsCheckRefusal}
use Rattle.ifmap_forms.specs.Scopes.{place_scopes}
use Rattle.ifmap_forms.specs.Tables.{form_check}
use Rattle.ifmap_forms.specs.Values.{name_field}
use Rattle.ifmap_requests.specs.declared.requests.SubscribeOp.TheVariants as subscribe
use Rattle.ifmap_requests.specs.RequestForms.{search_attributes, search_check, subscription_form, subscription_from_form}
use Rattle.ifmap_requests.proofs.FormLaws.{found_search, refused_search, refused_text}
use Rattle.ifmap_requests.proofs.PlaceLaws.{here}
use Rattle.ifmap_requests.proofs.subscribing.read_subscription.Goals as goal

pub returns-in_err-name : goal.returns-in_err-name
returns-in_err-name c =
    let scopes = (place_scopes c.args.place.now.declared.now c.args.place.now.path.now c.args.place.now.child) in
    let e = c.args.element.now in
    let error = c.in_err-name.field-0.0 in
    refused_exit (form_check subscription_form subscription_from_form scopes e) c.from_residual.result error c.from_residual.ensures.1
    (refused_text name_field (bare_name (codes "update")) []
    (λ name search. subscribe.Update name search) scopes e error c.in_err-name.ensures)

pub returns-in_err-search : goal.returns-in_err-search
returns-in_err-search c =
    let scopes = (place_scopes c.args.place.now.declared.now c.args.place.now.path.now c.args.place.now.child) in
    let e = c.args.element.now in
    let error = c.in_err-search.field-0.0 in
    let allowed = ([] ++ (name_field.local ∷ search_attributes.locals)) in
    refused_exit (form_check subscription_form subscription_from_form scopes e) c.from_residual-in_err-search.result error
    c.from_residual-in_err-search.ensures.1
    (refused_search name_field (bare_name (codes "update")) []
    (λ name search. subscribe.Update name search) scopes e c.in_ok-name.name c.in_ok-name.ensures error
    (subst (λ (scope : Scope). IsCheckRefusal (search_check allowed scope e) error)
    (here c.args.place.now.declared.now c.args.place.now.path.now c.args.place.now.child) c.in_err-search.ensures))

pub returns : goal.returns
returns c =
    let scopes = (place_scopes c.args.place.now.declared.now c.args.place.now.path.now c.args.place.now.child) in
    let e = c.args.element.now in
    let allowed = ([] ++ (name_field.local ∷ search_attributes.locals)) in
    found_search name_field (bare_name (codes "update")) []
    (λ name search. subscribe.Update name search) scopes e c.in_ok-name.name c.in_ok-name.ensures c.in_ok-search.search
    (subst (λ (scope : Scope). search_check allowed scope e (Ok c.in_ok-search.search))
    (here c.args.place.now.declared.now c.args.place.now.path.now c.args.place.now.child) c.in_ok-search.ensures)
