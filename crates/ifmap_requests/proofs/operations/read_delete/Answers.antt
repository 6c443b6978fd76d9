use Rattle.std.proofs.Common.{[], ◌∙◌, List, Ok, codes, subst, sym}
use Rattle.ifmap_elem.specs.declared.elements.Child.{Child}
use Rattle.ifmap_ident.specs.Parts.{value_of}
use Rattle.ifmap_ident.specs.declared.codes.Code.TheVariants.{Failure}
use Rattle.ifmap_ident.specs.ifmap_reader.declared.scoping.Scope.{Scope}
use Rattle.ifmap_forms.specs.declared.errors.FormError.TheVariants.{Named}
use Rattle.ifmap_forms.specs.AnswerLaws.{found_alone, made_as_read, read_refused_at_attributes, read_refused_at_content}
use Rattle.ifmap_forms.specs.AnswerLaws.{read_refused_at_others, read_whole, refused_alone, refused_as_read, refused_exit}
use Rattle.ifmap_forms.specs.Answers.{IsCheckRefusal}
use Rattle.ifmap_forms.specs.Items.{item_check}
use Rattle.ifmap_forms.specs.Scopes.{place_scopes}
use Rattle.ifmap_forms.specs.Tables.{both, form_check, parts_in}
use Rattle.ifmap_forms.specs.Values.{filter_field, read_filter}
use Rattle.ifmap_requests.specs.RequestForms.{delete_form, delete_from_form}
use Rattle.ifmap_requests.proofs.PlaceLaws.{here}
use Rattle.ifmap_requests.proofs.operations.read_delete.Goals as goal

pub returns-in_err-filter : goal.returns-in_err-filter
returns-in_err-filter c =
    let scopes = place_scopes c.args.place.now.declared.now c.args.place.now.path.now c.args.place.now.child in
    let e = c.args.element.now in
    let error = c.in_err-filter.field-0.0 in
    refused_exit (form_check delete_form delete_from_form scopes e) c.from_residual.result error c.from_residual.ensures.1
    (refused_as_read delete_form delete_from_form scopes e error
    (read_refused_at_attributes delete_form scopes e error
    (refused_alone (filter_field (codes "filter")) (scopes []) e error
    (subst (λ (scope : Scope). IsCheckRefusal (read_filter scope (value_of (codes "filter") e)) error)
    (here c.args.place.now.declared.now c.args.place.now.path.now c.args.place.now.child) c.in_err-filter.ensures))))

pub returns-then-not-has_only : goal.returns-then-not-has_only
returns-then-not-has_only c =
    let scopes = place_scopes c.args.place.now.declared.now c.args.place.now.path.now c.args.place.now.child in
    let e = c.args.element.now in
    refused_as_read delete_form delete_from_form scopes e (Named Failure)
    (read_refused_at_others delete_form scopes e (both c.in_ok-filter.filter tt)
    (found_alone (filter_field (codes "filter")) (scopes []) e c.in_ok-filter.filter
    (subst (λ (scope : Scope). read_filter scope (value_of (codes "filter") e) (Ok c.in_ok-filter.filter))
    (here c.args.place.now.declared.now c.args.place.now.path.now c.args.place.now.child) c.in_ok-filter.ensures))
    (sym c.has_only.ensures ∙ c.if-not-has_only.true))

pub returns-in_err-item : goal.returns-in_err-item
returns-in_err-item c =
    let scopes = place_scopes c.args.place.now.declared.now c.args.place.now.path.now c.args.place.now.child in
    let e = c.args.element.now in
    let error = c.in_err-item.field-0.0 in
    refused_exit (form_check delete_form delete_from_form scopes e) c.from_residual-in_err-item.result error
    c.from_residual-in_err-item.ensures.1
    (refused_as_read delete_form delete_from_form scopes e error
    (read_refused_at_content delete_form scopes e (both c.in_ok-filter.filter tt)
    (found_alone (filter_field (codes "filter")) (scopes []) e c.in_ok-filter.filter
    (subst (λ (scope : Scope). read_filter scope (value_of (codes "filter") e) (Ok c.in_ok-filter.filter))
    (here c.args.place.now.declared.now c.args.place.now.path.now c.args.place.now.child) c.in_ok-filter.ensures)) error
    (sym c.has_only.ensures ∙ c.if-not-has_only.false)
    (subst (λ (cs : List Child). IsCheckRefusal (item_check (parts_in cs)) error) c.as_slice.ensures c.in_err-item.ensures)))

pub returns : goal.returns
returns c =
    let scopes = place_scopes c.args.place.now.declared.now c.args.place.now.path.now c.args.place.now.child in
    let e = c.args.element.now in
    made_as_read delete_form delete_from_form scopes e (both c.in_ok-filter.filter tt) c.in_ok-item.item
    (read_whole delete_form scopes e (both c.in_ok-filter.filter tt)
    (found_alone (filter_field (codes "filter")) (scopes []) e c.in_ok-filter.filter
    (subst (λ (scope : Scope). read_filter scope (value_of (codes "filter") e) (Ok c.in_ok-filter.filter))
    (here c.args.place.now.declared.now c.args.place.now.path.now c.args.place.now.child) c.in_ok-filter.ensures)) c.in_ok-item.item
    (sym c.has_only.ensures ∙ c.if-not-has_only.false)
    (subst (λ (cs : List Child). item_check (parts_in cs) (Ok c.in_ok-item.item)) c.as_slice.ensures c.in_ok-item.ensures))
