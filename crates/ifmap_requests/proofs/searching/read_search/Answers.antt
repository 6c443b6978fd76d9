use Rattle.std.proofs.Common.{◌∙◌, List, Ok, map, subst, sym}
use Rattle.ifmap_elem.specs.declared.elements.Child.{Child}
use Rattle.ifmap_search.specs.declared.searches.Search.{Search}
use Rattle.ifmap_forms.specs.AnswerLaws.{refused_exit}
use Rattle.ifmap_forms.specs.Answers.{IsCheckRefusal}
use Rattle.ifmap_forms.specs.Items.{start_check}
use Rattle.ifmap_forms.specs.Scopes.{place_scope}
use Rattle.ifmap_forms.specs.Tables.{parts_in}
use Rattle.ifmap_requests.specs.RequestForms.{search_check}
use Rattle.ifmap_requests.proofs.FormLaws.{refused_bounds, refused_others, refused_start, whole_search}
use Rattle.ifmap_requests.proofs.searching.read_search.Goals as goal

pub returns-in_err-bounds : goal.returns-in_err-bounds
returns-in_err-bounds c =
    let allowed = map (λ local. local.now) c.args.locals.now in
    let scope = place_scope c.args.place.now.declared.now c.args.place.now.path.now c.args.place.now.child in
    let e = c.args.element.now in
    refused_exit (search_check allowed scope e) c.from_residual.result c.in_err-bounds.field-0.0 c.from_residual.ensures.1
    (refused_bounds allowed scope e c.in_err-bounds.field-0.0 c.in_err-bounds.ensures)

pub returns-then-not-has_only : goal.returns-then-not-has_only
returns-then-not-has_only c =
    let allowed = map (λ local. local.now) c.args.locals.now in
    let scope = place_scope c.args.place.now.declared.now c.args.place.now.path.now c.args.place.now.child in
    let e = c.args.element.now in
    refused_others allowed scope e c.in_ok-bounds.bounds c.in_ok-bounds.ensures (sym c.has_only.ensures ∙ c.if-not-has_only.true)

pub returns-in_err-start : goal.returns-in_err-start
returns-in_err-start c =
    let allowed = map (λ local. local.now) c.args.locals.now in
    let scope = place_scope c.args.place.now.declared.now c.args.place.now.path.now c.args.place.now.child in
    let e = c.args.element.now in
    refused_exit (search_check allowed scope e) c.from_residual-in_err-start.result c.in_err-start.field-0.0
    c.from_residual-in_err-start.ensures.1
    (refused_start allowed scope e c.in_ok-bounds.bounds c.in_ok-bounds.ensures c.in_err-start.field-0.0
    (sym c.has_only.ensures ∙ c.if-not-has_only.false)
    (subst (λ (cs : List Child). IsCheckRefusal (start_check (parts_in cs)) c.in_err-start.field-0.0) c.as_slice.ensures
    c.in_err-start.ensures))

pub returns : goal.returns
returns c =
    let allowed = map (λ local. local.now) c.args.locals.now in
    let scope = place_scope c.args.place.now.declared.now c.args.place.now.path.now c.args.place.now.child in
    let e = c.args.element.now in
    subst (λ (search : Search). search_check allowed scope e (Ok search)) (sym c.search_from.ensures)
    (whole_search allowed scope e c.in_ok-bounds.bounds c.in_ok-bounds.ensures c.in_ok-start.start
    (sym c.has_only.ensures ∙ c.if-not-has_only.false)
    (subst (λ (cs : List Child). start_check (parts_in cs) (Ok c.in_ok-start.start)) c.as_slice.ensures c.in_ok-start.ensures))
