use Rattle.std.proofs.Common.{◌≡◌, ◌+◌, ◌∙◌, ◌∷◌, ℕ, ap, drop, sym}
use Rattle.std.proofs.lemmas.List.{drop_all, drop_more}
use Rattle.ifmap_elem.specs.declared.elements.Child.{Child}
use Rattle.ifmap_elem.specs.declared.elements.Element.{Element}
use Rattle.ifmap_forms.specs.AnswerLaws.{refused_exit}
use Rattle.ifmap_forms.specs.Checks.{Check}
use Rattle.ifmap_forms.specs.Gathering.{elements_end, elements_further, elements_stop}
use Rattle.ifmap_forms.specs.Scopes.{Scopes, scopes_below, scopes_by}
use Rattle.ifmap_forms.specs.Tables.{each_element, parts_in}
use Rattle.ifmap_requests.specs.declared.requests.SubscribeOp.{SubscribeOp}
use Rattle.ifmap_requests.specs.RequestForms.{subscribe_op_check}
use Rattle.ifmap_requests.proofs.subscribing.read_subscribe_ops.Goals as goal
use Rattle.ifmap_requests.proofs.subscribing.read_subscribe_ops.Goals.{After-next_op}

abbrev one : Scopes → ℕ → Element → Check SubscribeOp
one scopes index e = subscribe_op_check (scopes_below scopes index) e

-- the child of this turn, and those after it, are what is left
left_at_turn : (c : After-next_op)
    → drop c.loop-index.index c.args.children.now
    ≡ c.index-children-index.result ∷ drop (c.loop-index.index + 1) c.args.children.now
left_at_turn c =
    drop_more c.args.children.now c.loop-index.index c.index-children-index.result c.loop-index-test.true
    ∙ ap (λ (x : Child). x ∷ drop (c.loop-index.index + 1) c.args.children.now) (sym c.index-children-index.is)

pub returns-in_err-found : goal.returns-in_err-found
returns-in_err-found c =
    let scopes = scopes_by c.args.place.now.declared.now c.args.place.now.path.now in
    let children = c.args.children.now in
    let whole = each_element (one scopes) 0 (parts_in children) in
    let i = c.loop-index.index in
    let child = c.index-children-index.result in
    refused_exit whole c.from_residual.result c.in_err-found.field-0.0 c.from_residual.ensures.1
    (elements_stop whole (one scopes) i (drop i children) c.loop-index.ops.items c.loop-index.invariant child (drop (i + 1) children)
    (left_at_turn (goal.at.returns-in_err-found c).After-next_op) c.in_err-found.field-0.0 c.in_err-found.ensures)

pub loop-index-preserved : goal.loop-index-preserved
loop-index-preserved c =
    let scopes = scopes_by c.args.place.now.declared.now c.args.place.now.path.now in
    let children = c.args.children.now in
    let whole = each_element (one scopes) 0 (parts_in children) in
    let i = c.loop-index.index in
    let child = c.index-children-index.result in
    elements_further whole (one scopes) i (drop i children) c.loop-index.ops.items c.loop-index.invariant child (drop (i + 1) children)
    (left_at_turn (goal.at.loop-index-preserved c).After-next_op) c.in_ok-found.found c.keep_found.new.members.items c.in_ok-found.ensures
    c.in_ok-keep_found.ensures

pub returns : goal.returns
returns c =
    let scopes = scopes_by c.args.place.now.declared.now c.args.place.now.path.now in
    let children = c.args.children.now in
    let whole = each_element (one scopes) 0 (parts_in children) in
    let i = c.loop-index.index in
    elements_end whole (one scopes) i (drop i children) c.loop-index.ops.items c.loop-index.invariant
    (drop_all i children c.loop-index-test.false)
