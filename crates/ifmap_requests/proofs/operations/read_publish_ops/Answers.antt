use Rattle.std.proofs.Common.{ℕ, List, ap, arith, length, subst, sym}
use Rattle.std.proofs.lemmas.List.{nil_from_length}
use Rattle.std.specs.Vec.Iter.{into_iter_items}
use Rattle.ifmap_elem.specs.declared.elements.Child.{Child}
use Rattle.ifmap_elem.specs.declared.elements.Element.{Element}
use Rattle.ifmap_forms.specs.AnswerLaws.{refused_exit}
use Rattle.ifmap_forms.specs.Checks.{Check}
use Rattle.ifmap_forms.specs.Gathering.{IsRestAfter, begins, elements_end, elements_further, elements_stop}
use Rattle.ifmap_forms.specs.Scopes.{Scopes, scopes_below, scopes_by}
use Rattle.ifmap_forms.specs.Tables.{each_element, parts_in}
use Rattle.ifmap_requests.specs.declared.publish_ops.PublishOp.{PublishOp}
use Rattle.ifmap_requests.specs.RequestForms.{publish_op_check}
use Rattle.ifmap_requests.proofs.operations.read_publish_ops.Goals as goal

abbrev one : Scopes → ℕ → Element → Check PublishOp
one scopes index e = publish_op_check (scopes_below scopes index) e

pub loop-child-init : goal.loop-child-init
loop-child-init c =
    let scopes = scopes_by c.args.place.now.declared.now c.args.place.now.path.now in
    let whole = each_element (one scopes) 0 (parts_in c.args.children.items) in (
      subst (λ (cs : List Child). IsRestAfter whole (each_element (one scopes) 0 (parts_in cs)) c.new-ops.result.items)
          (sym c.into_iter-child-iterator.ensures.into_iter_gives.0) (begins whole c.new-ops.result.items c.new-ops.ensures.items),
      omega (arith, ap length c.into_iter-child-iterator.ensures.into_iter_gives.0),
    )

pub returns-in_err-found : goal.returns-in_err-found
returns-in_err-found c =
    let scopes = scopes_by c.args.place.now.declared.now c.args.place.now.path.now in
    let whole = each_element (one scopes) 0 (parts_in c.args.children.items) in
    refused_exit whole c.from_residual.result c.in_err-found.field-0.0 c.from_residual.ensures.1
    (elements_stop whole (one scopes) c.loop-child.index (into_iter_items c.loop-child.child-iterator) c.loop-child.ops.items
    c.loop-child.invariant.0 c.in-Some.child (into_iter_items c.next.new.self) c.in-Some.ensures.steps.0 c.in_err-found.field-0.0
    c.in_err-found.ensures)

pub loop-child-preserved : goal.loop-child-preserved
loop-child-preserved c =
    let scopes = scopes_by c.args.place.now.declared.now c.args.place.now.path.now in
    let whole = each_element (one scopes) 0 (parts_in c.args.children.items) in (
      elements_further whole (one scopes) c.loop-child.index (into_iter_items c.loop-child.child-iterator) c.loop-child.ops.items
          c.loop-child.invariant.0 c.in-Some.child (into_iter_items c.next.new.self) c.in-Some.ensures.steps.0 c.in_ok-found.found
          c.keep_found.new.members.items c.in_ok-found.ensures c.in_ok-keep_found.ensures,
      omega (arith, c.loop-child.invariant.1, ap length c.in-Some.ensures.steps.0),
    )

pub returns : goal.returns
returns c =
    let scopes = scopes_by c.args.place.now.declared.now c.args.place.now.path.now in
    let whole = each_element (one scopes) 0 (parts_in c.args.children.items) in
    elements_end whole (one scopes) c.loop-child.index (into_iter_items c.loop-child.child-iterator) c.loop-child.ops.items
    c.loop-child.invariant.0
    (nil_from_length (into_iter_items c.loop-child.child-iterator)
    (omega (arith, c.loop-child.child-iterator.rest.ok.0, c.in-None.ensures.steps.0)))

pub overflow_add-index : goal.overflow_add-index
overflow_add-index c =
    let gives = c.into_iter-child-iterator.ensures.into_iter_gives in
    omega (arith, c.loop-child.invariant.1, ap length c.in-Some.ensures.steps.0, gives.1, gives.2, c.args.children.ok.0)
