use Rattle.std.proofs.Common.{◌+◌, List, arith, subst, sym}
use Rattle.std.proofs.lemmas.List.{nil_from_length}
use Rattle.std.specs.Vec.Iter.{into_iter_items}
use Rattle.ifmap_elem.specs.declared.elements.Child.{Child}
use Rattle.ifmap_forms.specs.AnswerLaws.{refused_exit_as}
use Rattle.ifmap_forms.specs.Gathering.{IsRestAfter, begins, elements_end, elements_further, elements_stop}
use Rattle.ifmap_forms.specs.Tables.{each_element, parts_in}
use Rattle.ifmap_forms.proofs.members.read_members.Goals as goal

pub loop-child-init : goal.loop-child-init
loop-child-init g c =
    let whole = each_element (λ index e. g.R.MemberReader.finds e) 0 (parts_in c.args.children.items) in (
      0,
      subst (λ (cs : List Child). IsRestAfter whole (each_element (λ index e. g.R.MemberReader.finds e) 0 (parts_in cs))
          c.new-made.result.items)
          (sym c.into_iter-child-iterator.ensures.into_iter_gives.0)
          (begins whole c.new-made.result.items c.new-made.ensures.items),
    )

pub returns-in_err-found : goal.returns-in_err-found
returns-in_err-found g c =
    let whole = each_element (λ index e. g.R.MemberReader.finds e) 0 (parts_in c.args.children.items) in
    refused_exit_as (λ made. made.items) whole c.from_residual.result c.in_err-found.field-0.0 c.from_residual.ensures.1
    (elements_stop whole (λ index e. g.R.MemberReader.finds e) c.loop-child.invariant.0 (into_iter_items c.loop-child.child-iterator)
    c.loop-child.made.items c.loop-child.invariant.1 c.in-Some.child (into_iter_items c.next.new.self) c.in-Some.ensures.steps.0
    c.in_err-found.field-0.0 c.in_err-found.ensures)

pub loop-child-preserved : goal.loop-child-preserved
loop-child-preserved g c =
    let whole = each_element (λ index e. g.R.MemberReader.finds e) 0 (parts_in c.args.children.items) in (
      c.loop-child.invariant.0 + 1,
      elements_further whole (λ index e. g.R.MemberReader.finds e) c.loop-child.invariant.0 (into_iter_items c.loop-child.child-iterator)
          c.loop-child.made.items c.loop-child.invariant.1 c.in-Some.child (into_iter_items c.next.new.self) c.in-Some.ensures.steps.0
          c.in_ok-found.found c.keep_found.new.members.items c.in_ok-found.ensures c.in_ok-keep_found.ensures,
    )

pub returns : goal.returns
returns g c =
    elements_end (each_element (λ index e. g.R.MemberReader.finds e) 0 (parts_in c.args.children.items))
    (λ index e. g.R.MemberReader.finds e)
    c.loop-child.invariant.0 (into_iter_items c.loop-child.child-iterator) c.loop-child.made.items c.loop-child.invariant.1
    (nil_from_length (into_iter_items c.loop-child.child-iterator)
    (omega (arith, c.loop-child.child-iterator.rest.ok.0, c.in-None.ensures.steps.0)))
