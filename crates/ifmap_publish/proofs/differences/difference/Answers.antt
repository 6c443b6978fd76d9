use Rattle.std.proofs.Common.{◌≡◌, ◌∙◌, refl, ap, sym, not, Bool, List, [], ◌∷◌, ◌++◌}
use Rattle.std.specs.List.{AllByRecursion, list_any}
use Rattle.ifmap_lemmas.specs.Stepping.{kept_more, passed_more}
use Rattle.ifmap_meta.specs.declared.stored.Stored.{Stored}
use Rattle.ifmap_rows.specs.ifmap_plans.Lists.{same_stored}
use Rattle.ifmap_publish.proofs.Passing.{tells_later, tells_now}
use Rattle.ifmap_publish.proofs.differences.difference.Goals as goal
use Rattle.ifmap_publish.proofs.differences.difference.Goals.{then-not-begins_with+in_ok-share+in_ok-push, else-not-begins_with}

as_it_is : (other xs : List Stored) → AllByRecursion (λ s. list_any (same_stored s) other ≡ list_any (same_stored s) other) xs
as_it_is other [] = tt
as_it_is other (x ∷ xs) = (refl, as_it_is other xs)

pub loop-row-init : goal.loop-row-init
loop-row-init c = record {
  made = c.new-made.ensures.items;
  rising = c.requires.other;
  same = as_it_is c.args.other.now c.args.one.now;
}

pub loop-row-preserved : goal.loop-row-preserved
loop-row-preserved c =
    let one : List Stored = c.args.one.now in
    let other : List Stored = c.args.other.now in
    let p : Stored → Bool = λ s. not (list_any (same_stored s) other) in
    let i = c.loop-row.row-index in
    let x : Stored = c.row-item.result in
    let rest : List Stored = c.loop-row.rest.now in
    let next : List Stored = c.from_row-rest.result.now in
    let now : list_any (same_stored x) next ≡ list_any (same_stored x) other =
    tells_now one other rest next i x c.requires.one c.loop-row-test.true c.row-item.is c.loop-row.invariant.same
    c.from_row-rest.ensures.same in
    record {
      made = elim c.if-not-begins_with.branch [
        | then-not-begins_with+in_ok-share+in_ok-push w ↦
            ap (λ v. v.items) w.made-is ∙ w.in_ok-push.ensures.items
            ∙ ap (λ (y : Stored). c.loop-row.made.items ++ y ∷ []) w.in_ok-share.ensures
            ∙ kept_more p one i x c.loop-row-test.true c.row-item.is c.loop-row.made.items c.loop-row.invariant.made
            (ap not (sym now ∙ sym c.begins_with.ensures ∙ w.if-not-begins_with.true))
        | else-not-begins_with w ↦
            ap (λ v. v.items) w.made-is
            ∙ passed_more p one i x c.loop-row-test.true c.row-item.is c.loop-row.made.items c.loop-row.invariant.made
            (ap not (sym now ∙ sym c.begins_with.ensures ∙ w.if-not-begins_with.false))
      ];
      rising = c.from_row-rest.ensures.rising;
      same = tells_later one other rest next i x c.requires.one c.loop-row-test.true c.row-item.is c.loop-row.invariant.same
          c.from_row-rest.ensures.same;
    }
