use Rattle.std.proofs.Common.{◌≡◌, ◌≢◌, ◌∙◌, ap, sym, subst, ◌++◌, [], None, Some}
use Rattle.std.proofs.lemmas.List.{append-nil}
use Rattle.std.specs.List.Sorted.{IsStrictlySortedBy}
use Rattle.ifmap_plans.specs.Plans.{list_after}
use Rattle.ifmap_view.specs.Attachments.{stored_order}
use Rattle.ifmap_delta.specs.Shown.{shown_on}
use Rattle.ifmap_delta.specs.Touched.{change_at}
use Rattle.ifmap_delta.proofs.Showing.{shown_rises}
use Rattle.ifmap_delta.proofs.Touching.{both_shown, nothing_told}
use Rattle.ifmap_delta.proofs.differing.add_differences.Given as given
use Rattle.ifmap_delta.proofs.differing.add_differences.Goals as goal
use Rattle.ifmap_delta.proofs.differing.add_differences.Goals.{After-change_at, After-rows_shown-now}

-- what was shown rises, and what is shown now
was_rises : (g : given.Over) (c : After-rows_shown-now g) → IsStrictlySortedBy stored_order c.rows_shown-was.result.now
was_rises g c =
    let before = c.args.before.now
    in subst (IsStrictlySortedBy stored_order) (sym c.rows_shown-was.ensures)
    (shown_rises (g.G.View.rows before.view.now) before.search.now c.args.one.item c.requires.sides.graph)

now_rises : (g : given.Over) (c : After-rows_shown-now g) → IsStrictlySortedBy stored_order c.rows_shown-now.result.now
now_rises g c =
    let after = c.args.after.now
    in subst (IsStrictlySortedBy stored_order) (sym c.rows_shown-now.ensures)
    (shown_rises (g.D.View.rows after.view.now) after.search.now c.args.one.item c.requires.sides.draft)

-- where both sides show the item, what is shown now is what the change beside it makes of what was shown
changed_rows : (g : given.Over) (c : After-change_at g)
    → shown_on (g.D.View.rows c.args.after.now.view.now) c.args.after.now.search.now c.args.one.item
    ≡ list_after (change_at c.args.changes.now c.args.one.place)
    (shown_on (g.G.View.rows c.args.before.now.view.now) c.args.before.now.search.now c.args.one.item)
changed_rows g c =
    let before = c.args.before.now
    in let after = c.args.after.now
    in both_shown (g.G.View.rows before.view.now) (g.D.View.rows after.view.now) before.search.now after.search.now c.args.one.item
    (change_at c.args.changes.now c.args.one.place) c.requires.change
    (subst (λ l. l ≢ []) c.rows_shown-was.ensures (c.is_one_sided.ensures.before c.if-is_one_sided.false))
    (subst (λ l. l ≢ []) c.rows_shown-now.ensures (c.is_one_sided.ensures.after c.if-is_one_sided.false))

-- and where there is no such change, the same
same_rows : (g : given.Over) (c : After-change_at g) → change_at c.args.changes.now c.args.one.place ≡ None
    → shown_on (g.D.View.rows c.args.after.now.view.now) c.args.after.now.search.now c.args.one.item
    ≡ shown_on (g.G.View.rows c.args.before.now.view.now) c.args.before.now.search.now c.args.one.item
same_rows g c none = changed_rows g c
    ∙ ap (λ o. list_after o (shown_on (g.G.View.rows c.args.before.now.view.now) c.args.before.now.search.now c.args.one.item)) none

pub add_any-requires-clause-before : goal.add_any-requires-clause-before
add_any-requires-clause-before g c = was_rises g (goal.at.add_any-requires-clause-before g c).After-rows_shown-now

pub add_any-requires-clause-after : goal.add_any-requires-clause-after
add_any-requires-clause-after g c = now_rises g (goal.at.add_any-requires-clause-after g c).After-rows_shown-now

pub add_named-requires-clause-before : goal.add_named-requires-clause-before
add_named-requires-clause-before g c = was_rises g (goal.at.add_named-requires-clause-before g c).After-rows_shown-now

pub add_named-requires-clause-after : goal.add_named-requires-clause-after
add_named-requires-clause-after g c = now_rises g (goal.at.add_named-requires-clause-after g c).After-rows_shown-now

pub add_named-requires-clause-change : goal.add_named-requires-clause-change
add_named-requires-clause-change g c =
    let before = c.args.before.now
    in c.rows_shown-now.ensures ∙ changed_rows g (goal.at.add_named-requires-clause-change g c).After-change_at
    ∙ ap (λ o. list_after o (shown_on (g.G.View.rows before.view.now) before.search.now c.args.one.item)) (sym c.in-Some.ensures)
    ∙ ap (list_after (Some c.in-Some.change.now)) (sym c.rows_shown-was.ensures)

pub returns-clause-deleted : goal.returns-clause-deleted
returns-clause-deleted g c =
    let before = c.args.before.now
    in let after = c.args.after.now
    in let x = c.args.one.item
    in let same = same_rows g (goal.at.returns-clause-deleted g c).After-change_at (sym c.in_default.ensures)
    in sym (append-nil c.args.told.now.deleted.items)
    ∙ ap (λ l. c.args.told.now.deleted.items ++ l) (nothing_told after.search.now.result_filter x
    (shown_on (g.G.View.rows before.view.now) before.search.now x) (shown_on (g.D.View.rows after.view.now) after.search.now x)
    (sym same))

pub returns-clause-updated : goal.returns-clause-updated
returns-clause-updated g c =
    let before = c.args.before.now
    in let after = c.args.after.now
    in let x = c.args.one.item
    in let same = same_rows g (goal.at.returns-clause-updated g c).After-change_at (sym c.in_default.ensures)
    in sym (append-nil c.args.told.now.updated.items)
    ∙ ap (λ l. c.args.told.now.updated.items ++ l) (nothing_told after.search.now.result_filter x
    (shown_on (g.D.View.rows after.view.now) after.search.now x) (shown_on (g.G.View.rows before.view.now) before.search.now x)
    same)
