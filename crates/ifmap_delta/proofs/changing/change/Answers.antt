use Rattle.std.proofs.Common.{rules, ◌≡◌, ◌∙◌, ap, sym, subst, ◌+◌}
use Rattle.ifmap_search.specs.Sizes.{entries_size}
use Rattle.ifmap_fresh.specs.Collected.{numbers_of}
use Rattle.ifmap_fresh.specs.Fresh.{fresh}
use Rattle.ifmap_plans.specs.Plans.{IsAfter}
use Rattle.ifmap_region.specs.Marks.{mark_of, mark_over}
use Rattle.ifmap_delta.specs.Bounds.{IsWithinBound}
use Rattle.ifmap_delta.specs.Changes.{ShowsAfter}
use Rattle.ifmap_delta.specs.Located.{AreLocated}
use Rattle.ifmap_folds.specs.Differences.{difference}
use Rattle.ifmap_delta.specs.SeenViews.{view_seen}
use Rattle.ifmap_delta.proofs.Repairing.{change_steps, repair_steps}
use Rattle.ifmap_delta.proofs.Sizing.{sizes_differ}
use Rattle.ifmap_delta.proofs.Telling.{difference_is}
use Rattle.ifmap_delta.proofs.changing.change.Given as given
use Rattle.ifmap_delta.proofs.changing.change.Goals as goal
use Rattle.ifmap_delta.proofs.changing.change.Goals.{After-touched_items}
use Rattle.ifmap_folds.specs.laws.FoldingLaws.{fresh_rises}

-- the steps of the repair and of looking for what may tell something, however the call ends
steps_within_bound : (g : given.Over) (c : After-touched_items g)
    → IsWithinBound (view_seen g.G.View.rows g.G.View.id_at g.G.View.links c.args.graph.now)
    (view_seen g.D.View.rows g.D.View.id_at g.D.View.links c.args.draft.now) c.args.subscription.now.search
    c.args.subscription.now.region.start c.args.steps.now c.touched_items.new.steps
steps_within_bound g c =
    let old = view_seen g.G.View.rows g.G.View.id_at g.G.View.links c.args.graph.now
    in let new = view_seen g.D.View.rows g.D.View.id_at g.D.View.links c.args.draft.now
    in let sub = c.args.subscription.now
    in let mark = mark_of sub.region.marks.entries
    in change_steps c.bytes_tell_identifiers_apart.ensures old new sub.search c.requires.planned.graph c.requires.planned.draft
    c.args.located.now.plan.now.changes c.requires.planned.change sub.region.start sub.region.max_depth mark c.requires.kept.marks
    (mark_over c.in_ok-patch.patch mark) c.in_ok-patch.ensures.marks c.args.steps.now c.patch_for.new.steps c.touched_items.new.steps
    (numbers_of c.in_ok-patch.patch) c.touched_items.ensures.apart c.patch_for.ensures.steps c.touched_items.ensures.steps

pub returns-in_err-patch-clause-steps : goal.returns-in_err-patch-clause-steps
returns-in_err-patch-clause-steps g c =
    let old = view_seen g.G.View.rows g.G.View.id_at g.G.View.links c.args.graph.now
    in let new = view_seen g.D.View.rows g.D.View.id_at g.D.View.links c.args.draft.now
    in let sub = c.args.subscription.now
    in repair_steps c.bytes_tell_identifiers_apart.ensures old new sub.search c.requires.planned.graph c.requires.planned.draft
    c.args.located.now.plan.now.changes c.requires.planned.change sub.region.start sub.region.max_depth (mark_of sub.region.marks.entries)
    c.requires.kept.marks c.args.steps.now c.patch_for.new.steps c.patch_for.ensures.steps

pub touched_items-requires-clause-before : goal.touched_items-requires-clause-before
touched_items-requires-clause-before g c =
    (c.args.subscription.now.region.start, c.args.subscription.now.region.max_depth, c.requires.kept.marks)

pub touched_items-requires-clause-after : goal.touched_items-requires-clause-after
touched_items-requires-clause-after g c =
    (c.args.subscription.now.region.start, c.args.subscription.now.region.max_depth, c.in_ok-patch.ensures.marks)

pub touched_items-requires-clause-change : goal.touched_items-requires-clause-change
touched_items-requires-clause-change g c =
    let old = view_seen g.G.View.rows g.G.View.id_at g.G.View.links c.args.graph.now
    in let new = view_seen g.D.View.rows g.D.View.id_at g.D.View.links c.args.draft.now
    in let at : c.as_slice-changes.result.now ≡ c.args.located.now.plan.now.changes = search rules
    in subst (ShowsAfter old new) (sym at) c.requires.planned.change

pub touched_items-requires-clause-located : goal.touched_items-requires-clause-located
touched_items-requires-clause-located g c =
    let old = view_seen g.G.View.rows g.G.View.id_at g.G.View.links c.args.graph.now
    in let new = view_seen g.D.View.rows g.D.View.id_at g.D.View.links c.args.draft.now
    in let at : c.as_slice-changes.result.now ≡ c.args.located.now.plan.now.changes = search rules
    in let on : c.deref-2.result.now ≡ c.args.located.now.changes.items = search rules
    in subst (λ cs. AreLocated old new cs c.deref-2.result.now) (sym at)
    (subst (λ ls. AreLocated old new c.args.located.now.plan.now.changes ls) (sym on) c.requires.planned.located)

pub differences_on-requires-clause-sides : goal.differences_on-requires-clause-sides
differences_on-requires-clause-sides g c =
    let sub = c.args.subscription.now
    in record {
      graph = c.requires.planned.graph.graph;
      draft = c.requires.planned.draft.graph;
      before = (sub.region.start, sub.region.max_depth, c.requires.kept.marks);
      after = (sub.region.start, sub.region.max_depth, c.in_ok-patch.ensures.marks);
    }

pub differences_on-requires-clause-rising : goal.differences_on-requires-clause-rising
differences_on-requires-clause-rising g c = c.in_ok-items.ensures.touched.rising

pub differences_on-requires-clause-change : goal.differences_on-requires-clause-change
differences_on-requires-clause-change g c =
    let old = view_seen g.G.View.rows g.G.View.id_at g.G.View.links c.args.graph.now
    in let new = view_seen g.D.View.rows g.D.View.id_at g.D.View.links c.args.draft.now
    in let at : c.as_slice-changes.result.now ≡ c.args.located.now.plan.now.changes = search rules
    in subst (λ cs. IsAfter cs old.rows new.rows) (sym at) c.requires.planned.change.after

pub returns-in_err-items-clause-steps : goal.returns-in_err-items-clause-steps
returns-in_err-items-clause-steps g c = steps_within_bound g (goal.at.returns-in_err-items-clause-steps g c).After-touched_items

pub returns-in_err-told-clause-steps : goal.returns-in_err-told-clause-steps
returns-in_err-told-clause-steps g c = steps_within_bound g (goal.at.returns-in_err-told-clause-steps g c).After-touched_items

pub returns-in_default-clause-steps : goal.returns-in_default-clause-steps
returns-in_default-clause-steps g c = steps_within_bound g (goal.at.returns-in_default-clause-steps g c).After-touched_items

pub returns-clause-steps : goal.returns-clause-steps
returns-clause-steps g c = steps_within_bound g (goal.at.returns-clause-steps g c).After-touched_items

pub returns-clause-moved : goal.returns-clause-moved
returns-clause-moved g c =
    let old = view_seen g.G.View.rows g.G.View.id_at g.G.View.links c.args.graph.now
    in let new = view_seen g.D.View.rows g.D.View.id_at g.D.View.links c.args.draft.now
    in let sub = c.args.subscription.now
    in let s = sub.search
    in let tells = c.bytes_tell_identifiers_apart.ensures
    in let graph = c.requires.planned.graph
    in let draft = c.requires.planned.draft
    in let touched = c.in_ok-items.ensures.touched
    in let told = c.in_ok-told.told
    in let a = fresh old.rows s
    in let b = fresh new.rows s
    in let deleted : told.deleted.items ≡ difference a b = c.in_ok-told.ensures.deleted
    ∙ difference_is tells old new s graph.graph draft.graph c.in_ok-items.items.items touched.rising touched.canon
    (λ x i f. let q = touched.others x i f in (q.looked, q.stored))
    in let updated : told.updated.items ≡ difference b a = c.in_ok-told.ensures.updated
    ∙ difference_is tells new old s draft.graph graph.graph c.in_ok-items.items.items touched.rising touched.canon
    (λ x i f. let q = touched.others x i f in (sym q.looked, λ h. sym (q.stored (q.looked ∙ h))))
    in record {
      deleted = deleted;
      updated = updated;
      keeps = record {
        marks = c.in_ok-patch.ensures.marks;
        size = sizes_differ a b (fresh_rises old.rows s graph.graph) (fresh_rises new.rows s draft.graph) sub.size c.in-Some.new_size
            c.requires.kept.size
            (ap (λ l. c.in-Some.new_size + entries_size l) (sym deleted) ∙ c.in-Some.ensures
            ∙ ap (λ l. sub.size + entries_size l) updated);
      };
    }
