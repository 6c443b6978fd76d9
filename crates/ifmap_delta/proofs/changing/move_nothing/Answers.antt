use Rattle.std.proofs.Common.{◌≡◌, ◌∙◌, ap, sym, ◌+◌, []}
use Rattle.ifmap_ident.specs.Items.{item_order}
use Rattle.ifmap_lemmas.specs.Rising.{nothing_rises}
use Rattle.ifmap_search.specs.Sizes.{entries_size}
use Rattle.ifmap_fresh.specs.Fresh.{fresh}
use Rattle.ifmap_region.specs.Marks.{mark_of, mark_over}
use Rattle.ifmap_folds.specs.Differences.{difference}
use Rattle.ifmap_delta.specs.Bounds.{IsWithinBound}
use Rattle.ifmap_delta.specs.Flipped.{AreFlipsOf}
use Rattle.ifmap_delta.specs.SeenViews.{view_seen}
use Rattle.ifmap_delta.proofs.Repairing.{repair_steps, repaired_marks, repaired_steps}
use Rattle.ifmap_delta.proofs.Sizing.{sizes_differ}
use Rattle.ifmap_delta.proofs.Staying.{all_settled, no_flips}
use Rattle.ifmap_delta.proofs.Telling.{difference_is}
use Rattle.ifmap_delta.proofs.changing.move_nothing.Given as given
use Rattle.ifmap_delta.proofs.changing.move_nothing.Goals as goal
use Rattle.ifmap_delta.proofs.changing.move_nothing.Goals.{After-repair}
use Rattle.ifmap_folds.specs.laws.FoldingLaws.{fresh_rises}

-- the draft has no flips with an end that has a mark
none : (g : given.Over) (c : After-repair g)
    → AreFlipsOf (view_seen g.G.View.rows g.G.View.id_at g.G.View.links c.args.graph.now)
    (view_seen g.D.View.rows g.D.View.id_at g.D.View.links c.args.draft.now) c.args.subscription.now.search
    (mark_of c.args.subscription.now.region.marks.entries) c.args.located.now.plan.now.changes []
none g c =
    let old = view_seen g.G.View.rows g.G.View.id_at g.G.View.links c.args.graph.now
    in let new = view_seen g.D.View.rows g.D.View.id_at g.D.View.links c.args.draft.now
    in let sub = c.args.subscription.now
    in no_flips c.bytes_tell_identifiers_apart.ensures old new sub.search c.requires.planned.graph c.requires.planned.draft
    c.args.located.now.plan.now.changes c.requires.planned.change sub.region.start sub.region.max_depth (mark_of sub.region.marks.entries)
    c.requires.kept.marks c.args.located.now.changes.items c.requires.planned.located c.requires.far

-- the steps of the repair, however it ends
spent : (g : given.Over) (c : After-repair g)
    → IsWithinBound (view_seen g.G.View.rows g.G.View.id_at g.G.View.links c.args.graph.now)
    (view_seen g.D.View.rows g.D.View.id_at g.D.View.links c.args.draft.now) c.args.subscription.now.search
    c.args.subscription.now.region.start c.args.steps.now c.repair.new.steps
spent g c =
    let old = view_seen g.G.View.rows g.G.View.id_at g.G.View.links c.args.graph.now
    in let new = view_seen g.D.View.rows g.D.View.id_at g.D.View.links c.args.draft.now
    in let sub = c.args.subscription.now
    in let mark = mark_of sub.region.marks.entries
    in let tells = c.bytes_tell_identifiers_apart.ensures
    in let changes = c.args.located.now.plan.now.changes
    in repair_steps tells old new sub.search c.requires.planned.graph c.requires.planned.draft changes c.requires.planned.change
    sub.region.start sub.region.max_depth mark c.requires.kept.marks c.args.steps.now c.repair.new.steps
    (repaired_steps tells old new sub.search c.requires.planned.graph c.requires.planned.draft changes c.requires.planned.change
    sub.region.start sub.region.max_depth mark c.requires.kept.marks [] (none g c) c.args.steps.now c.repair.new.steps
    c.repair.ensures.steps)

pub returns-clause-steps : goal.returns-clause-steps
returns-clause-steps g c = spent g (goal.at.returns-clause-steps g c).After-repair

pub returns-in_err-patch-clause-steps : goal.returns-in_err-patch-clause-steps
returns-in_err-patch-clause-steps g c = spent g (goal.at.returns-in_err-patch-clause-steps g c).After-repair

pub returns-clause-moved : goal.returns-clause-moved
returns-clause-moved g c =
    let old = view_seen g.G.View.rows g.G.View.id_at g.G.View.links c.args.graph.now
    in let new = view_seen g.D.View.rows g.D.View.id_at g.D.View.links c.args.draft.now
    in let sub = c.args.subscription.now
    in let s = sub.search
    in let mark = mark_of sub.region.marks.entries
    in let tells = c.bytes_tell_identifiers_apart.ensures
    in let changes = c.args.located.now.plan.now.changes
    in let change = c.requires.planned.change
    in let graph = c.requires.planned.graph
    in let draft = c.requires.planned.draft
    in let marks = c.requires.kept.marks
    in let keeps = c.numbers_keep_walks.ensures old.rows old.id_at old.links s sub.region.start graph marks.here
    in let keeps' = c.numbers_keep_walks.ensures new.rows new.id_at new.links s sub.region.start draft
    (change.numbers sub.region.start s.start marks.here)
    in let settled = all_settled tells old new s graph draft changes change sub.region.start sub.region.max_depth mark marks
    c.args.located.now.changes.items c.requires.planned.located c.requires.far c.levels_are_walks.ensures.reached
    c.levels_are_walks.ensures.expanded keeps keeps'
    in let a = fresh old.rows s
    in let b = fresh new.rows s
    in let deleted : [] ≡ difference a b = difference_is tells old new s graph.graph draft.graph []
    (nothing_rises item_order) (λ x h. absurd h)
    (λ x i f. let q = settled x i in (q.looked, q.stored))
    in let updated : [] ≡ difference b a = difference_is tells new old s draft.graph graph.graph []
    (nothing_rises item_order) (λ x h. absurd h)
    (λ x i f. let q = settled x i in (sym q.looked, λ h. sym (q.stored (q.looked ∙ h))))
    in record {
      deleted = c.new.ensures ∙ deleted;
      updated = c.new-2.ensures ∙ updated;
      keeps = record {
        marks = repaired_marks tells old new s graph draft changes change sub.region.start sub.region.max_depth mark marks
            [] (none g (goal.at.returns-clause-moved g c).After-repair) (mark_over c.in_ok-patch.patch mark) c.in_ok-patch.ensures.depths;
        size = sizes_differ a b (fresh_rises old.rows s graph.graph) (fresh_rises new.rows s draft.graph) sub.size sub.size
            c.requires.kept.size
            (ap (λ l. sub.size + entries_size l) (sym deleted) ∙ ap (λ l. sub.size + entries_size l) updated);
      };
    }
