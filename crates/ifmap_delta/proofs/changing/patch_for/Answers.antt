use Rattle.std.proofs.Common.{rules, ◌≡◌, ◌∙◌, ap, length, subst, sym}
use Rattle.std.proofs.lemmas.Result.{IfOk-weaker}
use Rattle.ifmap_region.specs.Bounds.{within_nothing}
use Rattle.ifmap_region.specs.Marks.{mark_of, mark_over}
use Rattle.ifmap_delta.specs.Bounds.{IsNear, one_and_links}
use Rattle.ifmap_delta.specs.Flipped.{AreFlipsOf}
use Rattle.ifmap_delta.specs.Located.{AreLocated, IsLocatedTwice}
use Rattle.ifmap_delta.specs.SeenViews.{view_seen}
use Rattle.ifmap_delta.proofs.Flipping.{added_linked}
use Rattle.ifmap_delta.proofs.InStep.{each_long}
use Rattle.ifmap_delta.proofs.Repairing.{repaired_marks, repaired_steps}
use Rattle.ifmap_delta.proofs.changing.patch_for.Given as given
use Rattle.ifmap_delta.proofs.changing.patch_for.Goals as goal
use Rattle.ifmap_delta.proofs.changing.patch_for.Goals.{After-deref-2}

pub returns-in_err-flips-clause-steps : goal.returns-in_err-flips-clause-steps
returns-in_err-flips-clause-steps g c =
    let old = view_seen g.G.View.rows g.G.View.id_at g.G.View.links c.args.graph.now
    in let new = view_seen g.D.View.rows g.D.View.id_at g.D.View.links c.args.draft.now
    in let sub = c.args.subscription.now
    in within_nothing (one_and_links old new sub.search) (IsNear old new sub.search sub.region.start) 5 c.args.steps.now

pub flips_of-requires : goal.flips_of-requires
flips_of-requires g c =
    let old = view_seen g.G.View.rows g.G.View.id_at g.G.View.links c.args.graph.now
    in let new = view_seen g.D.View.rows g.D.View.id_at g.D.View.links c.args.draft.now
    in let at : c.as_slice.result.now ≡ c.args.located.now.plan.now.changes = search rules
    in let on : c.deref.result.now ≡ c.args.located.now.changes.items = search rules
    in ap length on
    ∙ each_long (λ d l. IsLocatedTwice old new d.item l) c.args.located.now.plan.now.changes c.args.located.now.changes.items
    c.requires.planned.located
    ∙ ap length (sym at)

-- what goes to the repair are the flips of the plan
flips_are : (g : given.Over) (c : After-deref-2 g)
    → AreFlipsOf (view_seen g.G.View.rows g.G.View.id_at g.G.View.links c.args.graph.now)
    (view_seen g.D.View.rows g.D.View.id_at g.D.View.links c.args.draft.now) c.args.subscription.now.search
    (mark_of c.args.subscription.now.region.marks.entries) c.args.located.now.plan.now.changes c.deref-2.result.now
flips_are g c =
    let old = view_seen g.G.View.rows g.G.View.id_at g.G.View.links c.args.graph.now
    in let new = view_seen g.D.View.rows g.D.View.id_at g.D.View.links c.args.draft.now
    in let sub = c.args.subscription.now
    in let mark = mark_of sub.region.marks.entries
    in let at : c.as_slice.result.now ≡ c.args.located.now.plan.now.changes = search rules
    in let on : c.deref.result.now ≡ c.args.located.now.changes.items = search rules
    in let out : c.deref-2.result.now ≡ c.in_ok-flips.flips.items = search rules
    in let are = subst (λ cs. AreLocated old new cs c.deref.result.now) (sym at)
    (subst (λ ls. AreLocated old new c.args.located.now.plan.now.changes ls) (sym on) c.requires.planned.located)
    in subst (λ l. AreFlipsOf old new sub.search mark l c.deref-2.result.now) at
    (subst (λ l. AreFlipsOf old new sub.search mark c.as_slice.result.now l) (sym out) (c.in_ok-flips.ensures old new are))

pub repair-requires-clause-added : goal.repair-requires-clause-added
repair-requires-clause-added g c =
    let old = view_seen g.G.View.rows g.G.View.id_at g.G.View.links c.args.graph.now
    in let new = view_seen g.D.View.rows g.D.View.id_at g.D.View.links c.args.draft.now
    in let sub = c.args.subscription.now
    in let mark = mark_of sub.region.marks.entries
    in let flips = flips_are g (goal.at.repair-requires-clause-added g c).After-deref-2
    in added_linked c.bytes_tell_identifiers_apart.ensures old new sub.search c.requires.planned.graph
    c.requires.planned.draft c.args.located.now.plan.now.changes c.requires.planned.change mark c.deref-2.result.now flips

pub returns-clause-marks : goal.returns-clause-marks
returns-clause-marks g c =
    let old = view_seen g.G.View.rows g.G.View.id_at g.G.View.links c.args.graph.now
    in let new = view_seen g.D.View.rows g.D.View.id_at g.D.View.links c.args.draft.now
    in let sub = c.args.subscription.now
    in let mark = mark_of sub.region.marks.entries
    in let flips = flips_are g (goal.at.returns-clause-marks g c).After-deref-2
    in IfOk-weaker c.repair.result _ _
    (λ patch d. repaired_marks c.bytes_tell_identifiers_apart.ensures old new sub.search c.requires.planned.graph c.requires.planned.draft
    c.args.located.now.plan.now.changes c.requires.planned.change sub.region.start sub.region.max_depth mark c.requires.marks
    c.deref-2.result.now flips (mark_over patch mark) d)
    c.repair.ensures.depths

pub returns-clause-steps : goal.returns-clause-steps
returns-clause-steps g c =
    let old = view_seen g.G.View.rows g.G.View.id_at g.G.View.links c.args.graph.now
    in let new = view_seen g.D.View.rows g.D.View.id_at g.D.View.links c.args.draft.now
    in let sub = c.args.subscription.now
    in let mark = mark_of sub.region.marks.entries
    in let flips = flips_are g (goal.at.returns-clause-steps g c).After-deref-2
    in repaired_steps c.bytes_tell_identifiers_apart.ensures old new sub.search c.requires.planned.graph c.requires.planned.draft
    c.args.located.now.plan.now.changes c.requires.planned.change sub.region.start sub.region.max_depth mark c.requires.marks
    c.deref-2.result.now flips c.args.steps.now c.repair.new.steps c.repair.ensures.steps
