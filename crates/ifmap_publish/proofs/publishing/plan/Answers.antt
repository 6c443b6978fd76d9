use Rattle.std.proofs.Common.{◌≡◌}
use Rattle.ifmap_publish.specs.Apply.{apply}
use Rattle.ifmap_publish.proofs.Changing.{all_rising, edits_are_changes, edits_are_exact, edits_fit, edits_lead}
use Rattle.ifmap_publish.proofs.publishing.plan.Goals as goal

pub changes_by-requires : goal.changes_by-requires
changes_by-requires g c =
    all_rising (g.V.View.rows c.args.view.now) c.requires.graph c.requires.whole c.in_ok-edits.edits.entries c.in_ok-edits.ensures.edits

pub returns-clause-fits : goal.returns-clause-fits
returns-clause-fits g c =
    edits_fit (g.V.View.rows c.args.view.now) c.requires.graph c.requires.whole c.in_ok-edits.edits.entries c.in_ok-edits.ensures.edits
    c.changes_by.ensures.ordered _ c.in_ok-changes.ensures.changes

pub returns-clause-applies : goal.returns-clause-applies
returns-clause-applies g c =
    let all : c.as_slice.result.now ≡ c.args.ops.now = c.as_slice.ensures in
    let rows = g.V.View.rows c.args.view.now in
    edits_lead rows c.requires.graph c.requires.whole c.in_ok-edits.edits.entries c.in_ok-edits.ensures.edits
    c.changes_by.ensures.ordered _ c.in_ok-changes.ensures.changes
    (apply rows c.args.author.now c.args.ops.now) (rw all at c.in_ok-edits.ensures.applied)

pub returns-clause-exact : goal.returns-clause-exact
returns-clause-exact g c =
    let all : c.as_slice.result.now ≡ c.args.ops.now = c.as_slice.ensures in
    let rows = g.V.View.rows c.args.view.now in
    edits_are_exact rows c.requires.graph c.requires.whole c.in_ok-edits.edits.entries c.in_ok-edits.ensures.edits
    c.changes_by.ensures.ordered _ c.in_ok-changes.ensures.changes
    (apply rows c.args.author.now c.args.ops.now) (rw all at c.in_ok-edits.ensures.applied)

pub returns-clause-changes : goal.returns-clause-changes
returns-clause-changes g c =
    edits_are_changes (g.V.View.rows c.args.view.now) c.requires.graph c.requires.whole c.in_ok-edits.edits.entries
    c.in_ok-edits.ensures.edits
    c.changes_by.ensures.ordered _ c.in_ok-changes.ensures.changes
