use Rattle.std.proofs.Common.{arith, ◌∙◌}
use Rattle.ifmap_graph.proofs.Planned.{drafted_after, drafted_out, begins_drafting, drafts_on, there_at, within_on}
use Rattle.ifmap_graph.proofs.drafting.draft_changes.Goals as goal

pub loop-change-init : goal.loop-change-init
loop-change-init c = begins_drafting c.args.changes.now c.args.shelves.now c.requires.shelved c.requires.bare c.requires.fits

pub draft_one-requires-clause-shelved : goal.draft_one-requires-clause-shelved
draft_one-requires-clause-shelved c = c.loop-change.invariant.shelved

pub draft_one-requires-clause-there : goal.draft_one-requires-clause-there
draft_one-requires-clause-there c =
    there_at c.args.changes.now c.args.shelves.now c.loop-change.shelves c.loop-change.change-index c.loop-change-test.true
    c.change-item.result c.change-item.is
    c.loop-change.invariant c.requires.there

pub loop-change-preserved : goal.loop-change-preserved
loop-change-preserved c =
    drafts_on c.args.changes.now c.args.shelves.now c.loop-change.shelves c.loop-change.change-index c.loop-change-test.true
    c.change-item.result c.change-item.is
    c.loop-change.invariant c.draft_one.new.shelves c.draft_one.ensures.stays.shelved c.draft_one.ensures.now c.in_ok-draft_one.ensures.next
    c.draft_one.ensures.drafts
    c.draft_one.ensures.kept c.in_ok-draft_one.ensures.drafted c.draft_one.ensures.stays.place.ends c.draft_one.ensures.stays.place.waits
    c.draft_one.ensures.stays.place.places

pub returns-clause-next : goal.returns-clause-next
returns-clause-next c =
    drafted_after c.args.changes.now c.args.shelves.now c.loop-change.shelves c.loop-change.change-index
    (omega (arith, c.loop-change-test.false))
    c.loop-change.invariant

pub returns-clause-out : goal.returns-clause-out
returns-clause-out c =
    drafted_out c.args.changes.now c.args.shelves.now c.loop-change.shelves c.loop-change.change-index
    (omega (arith, c.loop-change-test.false))
    c.loop-change.invariant c.requires.fits

pub returns-in_err-draft_one-clause-within : goal.returns-in_err-draft_one-clause-within
returns-in_err-draft_one-clause-within c =
    within_on c.args.changes.now c.args.shelves.now c.loop-change.shelves c.loop-change.change-index c.loop-change-test.true
    c.change-item.result c.change-item.is
    c.loop-change.invariant c.draft_one.new.shelves c.draft_one.ensures.drafts

pub returns-clause-stays : goal.returns-clause-stays
returns-clause-stays c = record {
  shelved = c.loop-change.invariant.shelved;
  place = record {
    ends = c.loop-change.invariant.ends;
    waits = c.loop-change.invariant.waits;
    places = c.loop-change.invariant.places;
  };
}

pub returns-in_err-draft_one-clause-stays : goal.returns-in_err-draft_one-clause-stays
returns-in_err-draft_one-clause-stays c = record {
  shelved = c.draft_one.ensures.stays.shelved;
  place = record {
    ends = λ at. c.draft_one.ensures.stays.place.ends at ∙ c.loop-change.invariant.ends at;
    waits = λ x. c.draft_one.ensures.stays.place.waits x ∙ c.loop-change.invariant.waits x;
    places = c.draft_one.ensures.stays.place.places ∙ c.loop-change.invariant.places;
  };
}
