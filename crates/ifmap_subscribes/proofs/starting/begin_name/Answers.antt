use Rattle.std.proofs.Common.{List, inl, arith, subst}
use Rattle.ifmap_changes.specs.Between.{IsSteady}
use Rattle.ifmap_changes.specs.ifmap_graph.Seen.{rows_now}
use Rattle.ifmap_lemmas.specs.Results.{on_err}
use Rattle.ifmap_changes.specs.ifmap_standing.declared.standing.Standing.{Standing}
use Rattle.ifmap_subscribes.proofs.Spending.{spanned_as}
use Rattle.ifmap_subscribes.proofs.Starts.{ends_steady, held_alone, held_and_let_go, held_steady, unheld_steady}
use Rattle.ifmap_subscribes.proofs.starting.begin_name.Given as given
use Rattle.ifmap_subscribes.proofs.starting.begin_name.Goals as goal
use Rattle.ifmap_subscribes.proofs.starting.begin_name.Goals.{After-begin_at}
use Rattle.ifmap_subscribes.specs.Bounds.{IsWithinSpan}
use Rattle.ifmap_subscribes.specs.Readying.{BeginsName, GraphHolds, IsHolding}

-- the graph that holds the number of the start is steady but for it
steady : (g : given.Over) (c : After-begin_at g) (standing : List Standing) → IsSteady c.args.graph.now standing
    → IsHolding c.hold.new.self standing c.in_ok-number.number c.args.wanted.now.search.now.start
steady g c standing was =
    let h = c.in_ok-number.ensures in
    held_steady c.args.graph.now c.hold.new.self standing c.in_ok-number.number c.args.wanted.now.search.now.start was
    h.keeps.shelves h.keeps.still h.kept h.own h.named

-- nothing else changes in it
alone : (g : given.Over) (c : After-begin_at g) → GraphHolds c.args.graph.now c.hold.new.self
alone g c =
    let h = c.in_ok-number.ensures in
    held_alone c.args.graph.now c.hold.new.self h.keeps.shelves h.links h.kept h.keeps.backs h.keeps.waits h.keeps.lean

-- the steps, whether there is memory or not
spent : (g : given.Over) (c : After-begin_at g)
    → IsWithinSpan 4 (rows_now c.args.graph.now) c.args.wanted.now.search.now c.args.steps.now c.begin_at.new.steps
spent g c =
    spanned_as 4 (rows_now c.hold.new.self) (rows_now c.args.graph.now) c.args.wanted.now.search.now c.args.steps.now c.begin_at.new.steps
    (alone g c).rows c.begin_at.ensures.steps

pub returns-in_err-number-clause-err : goal.returns-in_err-number-clause-err
returns-in_err-number-clause-err g c =
    let h = c.in_err-number.ensures in
    on_err c.from_residual.result ((standing : List Standing) → IsSteady c.args.graph.now standing → IsSteady c.hold.new.self standing)
    (λ standing was. unheld_steady c.args.graph.now c.hold.new.self standing was h.keeps.shelves h.keeps.still h.kept h.err)

pub release_unused-requires : goal.release_unused-requires
release_unused-requires g c =
    (c.requires.steady.0, steady g (goal.at.release_unused-requires g c).After-begin_at c.requires.steady.0 c.requires.steady.1)

pub release_held-requires : goal.release_held-requires
release_held-requires g c =
    (c.requires.steady.0, steady g (goal.at.release_held-requires g c).After-begin_at c.requires.steady.0 c.requires.steady.1)

pub returns-in-Ok-clause-begins : goal.returns-in-Ok-clause-begins
returns-in-Ok-clause-begins g c =
    let wanted = c.args.wanted.now in
    subst (λ rows. BeginsName rows wanted.serial wanted.name.now wanted.search.now c.in-Ok.renaming)
    (alone g (goal.at.returns-in-Ok-clause-begins g c).After-begin_at).rows c.in-Ok.ensures.begins

pub returns-in-Ok-clause-steady : goal.returns-in-Ok-clause-steady
returns-in-Ok-clause-steady g c = λ standing was.
    let held = steady g (goal.at.returns-in-Ok-clause-steady g c).After-begin_at standing was in
    ends_steady c.hold.new.self c.release_unused.new.graph standing c.in_ok-number.number c.args.wanted.now.search.now
    c.in-Ok.renaming.standing held (λ e. c.release_unused.ensures.unused e standing held) c.release_unused.ensures.used c.in-Ok.ensures.kept

pub returns-in-Ok-clause-holds : goal.returns-in-Ok-clause-holds
returns-in-Ok-clause-holds g c =
    held_and_let_go c.args.graph.now c.hold.new.self c.release_unused.new.graph c.in_ok-number.number
    (alone g (goal.at.returns-in-Ok-clause-holds g c).After-begin_at) c.release_unused.ensures.released c.in_ok-number.ensures.again
    c.release_unused.ensures.stays

pub returns-in-Err-clause-err : goal.returns-in-Err-clause-err
returns-in-Err-clause-err g c = λ standing was.
    c.release_held.ensures.steady standing (steady g (goal.at.returns-in-Err-clause-err g c).After-begin_at standing was)

pub returns-in-Err-clause-holds : goal.returns-in-Err-clause-holds
returns-in-Err-clause-holds g c =
    held_and_let_go c.args.graph.now c.hold.new.self c.release_held.new.graph c.in_ok-number.number
    (alone g (goal.at.returns-in-Err-clause-holds g c).After-begin_at) c.release_held.ensures.released c.in_ok-number.ensures.again
    c.release_held.ensures.stays

pub returns-in_err-number-clause-steps : goal.returns-in_err-number-clause-steps
returns-in_err-number-clause-steps g c = inl (omega arith)

pub returns-in-Ok-clause-steps : goal.returns-in-Ok-clause-steps
returns-in-Ok-clause-steps g c = spent g (goal.at.returns-in-Ok-clause-steps g c).After-begin_at

pub returns-in-Err-clause-steps : goal.returns-in-Err-clause-steps
returns-in-Err-clause-steps g c = spent g (goal.at.returns-in-Err-clause-steps g c).After-begin_at
