-- Line by line to the end of the script.
use Rattle.std.proofs.Common.{◌∙◌, ap, refl}
use Rattle.ifmap_client_script.specs.Ends.{source_and_ports}
use Rattle.ifmap_client_script.specs.Turns.{Scripting}
use Rattle.ifmap_client_script.proofs.Endings.{begin, promises_done, ends_with, later_ends, comes_nearer, reaches_next}
use Rattle.ifmap_client_script.proofs.Loans.{same_then}
use Rattle.ifmap_client_script.proofs.scripts.Script.run.Goals as goal

pub lines-init : goal.lines-init
lines-init g c =
    let before = source_and_ports (g.S.Source.left c.args.source.now) (g.S.Source.faults c.args.source.now)
    (g.O.Outlets.seen c.args.outlets.now) in (
      begin c.args.caller.now before c.args.self.now c.requires.beginning c.requires.can_ask.unspent.first
          c.requires.can_ask.unspent.second,
      record { sink = refl; first = refl; second = refl },
    )

pub turn-requires : goal.turn-requires
turn-requires g c =
    let exchanged = c.lines.invariant.0.did.exchanged in
    record {
      unspent = record { first = exchanged.first.unspent; second = exchanged.second.unspent };
      visible = c.requires.can_ask.visible;
    }

pub lines-preserved : goal.lines-preserved
lines-preserved g c =
    let before = source_and_ports (g.S.Source.left c.args.source.now) (g.S.Source.faults c.args.source.now)
    (g.O.Outlets.seen c.args.outlets.now) in
    let now = source_and_ports (g.S.Source.left c.lines.source) (g.S.Source.faults c.lines.source) (g.O.Outlets.seen c.lines.outlets) in
    let after = source_and_ports (g.S.Source.left c.turn.new.source) (g.S.Source.faults c.turn.new.source)
    (g.O.Outlets.seen c.turn.new.outlets) in (
      reaches_next c.args.caller.now before now after c.lines.self c.lines.invariant.0 c.turn.new.self c.in-Ok-Carried.ensures.later
          (rw c.in-Ok-Carried.field-0-is at c.in-Ok-Carried.ensures.turns),
      same_then _ _ _ c.lines.invariant.1 c.in-Ok-Carried.ensures.same,
    )

pub lines-smaller : goal.lines-smaller
lines-smaller g c =
    let now = source_and_ports (g.S.Source.left c.lines.source) (g.S.Source.faults c.lines.source) (g.O.Outlets.seen c.lines.outlets) in
    let after = source_and_ports (g.S.Source.left c.turn.new.source) (g.S.Source.faults c.turn.new.source)
    (g.O.Outlets.seen c.turn.new.outlets) in
    comes_nearer c.args.caller.now now after c.lines.self c.turn.new.self (rw c.in-Ok-Carried.field-0-is at c.in-Ok-Carried.ensures.turns)

pub returns-in-Ok-Ended-clause-carried : goal.returns-in-Ok-Ended-clause-carried
returns-in-Ok-Ended-clause-carried g c =
    let before = source_and_ports (g.S.Source.left c.args.source.now) (g.S.Source.faults c.args.source.now)
    (g.O.Outlets.seen c.args.outlets.now) in
    let now = source_and_ports (g.S.Source.left c.lines.source) (g.S.Source.faults c.lines.source) (g.O.Outlets.seen c.lines.outlets) in
    let after = source_and_ports (g.S.Source.left c.turn.new.source) (g.S.Source.faults c.turn.new.source)
    (g.O.Outlets.seen c.turn.new.outlets) in
    record {
      promises = promises_done c.args.caller.now before now after c.lines.self c.lines.invariant.0
          (rw c.in-Ok-Ended.field-0-is at c.in-Ok-Ended.ensures.turns);
      later = later_ends before now after c.lines.invariant.0.later c.in-Ok-Ended.ensures.later;
    }

pub returns-in-Ok-Ended-clause-same : goal.returns-in-Ok-Ended-clause-same
returns-in-Ok-Ended-clause-same g c = same_then _ _ _ c.lines.invariant.1 c.in-Ok-Ended.ensures.same

pub returns-in-Err-clause-carried : goal.returns-in-Err-clause-carried
returns-in-Err-clause-carried g c =
    let before = source_and_ports (g.S.Source.left c.args.source.now) (g.S.Source.faults c.args.source.now)
    (g.O.Outlets.seen c.args.outlets.now) in
    let now = source_and_ports (g.S.Source.left c.lines.source) (g.S.Source.faults c.lines.source) (g.O.Outlets.seen c.lines.outlets) in
    let after = source_and_ports (g.S.Source.left c.turn.new.source) (g.S.Source.faults c.turn.new.source)
    (g.O.Outlets.seen c.turn.new.outlets) in
    let line = ap (λ (t : Scripting). t.line) c.self.view_is ∙ c.in-Err.ensures.line in
    record {
      promises = ends_with c.args.caller.now before now after c.lines.self c.lines.invariant.0 c.turn.new.self c.in-Err.failure
          c.self.inside.line c.outcome_at_line.result c.outcome_at_line.ensures line c.in-Err.ensures.turns;
      later = later_ends before now after c.lines.invariant.0.later c.in-Err.ensures.later;
    }

pub returns-in-Err-clause-same : goal.returns-in-Err-clause-same
returns-in-Err-clause-same g c = same_then _ _ _ c.lines.invariant.1 c.in-Err.ensures.same
