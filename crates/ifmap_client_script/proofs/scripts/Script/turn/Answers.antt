-- The next line is read, and then carried out.
use Rattle.std.proofs.Common.{ap, subst, Err}
use Rattle.ifmap_client_script.specs.Ends.{source_and_ports}
use Rattle.ifmap_client_script.specs.Turns.{Scripting, IsScriptTurn}
use Rattle.ifmap_client_script.proofs.Turning.{turn_does_next, turned_end, turned_err}
use Rattle.ifmap_client_script.proofs.scripts.Script.turn.Goals as goal

pub returns-in-Ok-Some-clause-turns : goal.returns-in-Ok-Some-clause-turns
returns-in-Ok-Some-clause-turns g c =
    let s = c.self.inside in
    rw (← c.self.view_is)
    (turn_does_next c.args.caller.now (g.S.Source.left c.args.source.now) (g.S.Source.left c.next_line.new.source)
    (g.S.Source.faults c.args.source.now) (g.S.Source.faults c.next_line.new.source) (g.O.Outlets.seen c.args.outlets.now)
    (g.O.Outlets.seen c.do_next.new.outlets) (record { client = s.client; pending = s.lines; offset = s.offset; line = s.line })
    c.do_next.new.self c.next_line.new.lines c.in-Ok-Some.next c.lines_mean_one_thing.ensures
    (rw c.in-Ok-Some.field-0-is at c.in-Ok-Some.ensures.reads) c.do_next.result c.do_next.ensures.does)

pub returns-in-Ok-None-clause-turns : goal.returns-in-Ok-None-clause-turns
returns-in-Ok-None-clause-turns g c =
    let s = c.self.inside in
    rw (← c.self.view_is)
    (turned_end c.args.caller.now (g.S.Source.left c.args.source.now) (g.S.Source.left c.next_line.new.source)
    (g.S.Source.faults c.args.source.now) (g.S.Source.faults c.next_line.new.source) (g.O.Outlets.seen c.args.outlets.now)
    (record { client = s.client; pending = s.lines; offset = s.offset; line = s.line })
    (record { client = s.client; pending = c.next_line.new.lines; offset = s.offset; line = s.line }) c.next_line.new.lines
    (rw c.in-Ok-None.field-0-is at c.in-Ok-None.ensures.reads))

pub returns-in-Err-clause-turns : goal.returns-in-Err-clause-turns
returns-in-Err-clause-turns g c =
    let s = c.self.inside in
    let b = g.O.Outlets.seen c.args.outlets.now in
    subst
    (λ (o : Scripting). IsScriptTurn c.args.caller.now
    (source_and_ports (g.S.Source.left c.args.source.now) (g.S.Source.faults c.args.source.now) b)
    (source_and_ports (g.S.Source.left c.next_line.new.source) (g.S.Source.faults c.next_line.new.source) b) o
    (record { client = s.client; pending = c.next_line.new.lines; offset = s.offset; line = s.line }) (Err c.in-Err.failure)) c.self.view_is
    (turned_err c.args.caller.now (g.S.Source.left c.args.source.now) (g.S.Source.left c.next_line.new.source)
    (g.S.Source.faults c.args.source.now) (g.S.Source.faults c.next_line.new.source) b
    (record { client = s.client; pending = s.lines; offset = s.offset; line = s.line })
    (record { client = s.client; pending = c.next_line.new.lines; offset = s.offset; line = s.line }) c.next_line.new.lines
    c.in-Err.failure c.in-Err.ensures.reads (λ e. c.in-Err.ensures.fault (ap Err e)))
