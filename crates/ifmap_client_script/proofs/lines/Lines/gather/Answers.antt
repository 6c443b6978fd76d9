use Rattle.std.proofs.Common.{arith}
use Rattle.ifmap_client_script.proofs.Waiting.{gathers_err, gathers_more}
use Rattle.ifmap_client_script.proofs.lines.Lines.gather.Goals as goal

pub line-preserved : goal.line-preserved
line-preserved g c =
    let later = c.line.invariant.1 in
    let more = c.in-Ok.ensures.later in (
      gathers_more (g.S.Source.left c.args.source.now) (g.S.Source.left c.line.source) (g.S.Source.left c.fill.new.source) c.args.offset
          c.args.self.now c.line.self c.fill.new.self c.line.invariant.0 c.line-test.ensures.yes c.in-Ok.ensures.fills,
      omega arith,
    )

pub returns-in-Err-clause-gathers : goal.returns-in-Err-clause-gathers
returns-in-Err-clause-gathers g c =
    gathers_err (g.S.Source.left c.args.source.now) (g.S.Source.left c.line.source) (g.S.Source.left c.fill.new.source) c.args.offset
    c.args.self.now c.line.self c.fill.new.self c.line.invariant.0 c.line-test.ensures.yes c.in-Err.failure c.in-Err.ensures.fills
