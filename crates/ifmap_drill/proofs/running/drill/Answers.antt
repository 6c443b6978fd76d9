use Rattle.std.proofs.Common.{◌≡◌, ℕ, List, ap, subst, ◌∙◌}
use Rattle.ifmap_drill.specs.Drilled.{IsEnded, side}
use Rattle.ifmap_drill.specs.Summaries.{drill_text, summary_text}
use Rattle.ifmap_drill.proofs.running.drill.Goals as goal

pub returns : goal.returns
returns g c =
    let text : c.as_bytes.result.now ≡ drill_text c.args.key c.args.count =
    c.as_bytes.ensures ∙ c.in-Ok-summary_text.ensures ∙ ap summary_text c.in-Ok.ensures in
    record {
      ended = subst (λ (t : List ℕ). IsEnded t (side (g.K.Sink.held c.args.sink.now) (g.K.Sink.faults c.args.sink.now))
          (side (g.K.Sink.held c.write_summary.new.sink) (g.K.Sink.faults c.write_summary.new.sink)) c.write_summary.result) text
          c.write_summary.ensures;
      agrees = c.drills_agree.ensures.agrees c.args.key c.args.count;
    }
