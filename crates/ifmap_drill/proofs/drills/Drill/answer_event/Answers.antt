use Rattle.std.proofs.Common.{ap, ◌∙◌}
use Rattle.ifmap_core.specs.ifmap_machine.declared.events.Ask.{Ask}
use Rattle.ifmap_core.specs.ifmap_machine.Events.{Event}
use Rattle.ifmap_drill.specs.DrillCounts.{counts_of_event, counts_sum}
use Rattle.std.proofs.lemmas.Result.{on_ok_weaker}
use Rattle.ifmap_drill.proofs.Counting.{answer_kept}
use Rattle.ifmap_drill.proofs.drills.Drill.answer_event.Goals as goal

pub returns : goal.returns
returns g c =
    let ask = ap (λ (e : Event). e.ask) c.event.view_is in
    let counted =
    c.count.ensures ∙ ap (λ (a : Ask). counts_sum c.args.self.now.counts (counts_of_event a c.in_ok-answer.answer)) ask in
    on_ok_weaker c.keep_id.result (λ kept.
    answer_kept c.args.i c.args.event.now c.args.self.now c.step.new.self c.in_ok-answer.answer c.count.new.self c.keep_id.new.ids
    c.in_ok-answer.ensures.answer counted kept)
    c.keep_id.ensures
