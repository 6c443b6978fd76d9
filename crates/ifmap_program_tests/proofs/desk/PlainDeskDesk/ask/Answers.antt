use Rattle.std.proofs.Common.{refl, ◌∙◌}
use Rattle.ifmap_program_tests.proofs.Plain.{tells_done}
use Rattle.ifmap_program_tests.proofs.desk.PlainDeskDesk.ask.Goals as goal

pub returns : goal.returns
returns c = record {
  tells = tells_done _ _ c.args.event 0 c.answer_by-reply.result tt tt (c.plan_for-plan.ensures.held ∙ c.note.ensures.held)
      (c.plan_for-plan.ensures.spent ∙ c.note.ensures.spent) refl refl c.answer_by-reply.ensures;
}
