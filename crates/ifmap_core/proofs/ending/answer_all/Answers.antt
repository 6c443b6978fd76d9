use Rattle.std.proofs.Common.{refl}
use Rattle.ifmap_core.proofs.Expiring.{done_leads, would_be}
use Rattle.ifmap_core.proofs.Spending.{ask_none}
use Rattle.ifmap_core.proofs.ending.answer_all.Goals as goal
use Rattle.ifmap_core.specs.Ending.{state_when}
use Rattle.ifmap_core.specs.Completions.{starts_in}

pub apply_completion-requires-clause-can : goal.apply_completion-requires-clause-can
apply_completion-requires-clause-can g c = c.in-Some.ensures.some.can c.args.parts.now refl

pub apply_completion-requires-clause-parts : goal.apply_completion-requires-clause-parts
apply_completion-requires-clause-parts g c =
    would_be c.args.parts.now (starts_in c.in-Some.completion) c.in-Some.ensures.some.plain c.requires

pub returns-in-Some-clause-answers : goal.returns-in-Some-clause-answers
returns-in-Some-clause-answers g c = record {
  answer = done_leads c.args.time.now.ttl c.args.time.now.moment c.args.parts.now c.apply_completion.new.parts c.args.event.now
      c.args.event.now.ask
      c.in-Some.completion c.apply_completion.result c.in-Some.ensures.some c.apply_completion.ensures.rows
      (c.apply_completion.ensures.answer (state_when c.args.time.now c.args.parts.now) refl refl refl refl);
  kept = tt;
  parts = c.apply_completion.ensures.parts;
  lean = c.apply_completion.ensures.lean;
}

pub returns-in-Some-clause-steps : goal.returns-in-Some-clause-steps
returns-in-Some-clause-steps g c =
    ask_none (state_when c.args.time.now c.args.parts.now) c.args.event.now c.args.event.now.ask c.args.steps.now
