use Rattle.std.proofs.Common.{◌≡◌, sym, ◌∙◌, ap, true, false}
use Rattle.ifmap_core.specs.Completions.{poll_answer}
use Rattle.ifmap_core.proofs.Applying.{told_some}
use Rattle.ifmap_core.proofs.completions.answer_with.Goals as goal

pub returns-then-is_empty : goal.returns-then-is_empty
returns-then-is_empty c = sym (ap poll_answer (c.is_empty.ensures.0 c.if-is_empty.true))

pub returns : goal.returns
returns c =
    sym (told_some c.args.items (λ none. let bad : true ≡ false = sym (c.is_empty.ensures.1 none) ∙ c.if-is_empty.false in cc))
