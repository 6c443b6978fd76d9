use Rattle.std.proofs.Common.{ℕ, subst, sym}
use Rattle.ifmap_heads.specs.Answers.{sized}
use Rattle.ifmap_heads.specs.Starts.{HasAnswerHead}
use Rattle.ifmap_http.proofs.Reading.{answer_lacks, answer_read}
use Rattle.ifmap_http.proofs.wires.Wire.take_answered.Goals as goal

pub returns-in-Ok-clause-reads : goal.returns-in-Ok-clause-reads
returns-in-Ok-clause-reads g c =
    rw (← c.self.view_is)
    (λ all told.
    answer_read c.self.inside.input c.args.size _ _ all _ c.in-Ok.body.items
    (subst (λ (n : ℕ). HasAnswerHead c.self.inside.input c.args.size (sized n)) (sym c.in-Ok.ensures.size)
    (rw (← c.self.view_is) at c.requires))
    told (rw c.advance.ensures at c.in-Ok.ensures.body))

pub returns-in-Err-Truncated-clause-reads : goal.returns-in-Err-Truncated-clause-reads
returns-in-Err-Truncated-clause-reads g c =
    rw (← c.self.view_is)
    (λ all told.
    answer_lacks c.self.inside.input c.args.size c.args.body _ _ all
    (rw (← c.self.view_is) at c.requires) told (rw c.advance.ensures at (c.in-Err-Truncated.ensures.truncated (cc))))
