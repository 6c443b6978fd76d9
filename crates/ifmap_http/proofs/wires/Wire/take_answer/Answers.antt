use Rattle.std.proofs.Common.{List, ℕ, inr}
use Rattle.ifmap_heads.specs.Answers.{ReadsAnswer, ended, not_http}
use Rattle.ifmap_http.specs.Outcomes.{GetsAnswer}
use Rattle.ifmap_http.proofs.Gets.{answers_refused, gets_nothing, told_whole}
use Rattle.ifmap_http.proofs.Reading.{for_told}
use Rattle.ifmap_http.proofs.wires.Wire.take_answer.Goals as goal

pub returns-in-Sized-clause-reads : goal.returns-in-Sized-clause-reads
returns-in-Sized-clause-reads g c =
    rw (← c.self.view_is)
    (for_told (λ (left : List ℕ). GetsAnswer left _ c.take_answered.result) _ _ _ _ c.in-Sized.ensures.taken c.take_answered.ensures.reads)

pub returns-in-Refused-clause-reads : goal.returns-in-Refused-clause-reads
returns-in-Refused-clause-reads g c =
    rw (c.advance.ensures, ← c.self.view_is)
    (answers_refused c.in-Refused.status c.in-Refused.size _ _ _ _ c.in-Refused.ensures.taken c.in-Refused.ensures.is)

pub returns-in-NotHttp-clause-reads : goal.returns-in-NotHttp-clause-reads
returns-in-NotHttp-clause-reads g c =
    rw (← c.self.view_is) (told_whole (λ xs. ReadsAnswer xs not_http) _ _ _ _ c.in-NotHttp.ensures.taken c.in-NotHttp.ensures.is)

pub returns-in-Ended-clause-reads : goal.returns-in-Ended-clause-reads
returns-in-Ended-clause-reads g c =
    rw (← c.self.view_is) (told_whole (λ xs. ReadsAnswer xs ended) _ _ _ _ c.in-Ended.ensures.taken (inr c.in-Ended.ensures.is))

pub returns-in-ReadFault-clause-reads : goal.returns-in-ReadFault-clause-reads
returns-in-ReadFault-clause-reads g c = gets_nothing _

pub returns-in-NoMemory-clause-reads : goal.returns-in-NoMemory-clause-reads
returns-in-NoMemory-clause-reads g c = gets_nothing _
