-- Which bytes are an answer: RFC 9110, sections 8 and 15.
use Rattle.std.specs.Prelude.{◌≡◌, ℕ, ◌<◌, ◌⊎◌, ◌==◌, nat_lt, not, List, ◌++◌, length, map, Option, Some, None, codes, if◌then◌else◌}
use Rattle.httparse.specs.Grammar.{ResponseHead, status_code}
use Rattle.httparse.specs.Spans.{name_and_value}
use Rattle.ifmap_heads.specs.Fields.{Fields, common_length, has_field, values}
use Rattle.ifmap_heads.specs.Heads.{BeginsNoAnswer, IsAnswerHead, IsCutAnswerHead}
use Rattle.ifmap_heads.specs.Limits.{longest_answer}

-- what a head says: a status other than 200, the length of a body, or neither
pub data Verdict : Type 0 where
  other : (status : ℕ) → Verdict
  sized : (size : ℕ) → Verdict
  unfit : Verdict

-- the length that a head tells, where it is not too long
abbrev pub judge_size : Option ℕ → Verdict
judge_size None = unfit
judge_size (Some size) = if nat_lt longest_answer size then unfit else sized size

-- the checks on an answer's status and fields, the status first
abbrev pub judge_status : ℕ → Fields → Verdict
judge_status status fields =
    if not (status == 200) then other status
    else (if has_field (codes "transfer-encoding") fields then unfit
    else judge_size (common_length (values (codes "content-length") fields)))

-- what an answer's head says
abbrev pub judge_answer : ResponseHead → Verdict
judge_answer head = judge_status (status_code head) (map name_and_value head.fields)

-- what the bytes that a wire has left begin with
pub data Answering : Type 0 where
  ended not_http : Answering
  status : (number : ℕ) (rest : List ℕ) → Answering
  answered : (body rest : List ℕ) → Answering

-- left, after which nothing comes, is that: the end of input before an answer is whole, no answer, a
-- status other than 200 and what is left after its head, or a body and what is left after it
abbrev pub ReadsAnswer : List ℕ → Answering → Type 0
ReadsAnswer left ended =
    IsCutAnswerHead left ⊎ ((head : ResponseHead) × (rest : List ℕ) × (size : ℕ)
    × IsAnswerHead left head rest × (judge_answer head ≡ sized size) × (length rest < size))
ReadsAnswer left not_http =
    BeginsNoAnswer left ⊎ ((head : ResponseHead) × (rest : List ℕ)
    × IsAnswerHead left head rest × (judge_answer head ≡ unfit))
ReadsAnswer left (status number rest) =
    (head : ResponseHead) × IsAnswerHead left head rest × (judge_answer head ≡ other number)
ReadsAnswer left (answered body rest) =
    (head : ResponseHead) × IsAnswerHead left head (body ++ rest) × (judge_answer head ≡ sized (length body))
