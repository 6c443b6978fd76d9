-- What an answer is read as, by the head at its front or by the want of one.
use Rattle.std.proofs.Common.{◌≡◌, ℕ, ◌≤◌, inl, inr, List, ◌++◌, length}
use Rattle.httparse.specs.Grammar.{NeverHasResponse, ReadsResponse, ResponseHead, print_response}
use Rattle.httparse.proofs.GrammarLemmas.{ReadsResponse-append}
use Rattle.ifmap_heads.specs.Limits.{longest_head, most_fields}
use Rattle.ifmap_heads.specs.Answers.{ReadsAnswer, judge_answer, not_http, unfit}
use Rattle.ifmap_heads.proofs.HeadFronts.{PassesLimits, answers, never_more, none_ever}

-- no answer where the limits are passed
pub refused_past_limits : (left : List ℕ) → PassesLimits answers left → ReadsAnswer left not_http
refused_past_limits left past =
    inl (record { none = past.none; passed = elim past.passed [ inl long ↦ inl long | inr many ↦ inr (inl many) ] })

-- no answer where a head within the limits is unfit
pub unfit_head : (bytes more : List ℕ) (h : ResponseHead) (rest : List ℕ) → ReadsResponse bytes h rest
    → length (print_response h) ≤ longest_head → length h.fields ≤ most_fields → judge_answer h ≡ unfit
    → ReadsAnswer (bytes ++ more) not_http
unfit_head bytes more h rest reads short few says =
    inr (h, rest ++ more, record { reads = ReadsResponse-append bytes h rest more reads; short = short; few = few }, says)

-- no answer where no head can come
pub refused_never : (bytes more : List ℕ) → NeverHasResponse bytes → ReadsAnswer (bytes ++ more) not_http
refused_never bytes more never =
    inl (record { none = none_ever answers bytes more never; passed = inr (inr (never_more answers bytes more never)) })
