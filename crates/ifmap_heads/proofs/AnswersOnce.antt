-- Each wire's bytes are read as answers in one way: what is read has one of three shapes, no two of which can be of the same bytes.
use Rattle.std.proofs.Common.{◌≡◌, ℕ, inl, inr, false, cond, List, [], ◌++◌, length, take, drop, refl, sym, ap, ◌∙◌, arith, nat_lt, length-append}
use Rattle.std.proofs.Math.Seq.{take-append_seam, drop-append_seam}
use Rattle.std.proofs.lemmas.Bool.{le-ltb, lt-ltb}
use Rattle.httparse.specs.Grammar.{ResponseHead}
use Rattle.httparse.proofs.GrammarLemmas.{response_unique}
use Rattle.ifmap_heads.specs.Answers.{Answering, ReadsAnswer, Verdict, answered, ended, judge_answer, not_http, other, sized, status, unfit}
use Rattle.ifmap_heads.specs.Heads.{BeginsNoAnswer, IsAnswerHead, IsCutAnswerHead}

-- what a head and the bytes after it are read as
come_of : Verdict → List ℕ → Answering
come_of (other number) rest = status number rest
come_of (sized size) rest = cond (nat_lt (length rest) size) ended (answered (take size rest) (drop size rest))
come_of unfit rest = not_http

data Shape (left : List ℕ) (a : Answering) : Type 0 where
  cut : IsCutAnswerHead left → a ≡ ended → Shape left a
  none : BeginsNoAnswer left → a ≡ not_http → Shape left a
  whole : (head : ResponseHead) (rest : List ℕ) → IsAnswerHead left head rest → a ≡ come_of (judge_answer head) rest → Shape left a

shape_of : (left : List ℕ) (a : Answering) → ReadsAnswer left a → Shape left a
unfolding come_of
shape_of left ended (inl is) = cut is refl
shape_of left ended (inr (head, rest, size, is, says, short)) =
    whole head rest is (rw says (rw (lt-ltb (length rest) size short) refl))
shape_of left not_http (inl is) = none is refl
shape_of left not_http (inr (head, rest, is, says)) = whole head rest is (rw says refl)
shape_of left (status number rest) (head, is, says) = whole head rest is (rw says refl)
shape_of left (answered body rest) (head, is, says) =
    let enough : nat_lt (length (body ++ rest)) (length body) ≡ false = le-ltb (length (body ++ rest)) (length body)
    (omega (arith, length-append body rest)) in
    whole head (body ++ rest) is (rw says (rw (enough, take-append_seam body rest, drop-append_seam body rest) refl))

cut_none : (left : List ℕ) → IsCutAnswerHead left → BeginsNoAnswer left → ⊥
cut_none left is it = elim it.passed [
  | inl long ↦ omega (arith, long, is.short)
  | inr (inl many) ↦ omega (arith, many, is.few)
  | inr (inr never) ↦ let (more, h, reads) = is.unfinished in never more h [] reads
]

same_shape : (left : List ℕ) (a b : Answering) → Shape left a → Shape left b → a ≡ b
same_shape left a b (cut is p) (cut it q) = cc
same_shape left a b (cut is p) (none it q) = absurd (cut_none left is it)
same_shape left a b (cut is p) (whole h rest it q) = absurd (is.none h rest it)
same_shape left a b (none is p) (cut it q) = absurd (cut_none left it is)
same_shape left a b (none is p) (none it q) = cc
same_shape left a b (none is p) (whole h rest it q) = absurd (is.none h rest it)
same_shape left a b (whole h rest is p) (cut it q) = absurd (it.none h rest is)
same_shape left a b (whole h rest is p) (none it q) = absurd (it.none h rest is)
same_shape left a b (whole h rest is p) (whole k after it q) =
    let same = response_unique left h k rest after is.reads it.reads in
    p ∙ ap (λ (x : ResponseHead). come_of (judge_answer x) rest) same.0 ∙ ap (come_of (judge_answer k)) same.1 ∙ sym q

pub one_way : (left : List ℕ) (a b : Answering) → ReadsAnswer left a → ReadsAnswer left b → a ≡ b
one_way left a b x y = same_shape left a b (shape_of left a x) (shape_of left b y)
