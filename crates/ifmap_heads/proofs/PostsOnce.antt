-- Each wire's bytes are read in one way: what is read has one of four shapes, no two of which can be of the same bytes.
use Rattle.std.proofs.Common.{◌≡◌, ℕ, inl, inr, false, cond, List, [], ◌++◌, length, take, drop, refl, sym, ap, ◌∙◌, subst, arith, nat_lt, length-append}
use Rattle.std.proofs.Math.Seq.{take-append_seam, drop-append_seam}
use Rattle.std.proofs.lemmas.Bool.{le-ltb, lt-ltb}
use Rattle.httparse.specs.Grammar.{RequestHead}
use Rattle.httparse.proofs.GrammarLemmas.{request_unique}
use Rattle.ifmap_heads.specs.Heads.{BeginsNoPost, IsCutPostHead, IsPostHead}
use Rattle.ifmap_heads.specs.Posts.{Incoming, Judgement, ReadsPost, ended, judge_post, posted, refused, status, taken, truncated}
use Rattle.ifmap_heads.proofs.HeadFronts.{head_is_some, posts}
use Rattle.ifmap_heads.proofs.PostHeads.{nothing_never}

-- what a head and the bytes after it are read as
come_of : Judgement → List ℕ → Incoming
come_of (refused number) rest = status number
come_of (taken client size close) rest = cond (nat_lt (length rest) size) truncated (posted client (take size rest) close (drop size rest))

data Shape (left : List ℕ) (a : Incoming) : Type 0 where
  nothing : left ≡ [] → a ≡ ended → Shape left a
  cut : IsCutPostHead left → (left ≡ [] → ⊥) → a ≡ truncated → Shape left a
  none : BeginsNoPost left → a ≡ status 400 → Shape left a
  whole : (head : RequestHead) (rest : List ℕ) → IsPostHead left head rest → a ≡ come_of (judge_post head) rest → Shape left a

shape_of : (left : List ℕ) (a : Incoming) → ReadsPost left a → Shape left a
unfolding come_of
shape_of left ended e = nothing e refl
shape_of left truncated (some, inl is) = cut is some refl
shape_of left truncated (some, inr (head, rest, client, size, close, is, says, short)) =
    whole head rest is (rw says (rw (lt-ltb (length rest) size short) refl))
shape_of left (status number) (inl (is, same)) = none is (ap status same)
shape_of left (status number) (inr (head, rest, is, says)) = whole head rest is (rw says refl)
shape_of left (posted client body close rest) (head, is, says) =
    let enough : nat_lt (length (body ++ rest)) (length body) ≡ false = le-ltb (length (body ++ rest)) (length body)
    (omega (arith, length-append body rest)) in
    whole head (body ++ rest) is (rw says (rw (enough, take-append_seam body rest, drop-append_seam body rest) refl))

nothing_none : (left : List ℕ) → left ≡ [] → BeginsNoPost left → ⊥
nothing_none left e is = by_cause (subst BeginsNoPost e is)
  where
    by_cause : BeginsNoPost [] → ⊥
    by_cause it = elim it.passed [
      | inl long ↦ omega (arith, long)
      | inr (inl many) ↦ omega (arith, many)
      | inr (inr never) ↦ nothing_never never.0
    ]

nothing_whole : (left : List ℕ) → left ≡ [] → (h : RequestHead) (rest : List ℕ) → IsPostHead left h rest → ⊥
nothing_whole left e h rest is = head_is_some posts h rest (is.reads.0, sym e ∙ is.reads.1)

cut_none : (left : List ℕ) → IsCutPostHead left → BeginsNoPost left → ⊥
cut_none left is it = elim it.passed [
  | inl long ↦ omega (arith, long, is.short)
  | inr (inl many) ↦ omega (arith, many, is.few)
  | inr (inr never) ↦ elim is.unfinished [
    | inl (more, h, reads) ↦ never.0 more h [] reads
    | inr target ↦ never.1 target
  ]
]

same_shape : (left : List ℕ) (a b : Incoming) → Shape left a → Shape left b → a ≡ b
same_shape left a b (nothing e p) (nothing f q) = cc
same_shape left a b (nothing e p) (cut is some q) = absurd (some e)
same_shape left a b (nothing e p) (none is q) = absurd (nothing_none left e is)
same_shape left a b (nothing e p) (whole h rest is q) = absurd (nothing_whole left e h rest is)
same_shape left a b (cut is some p) (nothing e q) = absurd (some e)
same_shape left a b (cut is some p) (cut it other q) = cc
same_shape left a b (cut is some p) (none it q) = absurd (cut_none left is it)
same_shape left a b (cut is some p) (whole h rest it q) = absurd (is.none h rest it)
same_shape left a b (none is p) (nothing e q) = absurd (nothing_none left e is)
same_shape left a b (none is p) (cut it some q) = absurd (cut_none left it is)
same_shape left a b (none is p) (none it q) = cc
same_shape left a b (none is p) (whole h rest it q) = absurd (is.none h rest it)
same_shape left a b (whole h rest is p) (nothing e q) = absurd (nothing_whole left e h rest is)
same_shape left a b (whole h rest is p) (cut it some q) = absurd (it.none h rest is)
same_shape left a b (whole h rest is p) (none it q) = absurd (it.none h rest is)
same_shape left a b (whole h rest is p) (whole k other it q) =
    let same = request_unique left h k rest other is.reads it.reads in
    p ∙ ap (λ (x : RequestHead). come_of (judge_post x) rest) same.0 ∙ ap (come_of (judge_post k)) same.1 ∙ sym q

pub one_way : (left : List ℕ) (a b : Incoming) → ReadsPost left a → ReadsPost left b → a ≡ b
one_way left a b x y = same_shape left a b (shape_of left a x) (shape_of left b y)
