-- From what the parser answers to what the bytes begin.
use Rattle.std.proofs.Common.{Bor, Option, Some, ◌≡◌, ◌≢◌, ℕ, ◌<◌, ◌≤◌, ◌⊎◌, inl, inr, Bool, true, false, List, [], ◌++◌, length, map, nat_lt, refl, sym, ap, ◌∙◌, subst, arith, append-nil, length-append}
use Rattle.std.specs.Prelude.{option_copied}
use Rattle.std.proofs.lemmas.Bool.{ltb-false, ltb-true}
use Rattle.std.proofs.lemmas.List.{length-map}
use Rattle.httparse.specs.declared.Error.{Error}
use Rattle.httparse.specs.declared.Error.TheVariants.{HeaderName, HeaderValue, NewLine, Status, Token, TooManyHeaders, Version}
use Rattle.httparse.specs.declared.borrowed.Header.{Header}
use Rattle.httparse.specs.Borrowed.{AreFields}
use Rattle.httparse.specs.Grammar.{EndsInTarget, Field, HasNoRequest, MayBecomeRequest, ReadsRequest, RequestHead, print_request, ResponseHead, status_code}
use Rattle.httparse.specs.Spans.{RequestOverflows, name_and_value}
use Rattle.ifmap_heads.specs.Answers.{Verdict, judge_answer, judge_status}
use Rattle.ifmap_heads.specs.Fields.{Fields}
use Rattle.ifmap_heads.specs.Heads.{HasNoPostHead}
use Rattle.ifmap_heads.specs.Limits.{longest_head, most_fields}
use Rattle.ifmap_heads.specs.Posts.{Judgement, judge_parts, judge_post}
use Rattle.ifmap_heads.specs.Starts.{StartsPost}
use Rattle.ifmap_heads.specs.declared.posts.PostStart.{PostStart}
use Rattle.ifmap_heads.specs.declared.posts.PostStart.TheVariants as post
use Rattle.ifmap_heads.proofs.HeadFronts.{many_bytes, none_so_small, none_when_long, none_yet, posts}
use Rattle.ifmap_heads.proofs.PostHeads.{refused_past_limits}

pub is_too_many : (e : Error) → (e ≡ TooManyHeaders) ⊎ (e ≢ TooManyHeaders)
is_too_many TooManyHeaders = inl refl
is_too_many HeaderName = inr (λ p. cc)
is_too_many HeaderValue = inr (λ p. cc)
is_too_many NewLine = inr (λ p. cc)
is_too_many Status = inr (λ p. cc)
is_too_many Token = inr (λ p. cc)
is_too_many Version = inr (λ p. cc)

pub field_count : (headers : List Header) (fields : List Field) → AreFields headers fields → length fields ≡ length headers
field_count headers fields same =
    sym (simp length-map at (ap length same))

pub answer_says : (h : ResponseHead) (code : ℕ) (pairs : Fields) (v : Verdict) → code ≡ status_code h
    → pairs ≡ map name_and_value h.fields → v ≡ judge_status code pairs → judge_answer h ≡ v
answer_says h code pairs v code_is pairs_are says =
    sym (says ∙ ap (λ (n : ℕ). judge_status n pairs) code_is ∙ ap (judge_status (status_code h)) pairs_are)

pub post_says : (h : RequestHead) (method : List ℕ) (minor : ℕ) (pairs : Fields) (v : Judgement) → method ≡ h.method
    → minor ≡ h.minor → pairs ≡ map name_and_value h.fields → v ≡ judge_parts method minor pairs → judge_post h ≡ v
post_says h method minor pairs v method_is minor_is pairs_are says =
    sym (says ∙ ap (λ (m : List ℕ). judge_parts m minor pairs) method_is
    ∙ ap (λ (n : ℕ). judge_parts h.method n pairs) minor_is ∙ ap (judge_parts h.method h.minor) pairs_are)

starts : (bytes : List ℕ) (r : PostStart) → ((more : List ℕ) → longest_head < length bytes → HasNoPostHead (bytes ++ more))
    → HasNoPostHead bytes → MayBecomeRequest bytes
    → (longest_head < length bytes → r ≡ post.Refused 400) → (length bytes ≤ longest_head → r ≡ post.Unfinished) → StartsPost bytes r
starts bytes r none_long none may long short = by_test (nat_lt longest_head (length bytes)) refl
  where
    by_test : (t : Bool) → nat_lt longest_head (length bytes) ≡ t → StartsPost bytes r
    by_test true is =
        let past = ltb-true longest_head (length bytes) is in
        rw (long past) (λ more. refused_past_limits (bytes ++ more) (many_bytes posts bytes more past (none_long more past)))
    by_test false is =
        let within = ltb-false longest_head (length bytes) is in
        rw (short within) (record { none = none; short = within; unfinished = may })

pub starts_partial : (bytes : List ℕ) (r : PostStart) → HasNoRequest bytes → MayBecomeRequest bytes
    → (longest_head < length bytes → r ≡ post.Refused 400) → (length bytes ≤ longest_head → r ≡ post.Unfinished) → StartsPost bytes r
starts_partial bytes r absent may long short =
    starts bytes r (λ more past. none_when_long posts bytes more absent past) (none_yet posts bytes absent) may long short

pub starts_in_target : (bytes : List ℕ) (r : PostStart) → RequestOverflows most_fields bytes → EndsInTarget bytes
    → (longest_head < length bytes → r ≡ post.Refused 400) → (length bytes ≤ longest_head → r ≡ post.Unfinished) → StartsPost bytes r
starts_in_target bytes r overflows target long short =
    starts bytes r (λ more past. none_so_small posts bytes more overflows)
    (subst HasNoPostHead (append-nil bytes) (none_so_small posts bytes [] overflows)) (inr target) long short

pub head_within : (bytes : List ℕ) (h : RequestHead) (rest : List ℕ) (size : ℕ) → ReadsRequest bytes h rest
    → size ≡ length (print_request h) → size ≤ length bytes
head_within bytes h rest size reads size_is = omega (arith, ap length reads.1, length-append (print_request h) rest)

-- what a reference in a `Some` points to
pub option_now : {o : Option (Bor (List ℕ))} {x : Bor (List ℕ)} → o ≡ Some x → option_copied o ≡ Some x.now
option_now e = ap option_copied e
