-- What a wire reads, over all that it had left: what was taken and then what the link had.
use Rattle.std.proofs.Common.{◌≡◌, ◌≢◌, ℕ, ◌<◌, ◌≤◌, ◌⊎◌, Bool, inl, inr, List, [], ◌∷◌, ◌++◌, length, drop, refl, sym, ap, ◌∙◌, subst, arith, append_assoc, append-nil, length-append}
use Rattle.std.specs.Prelude.{IfSome, None, Option, Some}
use Rattle.std.specs.Io.KnownBytes.{Consumes, IsAtEnd, prepend_known}
use Rattle.httparse.specs.Grammar.{ReadsRequest, RequestHead, print_blank, print_end, print_request, print_section, print_version}
use Rattle.httparse.proofs.GrammarLemmas.{print_request-append, request_unique}
use Rattle.ifmap_heads.specs.Answers.{ReadsAnswer, answered, other, sized, status as other_status, ended as unanswered}
use Rattle.ifmap_heads.specs.Heads.{IsAnswerHead, IsPostHead}
use Rattle.ifmap_heads.specs.Posts.{ReadsPost, judge_post, posted, taken, truncated}
use Rattle.ifmap_heads.specs.Starts.{HasAnswerHead, HasPostHead}
use Rattle.ifmap_heads.specs.declared.posts.PostTerms.{PostTerms}
use Rattle.ifmap_input.specs.Inputs.{TakesFromSource}
use Rattle.ifmap_http.specs.Bodies.{LacksBody, TakesBody}
use Rattle.ifmap_http.proofs.Bounds.{size_of}
use Rattle.ifmap_elem.specs.Chars.{space_character}

-- what is claimed of all that a wire had left, where it is told, by what it has taken and what is left then
pub for_told : (P : List ℕ → Type 0) (left_old left_new : Option (List ℕ)) (old new : List ℕ) → TakesFromSource left_old left_new old new
    → ((rest : List ℕ) → left_new ≡ Some rest → P (new ++ rest)) → IfSome (prepend_known old left_old) P
for_told P None left_new old new takes claim = tt
for_told P (Some xs) None old new takes claim = absurd takes.consumed
for_told P (Some xs) (Some rest) old new takes claim =
    let whole : new ++ rest ≡ old ++ xs =
    ap (λ (bytes : List ℕ). bytes ++ rest) takes.grown ∙ append_assoc old takes.got rest
    ∙ ap (λ (bytes : List ℕ). old ++ bytes) (sym takes.consumed) in
    subst P whole (claim rest refl)

at_end_is : (P : List ℕ → Type 0) (bytes rest : List ℕ) (left : Option (List ℕ)) → left ≡ Some rest → IsAtEnd left → P bytes → P
    (bytes ++ rest)
at_end_is P bytes rest left is end holds =
    let none : rest ≡ [] = subst IsAtEnd is end in
    subst P (sym (ap (λ (xs : List ℕ). bytes ++ xs) none ∙ append-nil bytes)) holds

-- what is claimed of the bytes so far whatever comes after them, or of them at the end
pub whole_is : (P : List ℕ → Type 0) (bytes rest : List ℕ) (left : Option (List ℕ)) → left ≡ Some rest
    → ((more : List ℕ) → P (bytes ++ more)) ⊎ (IsAtEnd left × P bytes) → P (bytes ++ rest)
whole_is P bytes rest left is (inl always) = always rest
whole_is P bytes rest left is (inr (end, holds)) = at_end_is P bytes rest left is end holds

-- what is left after what was consumed
pub record After (left_new : Option (List ℕ)) (all got : List ℕ) : Type 0 where
  pub rest : List ℕ
  pub is : left_new ≡ Some rest
  pub split : all ≡ got ++ rest

pub after_of : (left_old left_new : Option (List ℕ)) (all got : List ℕ) → left_old ≡ Some all → Consumes left_old left_new got
    → After left_new all got
after_of left_old left_new all got is consumed = by_new left_new
    (subst (λ (left : Option (List ℕ)). Consumes left left_new got) is consumed)
  where
    by_new : (left : Option (List ℕ)) → Consumes (Some all) left got → After left all got
    by_new None none = absurd none
    by_new (Some rest) split = record { rest = rest; is = refl; split = split }

-- what a body leaves of what stands after a head
after_body : (start all got body new rest : List ℕ) → all ≡ got ++ rest → start ++ got ≡ body ++ new → start ++ all ≡ body ++ (new ++ rest)
after_body start all got body new rest split cut =
    ap (λ (xs : List ℕ). start ++ xs) split ∙ sym (append_assoc start got rest)
    ∙ ap (λ (xs : List ℕ). xs ++ rest) cut ∙ append_assoc body new rest

-- where the source ends inside a body, what stood after the head and all that the source had are shorter than it
too_short : (start all : List ℕ) (size : ℕ) (left_old left_new : Option (List ℕ)) → left_old ≡ Some all
    → LacksBody left_old left_new start size → length (start ++ all) < size
too_short start all size left_old left_new told lacks =
    let after = after_of left_old left_new all lacks.got told lacks.consumed in
    let none : after.rest ≡ [] = subst IsAtEnd after.is lacks.at_end in
    let same : all ≡ lacks.got = after.split ∙ ap (λ (xs : List ℕ). lacks.got ++ xs) none ∙ append-nil lacks.got in
    subst (λ (xs : List ℕ). length (start ++ xs) < size) (sym same) lacks.short

pub post_read : (bytes : List ℕ) (size : ℕ) (terms : PostTerms) (left_old left_new : Option (List ℕ)) (all new body : List ℕ)
    → HasPostHead bytes size terms → left_old ≡ Some all → TakesBody left_old left_new (drop size bytes) new body → length body ≡ terms.size
    → (rest : List ℕ) × (prepend_known new left_new ≡ Some rest) × ReadsPost (bytes ++ all) (posted terms.client body terms.close rest)
post_read bytes size terms left_old left_new all new body has told takes sized_is =
    let after = after_of left_old left_new all takes.got told takes.consumed in
    let cut = after_body (drop size bytes) all takes.got body new after.rest after.split takes.split in (
      new ++ after.rest,
      ap (prepend_known new) after.is,
      (
        has.head,
        subst (IsPostHead (bytes ++ all) has.head) cut (has.is all),
        has.says ∙ ap (λ (n : ℕ). taken terms.client n terms.close) (sym sized_is),
      ),
    )

pub head_is_some : (left : List ℕ) (h : RequestHead) (rest : List ℕ) → left ≡ print_request h ++ rest → left ≢ []
head_is_some left h rest cut none =
    let after = h.target ++ space_character ∷
    (print_version h.minor ++ (print_end h.line_end ++ (print_section h.fields h.last ++ rest))) in
    omega (
      arith,
      ap length none,
      ap length (cut ∙ print_request-append h rest),
      length-append (print_blank h.blank)
          (h.method ++ space_character ∷ after),
      length-append h.method (space_character ∷ after),
    )

pub post_lacks : (bytes : List ℕ) (size : ℕ) (terms : PostTerms) (left_old left_new : Option (List ℕ)) (all : List ℕ)
    → HasPostHead bytes size terms → left_old ≡ Some all → LacksBody left_old left_new (drop size bytes) terms.size
    → ReadsPost (bytes ++ all) truncated
post_lacks bytes size terms left_old left_new all has told lacks =
    let short = too_short (drop size bytes) all terms.size left_old left_new told lacks in (
      head_is_some (bytes ++ all) has.head (drop size bytes ++ all) (has.is all).reads.1,
      inr (has.head, drop size bytes ++ all, terms.client, terms.size, terms.close, has.is all, has.says, short),
    )

pub answer_read : (bytes : List ℕ) (size : ℕ) (left_old left_new : Option (List ℕ)) (all new body : List ℕ)
    → HasAnswerHead bytes size (sized (length body)) → left_old ≡ Some all → TakesBody left_old left_new (drop size bytes) new body
    → (rest : List ℕ) × (prepend_known new left_new ≡ Some rest) × ReadsAnswer (bytes ++ all) (answered body rest)
answer_read bytes size left_old left_new all new body has told takes =
    let after = after_of left_old left_new all takes.got told takes.consumed in
    let cut = after_body (drop size bytes) all takes.got body new after.rest after.split takes.split in (
      new ++ after.rest,
      ap (prepend_known new) after.is,
      (has.head, subst (IsAnswerHead (bytes ++ all) has.head) cut (has.is all), has.says),
    )

pub answer_lacks : (bytes : List ℕ) (size body : ℕ) (left_old left_new : Option (List ℕ)) (all : List ℕ)
    → HasAnswerHead bytes size (sized body) → left_old ≡ Some all → LacksBody left_old left_new (drop size bytes) body
    → ReadsAnswer (bytes ++ all) unanswered
answer_lacks bytes size body left_old left_new all has told lacks =
    let short = too_short (drop size bytes) all body left_old left_new told lacks in
    inr (has.head, drop size bytes ++ all, body, has.is all, has.says, short)

pub answer_refused : (bytes : List ℕ) (size number : ℕ) (left : Option (List ℕ)) (all : List ℕ) → HasAnswerHead bytes size (other number)
    → left ≡ Some all
    → (rest : List ℕ) × (prepend_known (drop size bytes) left ≡ Some rest) × ReadsAnswer (bytes ++ all) (other_status number rest)
answer_refused bytes size number left all has told =
    (drop size bytes ++ all, ap (prepend_known (drop size bytes)) told, (has.head, has.is all, has.says))

-- where a post stands whole, its body does after the head that was found
pub post_is_there : (old new : List ℕ) (size : ℕ) (terms : PostTerms) (head : RequestHead) (client body : List ℕ) (close : Bool)
    (rest : List ℕ)
    → new ≡ old → HasPostHead new size terms → IsPostHead old head (body ++ rest) → judge_post head ≡ taken client (length body) close
    → terms.size ≤ length (drop size new)
post_is_there old new size terms head client body close rest same has is says =
    let at : ReadsRequest new has.head (drop size new) =
    subst (λ (xs : List ℕ). ReadsRequest xs has.head (drop size new)) (append-nil new)
    (subst (λ (xs : List ℕ). ReadsRequest (new ++ []) has.head xs) (append-nil (drop size new)) (has.is []).reads) in
    let here : ReadsRequest new head (body ++ rest) = subst (λ (xs : List ℕ). ReadsRequest xs head (body ++ rest)) (sym same) is.reads in
    let one = request_unique new has.head head (drop size new) (body ++ rest) at here in
    let sizes : terms.size ≡ length body = ap size_of (sym has.says ∙ ap judge_post one.0 ∙ says) in
    omega (arith, sizes, ap length one.1, length-append body rest)
