-- What a post is read as, by the head at its front or by the want of one.
use Rattle.std.proofs.Common.{◌≡◌, true, ℕ, ◌<◌, ◌≤◌, inl, inr, List, [], ◌∷◌, ◌++◌, length, codes, refl, sym, ap, ◌∙◌, subst, arith, append_assoc, append-nil}
use Rattle.std.proofs.lemmas.List.Elements.{All-cons, All-nil}
use Rattle.std.proofs.lemmas.Str.{IsUtf8-from_ascii}
use Rattle.std.proofs.lemmas.Str.Ascii.{IsAscii-from_all}
use Rattle.httparse.specs.Ascii.{space}
use Rattle.httparse.specs.Grammar.{EndsInTarget, IsField, IsRequestHead, IsToken, AllPass, LineEnd, NeverHasRequest, ReadsRequest, RequestHead, lf, is_token_byte, is_uri_byte, print_blank, print_request}
use Rattle.httparse.proofs.GrammarLemmas.{ReadsRequest-append, print_request-append}
use Rattle.ifmap_heads.specs.Heads.{IsPostHead}
use Rattle.ifmap_heads.specs.Limits.{longest_head, most_fields}
use Rattle.ifmap_heads.specs.Posts.{ReadsPost, judge_post, refused, status}
use Rattle.ifmap_lemmas.specs.Fronts.{all_front, fronts}
use Rattle.ifmap_heads.proofs.HeadFronts.{PassesLimits, never_more, none_ever, posts}

-- 400 where the limits are passed
pub refused_past_limits : (left : List ℕ) → PassesLimits posts left → ReadsPost left (status 400)
refused_past_limits left past =
    inl (record { none = past.none; passed = elim past.passed [ inl long ↦ inl long | inr many ↦ inr (inl many) ] }, refl)

-- a head within its limits stands there whatever comes
pub head_stands : (bytes more : List ℕ) (h : RequestHead) (rest : List ℕ) → ReadsRequest bytes h rest
    → length (print_request h) ≤ longest_head → length h.fields ≤ most_fields → IsPostHead (bytes ++ more) h (rest ++ more)
head_stands bytes more h rest reads short few =
    record { reads = ReadsRequest-append bytes h rest more reads; short = short; few = few }

pub refused_by_head : (bytes more : List ℕ) (h : RequestHead) (rest : List ℕ) (number : ℕ) → ReadsRequest bytes h rest
    → length (print_request h) ≤ longest_head → length h.fields ≤ most_fields → judge_post h ≡ refused number
    → ReadsPost (bytes ++ more) (status number)
refused_by_head bytes more h rest number reads short few says =
    inr (h, rest ++ more, head_stands bytes more h rest reads short few, says)

-- b'/'
abbrev slash : ℕ
slash = 47

-- the shortest head that goes on from what stands before a target
least_head : List LineEnd → List ℕ → RequestHead
least_head blank method = record {
  blank = blank;
  method = method;
  target = slash ∷ [];
  minor = 1;
  line_end = lf;
  fields = [];
  last = lf;
}

-- what it has after the space before its target
least_rest : List ℕ
least_rest = codes "/ HTTP/1.1\n\n"

least_is_head : (blank : List LineEnd) (method : List ℕ) → IsToken method → IsRequestHead (least_head blank method)
unfolding least_head
least_is_head blank method token = record {
  method = token;
  target = (omega arith, All-cons (λ b. is_uri_byte b ≡ true) slash [] refl (All-nil (λ b. is_uri_byte b ≡ true)));
  target_text = IsUtf8-from_ascii (slash ∷ [])
      (IsAscii-from_all (slash ∷ []) (All-cons (λ b. b < 128) slash [] (omega arith) (All-nil (λ b. b < 128))));
  minor = omega arith;
  fields = All-nil IsField;
}

least_printed : (blank : List LineEnd) (method : List ℕ)
    → print_request (least_head blank method) ++ [] ≡ print_blank blank ++ (method ++ space ∷ least_rest)
unfolding least_head least_rest
least_printed blank method = print_request-append (least_head blank method) []

never_before_target : (bytes middle : List ℕ) (blank : List LineEnd) (method : List ℕ) → NeverHasRequest bytes → IsToken method
    → print_blank blank ++ method ++ space ∷ [] ≡ bytes ++ middle → ⊥
never_before_target bytes middle blank method never token longer =
    let reads : bytes ++ (middle ++ least_rest) ≡ print_request (least_head blank method) ++ [] =
    sym (append_assoc bytes middle least_rest)
    ∙ ap (λ (xs : List ℕ). xs ++ least_rest) (sym longer)
    ∙ append_assoc (print_blank blank ++ method) (space ∷ []) least_rest
    ∙ append_assoc (print_blank blank) method (space ∷ least_rest)
    ∙ sym (least_printed blank method) in
    never (middle ++ least_rest) (least_head blank method) [] (least_is_head blank method token, reads)

-- bytes that can be no head, and that do not end in a target, end in none with more after them
pub no_target_more : (bytes more : List ℕ) → NeverHasRequest bytes → ¬ (EndsInTarget bytes) → ¬ (EndsInTarget (bytes ++ more))
no_target_more bytes more never outside (blank, method, target, token, uri, cut) =
    let front = print_blank blank ++ method ++ space ∷ [] in
    let joined : front ++ target ≡ bytes ++ more = append_assoc (print_blank blank ++ method) (space ∷ []) target ∙ sym cut in
    elim (fronts front bytes target more joined) [
      | inl on ↦
          let inner = subst (AllPass is_uri_byte) on.shorter uri in
          outside (
            blank,
            method,
            on.middle,
            token,
            all_front (λ b. is_uri_byte b ≡ true) on.middle more inner,
            on.longer ∙ append_assoc
                (print_blank blank ++ method) (space ∷ []) on.middle,
          )
      | inr on ↦ never_before_target bytes on.middle blank method never token on.longer
    ]

-- 400 where no head can come
pub refused_never : (bytes more : List ℕ) → NeverHasRequest bytes → ¬ (EndsInTarget bytes) → ReadsPost (bytes ++ more) (status 400)
refused_never bytes more never outside =
    inl (
      record {
        none = none_ever posts bytes more never;
        passed = inr (inr
            (never_more posts bytes more never, no_target_more bytes more never outside));
      },
      refl,
    )

letter_is_token : is_token_byte 65 ≡ true
unfolding is_token_byte
letter_is_token = refl

-- no bytes are not the bytes of no head
pub nothing_never : NeverHasRequest [] → ⊥
nothing_never never =
    let token : IsToken (65 ∷ []) =
    (omega arith, All-cons (λ b. is_token_byte b ≡ true) 65 [] letter_is_token (All-nil (λ b. is_token_byte b ≡ true))) in
    never (print_request (least_head [] (65 ∷ []))) (least_head [] (65 ∷ [])) []
    (least_is_head [] (65 ∷ []) token, sym (append-nil (print_request (least_head [] (65 ∷ [])))))
