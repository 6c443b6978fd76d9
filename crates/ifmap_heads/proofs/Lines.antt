-- How many lines a head has.
use Rattle.std.proofs.Common.{◌≡◌, ℕ, ◌+◌, ◌<◌, ◌≤◌, Bool, true, false, cond, List, [], ◌∷◌, ◌++◌, length, refl, sym, ap, ◌∙◌, arith, append_assoc, append-nil}
use Rattle.std.specs.Prelude.{◌==◌, ◌||◌, codes}
use Rattle.std.specs.List.{count_by, flat_map}
use Rattle.std.specs.Str.{byte}
use Rattle.std.proofs.lemmas.List.Elements.{All-head}
use Rattle.std.proofs.lemmas.List.Sums.{sum_by-append}
use Rattle.httparse.specs.Ascii.{carriage_return, colon, digit_zero, line_feed, space}
use Rattle.httparse.specs.Grammar.{Field, IsRequestHead, IsToken, LineEnd, crlf, lf, RequestHead, ResponseHead, is_token_byte, print_blank, print_end, print_field, print_reason, print_request, print_response, print_section, print_version}
use Rattle.httparse.proofs.GrammarLemmas.{print_request-append, print_response-append}
use Rattle.httparse.proofs.PieceLemmas.{token_is_no_newline}
use Rattle.ifmap_heads.specs.Heads.{after_line_ends, line_count}

-- how many line feeds there are
abbrev pub feeds : List ℕ → ℕ
feeds bytes = count_by (λ b. b == line_feed) bytes

feeds-append : (xs ys : List ℕ) → feeds (xs ++ ys) ≡ feeds xs + feeds ys
feeds-append xs ys = sum_by-append (λ b. cond (b == line_feed) 1 0) xs ys

feeds_end : (end : LineEnd) → feeds (print_end end) ≡ 1
feeds_end crlf = refl
feeds_end lf = refl

feeds_field : (f : Field) → 1 ≤ feeds (print_field f)
feeds_field f =
    omega (arith, feeds-append (f.name ++ colon ∷ f.raw) (print_end f.end), feeds_end f.end)

feeds_fields : (fields : List Field) → length fields ≤ feeds (flat_map print_field fields)
feeds_fields [] = omega arith
feeds_fields (f ∷ fields) =
    omega (arith, feeds-append (print_field f) (flat_map print_field fields), feeds_field f, feeds_fields fields)

feeds_section : (fields : List Field) (last : LineEnd) → length fields + 1 ≤ feeds (print_section fields last)
feeds_section fields last =
    omega (arith, feeds-append (flat_map print_field fields) (print_end last), feeds_fields fields, feeds_end last)

after_blank : (blank : List LineEnd) (rest : List ℕ) → after_line_ends (print_blank blank ++ rest) ≡ after_line_ends rest
after_blank [] rest = refl
after_blank (crlf ∷ blank) rest = after_blank blank rest
after_blank (lf ∷ blank) rest = after_blank blank rest

-- lines do not get fewer with other bytes in place of a last line end
lines_more : (xs ys : List ℕ) → line_count (xs ++ line_feed ∷ []) ≤ line_count (xs ++ ys) + 1
lines_more [] ys = omega arith
lines_more (b ∷ xs) ys = by_test (lines_more xs ys) (b == carriage_return || b == line_feed) refl
  where
    by_test : line_count (xs ++ line_feed ∷ []) ≤ line_count (xs ++ ys) + 1 → (t : Bool) → (b == carriage_return || b == line_feed) ≡ t
        → line_count (b ∷ xs ++ line_feed ∷ []) ≤ line_count (b ∷ xs ++ ys) + 1
    by_test later true end = rw end later
    by_test later false other =
        rw other (omega (arith, feeds-append (b ∷ xs) (line_feed ∷ []), feeds-append (b ∷ xs) ys))

-- nor with bytes after them
pub lines_grow : (xs ys : List ℕ) → line_count xs ≤ line_count (xs ++ ys)
lines_grow [] ys = omega arith
lines_grow (b ∷ xs) ys = by_test (lines_grow xs ys) (b == carriage_return || b == line_feed) refl
  where
    by_test : line_count xs ≤ line_count (xs ++ ys) → (t : Bool) → (b == carriage_return || b == line_feed) ≡ t
        → line_count (b ∷ xs) ≤ line_count (b ∷ xs ++ ys)
    by_test later true end = rw end later
    by_test later false other = rw other (omega (arith, feeds-append (b ∷ xs) ys))

feeds_at_least : (xs ys zs : List ℕ) → feeds zs ≤ feeds (xs ++ (ys ++ zs))
feeds_at_least xs ys zs = omega (arith, feeds-append xs (ys ++ zs), feeds-append ys zs)

lines_of_start : (blank : List LineEnd) (b : ℕ) (word between : List ℕ) (end : LineEnd) (fields : List Field) (last : LineEnd)
    → (b == carriage_return || b == line_feed) ≡ false
    → length fields + 2 ≤ line_count (print_blank blank ++ ((b ∷ word) ++ (between ++ (print_end end ++ print_section fields last))))
lines_of_start blank b word between end fields last other =
    let tail = print_end end ++ print_section fields last in
    rw after_blank
    (rw other
    (omega (
      arith,
      feeds_at_least (b ∷ word) between tail,
      feeds-append (print_end end)
          (print_section fields last),
      feeds_end end,
      feeds_section fields last,
    )))

no_newline : (b : ℕ) → is_token_byte b ≡ true → (b == carriage_return || b == line_feed) ≡ false
no_newline b token = token_is_no_newline b token

cons-append : (x : ℕ) (a b : List ℕ) → (x ∷ a) ++ b ≡ x ∷ (a ++ b)
cons-append x a b = refl

regroups : (a b c d e f g : List ℕ) → a ++ (b ++ space ∷ (c ++ space ∷ (d ++ (e ++ (f ++ g))))) ≡ a ++
    (b ++ ((space ∷ (c ++ space ∷ d)) ++ (e ++ (f ++ g))))
regroups a b c d e f g = simp (append_assoc, cons-append)

pub lines_of_request : (h : RequestHead) → IsRequestHead h → length h.fields + 2 ≤ line_count (print_request h)
lines_of_request h valid =
    let printed : print_request h ≡ print_blank h.blank ++
    (h.method ++ ((space ∷ (h.target ++ space ∷ print_version h.minor)) ++ (print_end h.line_end ++ print_section h.fields h.last))) =
    sym (append-nil (print_request h)) ∙ print_request-append h []
    ∙ regroups (print_blank h.blank) h.method h.target (print_version h.minor) (print_end h.line_end) (print_section h.fields h.last) []
    ∙ ap (λ (xs : List ℕ). print_blank h.blank ++ (h.method ++ ((space ∷ (h.target ++ space ∷ print_version h.minor)) ++
    (print_end h.line_end ++ xs)))) (append-nil (print_section h.fields h.last)) in
    rw printed (by_method h.method valid.method)
  where
    by_method : (m : List ℕ) → IsToken m → length h.fields + 2
        ≤ line_count (print_blank h.blank ++ (m ++ ((space ∷ (h.target ++ space ∷ print_version h.minor)) ++
        (print_end h.line_end ++ print_section h.fields h.last))))
    by_method [] token = absurd (omega (arith, token.0))
    by_method (b ∷ word) token =
        lines_of_start h.blank b word (space ∷ (h.target ++ space ∷ print_version h.minor)) h.line_end h.fields h.last
        (no_newline b (All-head (λ v. is_token_byte v ≡ true) b word token.1))

grouped_answer : (a b c d e f g : List ℕ) → a ++ (b ++ space ∷ (c ++ (d ++ (e ++ (f ++ g))))) ≡ a ++
    (b ++ ((space ∷ (c ++ d)) ++ (e ++ (f ++ g))))
grouped_answer a b c d e f g = simp append_assoc

pub lines_of_response : (h : ResponseHead) → length h.fields + 2 ≤ line_count (print_response h)
lines_of_response h =
    let printed : print_response h ≡ print_blank h.blank ++
    (print_version h.minor ++ ((space ∷ (h.digits ++ print_reason h.reason)) ++ (print_end h.line_end ++ print_section h.fields h.last))) =
    sym (append-nil (print_response h)) ∙ print_response-append h []
    ∙ grouped_answer (print_blank h.blank) (print_version h.minor) h.digits (print_reason h.reason) (print_end h.line_end)
    (print_section h.fields h.last) []
    ∙ ap (λ (xs : List ℕ). print_blank h.blank ++ (print_version h.minor ++ ((space ∷ (h.digits ++ print_reason h.reason)) ++
    (print_end h.line_end ++ xs)))) (append-nil (print_section h.fields h.last)) in
    rw printed
    (lines_of_start h.blank (byte "H") (codes "TTP/1." ++ (digit_zero + h.minor) ∷ []) (space ∷ (h.digits ++ print_reason h.reason))
    h.line_end h.fields h.last refl)

-- 65 field lines are 66 lines with the start line, whatever comes after
pub many_lines : (front rest more printed : List ℕ) (fields : ℕ) → front ++ line_feed ∷ [] ≡ printed ++ []
    → fields + 2 ≤ line_count printed → 64 < fields → 66 ≤ line_count ((front ++ rest) ++ more)
many_lines front rest more printed fields e lines many =
    let counted : line_count (front ++ line_feed ∷ []) ≡ line_count printed = ap line_count (e ∙ append-nil printed) in
    rw append_assoc (omega (arith, counted, lines_more front (rest ++ more)))
