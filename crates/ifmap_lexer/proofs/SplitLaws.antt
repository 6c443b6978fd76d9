-- What the splits of bytes give.
use Rattle.std.proofs.Common.{◌≡◌, ◌≢◌, ℕ, suc, ◌+◌, ◌<◌, Bool, true, false, cond, List, [], ◌∷◌, ◌++◌, length, get_or, take, drop, refl}
use Rattle.std.proofs.Common.{ap, sym, ◌∙◌, subst, arith, one-add, append_assoc, length-append}
use Rattle.std.specs.Prelude.{Option, Some, None, MatchOption, IfSome, IfNone, IsUtf8}
use Rattle.std.specs.Borrow.{Bor}
use Rattle.std.specs.List.{prefix_len}
use Rattle.std.proofs.lemmas.List.{take-append-drop}
use Rattle.std.proofs.lemmas.Str.{IsUtf8-drop, IsCharBoundary-after_ascii}
use Rattle.std.proofs.Math.Seq.{drop-append_seam, get_or-append_seam}
use Rattle.ifmap_elem.specs.Chars.{AllAre}
use Rattle.ifmap_lemmas.specs.Numbers.{is_other}
use Rattle.ifmap_lemmas.specs.Cuts.{Stops}
use Rattle.ifmap_lexer.specs.Cutting.{Cuts, CutsAt, is_but}

module _ (p : ℕ → Bool) where
  front_one : (b : ℕ) (bs : List ℕ) (t : Bool) → p b ≡ t → AllAre p (take (prefix_len p bs) bs)
      → AllAre p (take (cond t (1 + prefix_len p bs) 0) (b ∷ bs))
  front_one b bs false h rest = tt
  front_one b bs true h rest = rw one-add (h, rest)

  front_passes : (bs : List ℕ) → AllAre p (take (prefix_len p bs) bs)
  front_passes [] = tt
  front_passes (b ∷ bs) = front_one b bs (p b) refl (front_passes bs)

  rest_one : (b : ℕ) (bs : List ℕ) (t : Bool) → p b ≡ t → Stops p (drop (prefix_len p bs) bs)
      → Stops p (drop (cond t (1 + prefix_len p bs) 0) (b ∷ bs))
  rest_one b bs false h rest = h
  rest_one b bs true h rest = rw one-add rest

  rest_stops : (bs : List ℕ) → Stops p (drop (prefix_len p bs) bs)
  rest_stops [] = tt
  rest_stops (b ∷ bs) = rest_one b bs (p b) refl (rest_stops bs)

  pub cuts_at_len : (bytes front rest : List ℕ) (n : ℕ) → n ≡ prefix_len p bytes → front ≡ take n bytes → rest ≡ drop n bytes
      → Cuts p bytes front rest
  cuts_at_len bytes front rest n is f r = record {
    bytes_are = sym (take-append-drop n bytes) ∙ (λ i. sym f i ++ sym r i);
    passes = subst (AllAre p) (sym (f ∙ ap (λ m. take m bytes) is)) (front_passes bytes);
    stops = subst (Stops p) (sym (r ∙ ap (λ m. drop m bytes) is)) (rest_stops bytes);
  }

-- after an ASCII byte of a text stands a text
pub after_is_utf8 : (c : ℕ) (text front after : List ℕ) → c < 128 → text ≡ front ++ (c ∷ after) → IsUtf8 text → IsUtf8 after
after_is_utf8 c text front after small e u =
    let n = length front in
    let here : get_or text n 0 ≡ c = ap (λ x. get_or x n 0) e ∙ get_or-append_seam front c after 0 in
    let inside : n < length text = omega (arith, ap length e, length-append front (c ∷ after)) in
    let rest : drop (n + 1) text ≡ after
    = ap (drop (n + 1)) (e ∙ sym (append_assoc front (c ∷ []) after)) ∙ ap (λ k. drop k ((front ++ (c ∷ [])) ++ after))
    (sym (length-append front (c ∷ []))) ∙ drop-append_seam (front ++ (c ∷ [])) after in
    subst IsUtf8 rest (IsUtf8-drop text (n + 1) u (IsCharBoundary-after_ascii text n u inside (omega arith)))

pub all_but : (c : ℕ) (bs : List ℕ) → ((i : ℕ) → i < length bs → get_or bs i 0 ≢ c) → AllAre (is_but c) bs
all_but c [] h = tt
all_but c (b ∷ bs) h = (rw (is_other b c (h 0 (omega arith))) refl, all_but c bs (λ i l. h (suc i) (omega arith)))

pub char_found : (c : ℕ) (text : List ℕ) (r : Option (Bor (List ℕ) × Bor (List ℕ)))
    → MatchOption r ((i : ℕ) → i < length text → get_or text i 0 ≢ c)
    (λ x. (text ≡ x.0.now ++ (c ∷ x.1.now)) × ((i : ℕ) → i < length x.0.now → get_or x.0.now i 0 ≢ c))
    → IfSome r (λ s. CutsAt c text s.0.now s.1.now)
char_found c text None h = tt
char_found c text (Some x) h = record { bytes_are = h.0; passes = all_but c x.0.now h.1 }

pub char_none : (c : ℕ) (text : List ℕ) (r : Option (Bor (List ℕ) × Bor (List ℕ)))
    → MatchOption r ((i : ℕ) → i < length text → get_or text i 0 ≢ c)
    (λ x. (text ≡ x.0.now ++ (c ∷ x.1.now)) × ((i : ℕ) → i < length x.0.now → get_or x.0.now i 0 ≢ c))
    → IfNone r (AllAre (is_but c) text)
char_none c text None h = all_but c text h
char_none c text (Some x) h = tt
