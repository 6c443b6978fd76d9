-- Bytes that begin with a text, and the byte at which it ends: the text is what stands before the first place of that byte.
use Rattle.std.proofs.Common.{◌≡◌, ◌⊎◌, inl, inr, refl, ap, ◌∙◌, sym, ℕ, ◌+◌, ◌<◌, ◌≤◌, List, ◌∷◌, ◌++◌, length, length-append, take, drop, arith}
use Rattle.std.proofs.Math.Seq.{get_or-append_seam}
use Rattle.std.proofs.lemmas.Bool.{cases_lt}
use Rattle.std.proofs.lemmas.List.{drop_more, get_or-take, get_or_append_left, length-take-le, take-append-drop, take-append-le, take_at}
use Rattle.std.specs.Prelude.{slice_index}
use Rattle.ifmap_input.specs.FirstPlaces.{HasNone, IsFirstPlace}

-- there is one first place
pub one_first_place : (byte : ℕ) (bytes : List ℕ) (one other : ℕ) → IsFirstPlace byte bytes one → IsFirstPlace byte bytes other
    → one ≡ other
one_first_place byte bytes one other a b =
    elim (cases_lt one other) [
      | inl before ↦ absurd (b.first one before a.there)
      | inr late ↦
          elim (cases_lt other one) [
            | inl after ↦ absurd (a.first other after b.there)
            | inr not ↦ omega arith
          ]
    ]

-- it stays where more bytes follow
pub first_place_stays : (byte : ℕ) (bytes more : List ℕ) (place : ℕ) → IsFirstPlace byte bytes place
    → IsFirstPlace byte (bytes ++ more) place
first_place_stays byte bytes more place is =
    let within = is.within in
    record {
      within = omega (arith, length-append bytes more);
      there = get_or_append_left bytes more 0 place within ∙ is.there;
      first = λ k before e. is.first k before (sym (get_or_append_left bytes more 0 k (omega arith)) ∙ e);
    }

-- bytes are cut there, and the byte is not among those before it
pub cut_at_first_place : (byte : ℕ) (bytes : List ℕ) (place : ℕ) → IsFirstPlace byte bytes place
    → (bytes ≡ take place bytes ++ byte ∷ drop (place + 1) bytes) × HasNone byte (take place bytes)
cut_at_first_place byte bytes place is =
    let within = is.within in
    let size : length (take place bytes) ≡ place = length-take-le place bytes (omega arith) in (
      sym (take-append-drop place bytes) ∙ ap (λ (b : List ℕ). take place bytes ++ b) (drop_more bytes place 0 within
          ∙ ap (λ (b : ℕ). b ∷ drop (place + 1) bytes) is.there),
      λ k h. λ (e : slice_index (take place bytes) k ≡ byte). is.first k (omega arith)
          (sym (get_or-take place bytes k 0 (omega arith)) ∙ e),
    )

-- after a text without the byte, its first place is where the text ends
pub first_after_text : (byte : ℕ) (bytes text rest : List ℕ) → bytes ≡ text ++ byte ∷ rest → HasNone byte text
    → IsFirstPlace byte bytes (length text)
first_after_text byte bytes text rest are none =
    record {
      within = omega (arith, ap length are, length-append text (byte ∷ rest));
      there = ap (λ (b : List ℕ). slice_index b (length text)) are ∙ get_or-append_seam text byte rest 0;
      first = λ k before. λ (e : slice_index bytes k ≡ byte). none k before
          (sym (get_or_append_left text (byte ∷ rest) 0 k before) ∙ ap (λ (b : List ℕ). slice_index b k) (sym are) ∙ e);
    }

-- so it is where the bytes that are there are only the first of these
module _ (byte : ℕ) (bytes more text rest : List ℕ) (are : bytes ++ more ≡ text ++ byte ∷ rest) (none : HasNone byte text) where
  pub first_place_is : (place : ℕ) → IsFirstPlace byte bytes place → place ≡ length text
  first_place_is place is =
      one_first_place byte (bytes ++ more) place (length text) (first_place_stays byte bytes more place is)
      (first_after_text byte (bytes ++ more) text rest are none)

  pub text_before : (place : ℕ) → IsFirstPlace byte bytes place → text ≡ take place bytes
  text_before place is =
      let within = is.within in
      sym (take_at text (byte ∷ rest) (length text) refl) ∙ ap (take (length text)) (sym are)
      ∙ ap (λ (n : ℕ). take n (bytes ++ more)) (sym (first_place_is place is)) ∙ take-append-le place bytes more (omega arith)

  -- bytes without it are no longer than the text
  pub none_is_short : HasNone byte bytes → length bytes ≤ length text
  none_is_short plain =
      elim (cases_lt (length text) (length bytes)) [
        | inl longer ↦
            absurd (plain (length text) longer (sym (get_or_append_left bytes more 0 (length text) longer)
            ∙ (first_after_text byte (bytes ++ more) text rest are none).there))
        | inr short ↦ short
      ]
