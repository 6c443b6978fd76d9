-- Texts of numbers with a colon between each two, as a loop makes them: the first, one more after some, and all.
use Rattle.std.proofs.Common.{◌≡◌, ℕ, ◌+◌, ◌<◌, ◌≤◌, List, [], ◌∷◌, ◌++◌, length, map, get_or, take, add-one, refl, ap, sym, ◌∙◌, append_assoc}
use Rattle.std.proofs.lemmas.List.{take_all}
use Rattle.std.proofs.Math.Seq.{take-suc}
use Rattle.std.specs.List.{join_with_byte}
use Rattle.std.specs.Str.{byte}

-- how each number is written, and all of them
module _ (written : ℕ → List ℕ) where
  abbrev pub colon_text : List ℕ → List ℕ
  colon_text xs = join_with_byte (byte ":") (map written xs)

  one_more_group : (x y : ℕ) (xs : List ℕ) → colon_text (x ∷ (xs ++ (y ∷ []))) ≡ colon_text (x ∷ xs) ++ (byte ":" ∷ written y)
  one_more_group x y [] = refl
  one_more_group x y (z ∷ xs) = ap (λ t. written x ++ (byte ":" ∷ t)) (one_more_group z y xs)
      ∙ sym (append_assoc (written x) (byte ":" ∷ colon_text (z ∷ xs)) (byte ":" ∷ written y))

  -- of numbers that begin with x and go on with the others
  module _ (xs rest : List ℕ) (x : ℕ) (is : xs ≡ x ∷ rest) where
    pub first_written : colon_text (take 1 xs) ≡ written x
    first_written = rw is refl

    pub next_written : (i : ℕ) → i < length rest → colon_text (take (i + 1 + 1) xs) ≡ colon_text (take (i + 1) xs) ++ (byte ":" ∷ written
        (get_or rest i 0))
    next_written i h = rw (is, add-one (i + 1), add-one i, take-suc rest i 0 h) (one_more_group x (get_or rest i 0) (take i rest))

    pub all_written : (i : ℕ) → length rest ≤ i → colon_text (take (i + 1) xs) ≡ colon_text xs
    all_written i h = rw (is, add-one i, take_all i rest h) refl

-- a text, and then a colon and another
pub after_colon : (old text more : List ℕ) → ((old ++ text) ++ (byte ":" ∷ [])) ++ more ≡ old ++ (text ++ (byte ":" ∷ more))
after_colon old text more = simp append_assoc

-- and one more byte of a list
pub one_byte : (old items : List ℕ) (i : ℕ) → i < length items
    → (old ++ take i items) ++ (get_or items i 0 ∷ []) ≡ old ++ take (i + 1) items
one_byte old items i h =
    append_assoc old (take i items) (get_or items i 0 ∷ []) ∙ ap (λ t. old ++ t) (sym (rw (add-one i) (take-suc items i 0 h)))
