-- Bytes that a separator parts, and what stands before the first.
use Rattle.std.proofs.Common.{◌≡◌, ℕ, ◌+◌, ◌<◌, Bool, true, false, cond, List, [], ◌∷◌, ◌++◌, length, take, drop, refl, ap, arith}
use Rattle.std.proofs.lemmas.Bool.{and_parts, not-true}
use Rattle.std.proofs.lemmas.Bool.Decides.{nat_tests}
use Rattle.std.proofs.lemmas.List.Splits.{slice_split_first}
use Rattle.std.specs.Prelude.{◌==◌, not}
use Rattle.std.specs.List.{list_all, onto_first, position_or_len, slice_split}
use Rattle.std.specs.Str.{byte}

-- what stands between the separators
abbrev pub parts_between : ℕ → List ℕ → List (List ℕ)
parts_between separator bytes = slice_split (λ b. b == separator) bytes

-- what stands between the commas
abbrev pub comma_parts : List ℕ → List (List ℕ)
comma_parts bytes = parts_between (byte ",") bytes

-- no separator stands among the bytes
abbrev pub lacks : ℕ → List ℕ → Bool
lacks separator bytes = list_all (λ b. not (b == separator)) bytes

-- the first separator ends the first part
pub part_at : (separator : ℕ) (front rest : List ℕ) → lacks separator front ≡ true
    → parts_between separator (front ++ separator ∷ rest) ≡ front ∷ parts_between separator rest
part_at separator [] rest e = let same : (separator == separator) ≡ true = grind (arith, nat_tests) in rw same refl
part_at separator (b ∷ front) rest e =
    let parts = and_parts (not (b == separator)) (lacks separator front) e in
    let other = not-true (b == separator) parts.0 in
    rw (other, part_at separator front rest parts.1) refl

-- and without one there is one part
pub part_alone : (separator : ℕ) (bytes : List ℕ) → lacks separator bytes ≡ true → parts_between separator bytes ≡ bytes ∷ []
part_alone separator [] e = refl
part_alone separator (b ∷ bytes) e =
    let parts = and_parts (not (b == separator)) (lacks separator bytes) e in
    let other = not-true (b == separator) parts.0 in
    rw (other, part_alone separator bytes parts.1) refl

-- the same by the place of the first separator
module _ (separator : ℕ) where
  abbrev place : List ℕ → ℕ
  place bytes = position_or_len (λ b. b == separator) bytes

  pub part_before : (bytes : List ℕ) → place bytes < length bytes
      → parts_between separator bytes ≡ take (place bytes) bytes ∷ parts_between separator (drop (place bytes + 1) bytes)
  part_before bytes below = slice_split_first (λ b. b == separator) bytes 0 below

  whole_step : (t : Bool) (b : ℕ) (bs : List ℕ) (k : ℕ) → cond (not t) (1 + k) 0 ≡ length (b ∷ bs)
      → (k ≡ length bs → parts_between separator bs ≡ bs ∷ [])
      → cond t ([] ∷ parts_between separator bs) (onto_first b (parts_between separator bs)) ≡ (b ∷ bs) ∷ []
  whole_step true b bs k none ih = absurd (omega arith)
  whole_step false b bs k none ih = let same : k ≡ length bs = omega arith in ap (onto_first b) (ih same)

  pub part_of_all : (bytes : List ℕ) → place bytes ≡ length bytes → parts_between separator bytes ≡ bytes ∷ []
  part_of_all [] none = refl
  part_of_all (b ∷ bs) none = whole_step (b == separator) b bs (place bs) none (λ same. part_of_all bs same)
