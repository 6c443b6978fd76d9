-- What std parses is the number of one digit or more.
use Rattle.std.proofs.Common.{◌≡◌, ℕ, ◌-◌, ◌^◌, ◌<◌, min, true, false, List, [], ◌∷◌, Result, length, refl, ap, sym, ◌∙◌, arith}
use Rattle.std.specs.Prelude.{◌&&◌}
use Rattle.std.specs.Char.{is_ascii_digit}
use Rattle.std.specs.List.{list_all}
use Rattle.std.specs.Result.{OkIff}
use Rattle.std.specs.Str.{all_ascii_digits}
use Rattle.std.specs.Str.Parse.{ParsesUnsigned, digits_value}
use Rattle.std.proofs.lemmas.Str.Parse.{IsNumeralModel, numerals_by_value, parse_digits, tells_all_ascii_digits}
use Rattle.ifmap_forms.specs.Values.{is_number}

own : IsNumeralModel (λ (ds : List ℕ). all_ascii_digits ds ≡ true) (digits_value 10)
own = numerals_by_value (λ (ds : List ℕ). all_ascii_digits ds ≡ true) tells_all_ascii_digits

some : (text : List ℕ) → is_number text ≡ true → 0 < length text
some [] h = let wrong : false ≡ true = h in cc
some (b ∷ bs) h = omega arith

all_digits : (text : List ℕ) → list_all is_ascii_digit text ≡ all_ascii_digits text
all_digits [] = refl
all_digits (b ∷ bs) = ap (λ t. is_ascii_digit b && t) (all_digits bs)

digits : (text : List ℕ) → is_number text ≡ true → all_ascii_digits text ≡ true
digits [] h = let wrong : false ≡ true = h in cc
digits (b ∷ bs) h = sym (all_digits (b ∷ bs)) ∙ h

module _ {E : Type 0} (text : List ℕ) (number : is_number text ≡ true) (r : Result ℕ E) (h : ParsesUnsigned 64 10 text r) where
  pub digits_parse : OkIff r ((0 < length text) × (digits_value 10 text < 2 ^ 64)) (digits_value 10 text)
  digits_parse = parse_digits own 64 text r h (digits text number)

pub out_of_range : (text : List ℕ) → is_number text ≡ true → ¬ ((0 < length text) × (digits_value 10 text < 2 ^ 64))
    → 2 ^ 64 - 1 ≡ min (digits_value 10 text) (2 ^ 64 - 1)
out_of_range text number h =
    let high : digits_value 10 text < 2 ^ 64 → ⊥ = λ below. h (some text number, below) in
    omega (arith, high)
