-- ASCII characters in texts: letters without regard to case, and digits.
use Rattle.std.proofs.Common.{◌≡◌, ℕ, ◌≤◌, true, List, [], ◌∷◌, map, refl, arith}
use Rattle.std.specs.Char.{is_ascii_digit, to_ascii_uppercase, to_ascii_lowercase}
use Rattle.std.specs.Str.{byte}
use Rattle.std.proofs.lemmas.Bool.Decides.{nat_tests}

upper_of_lower : (a : ℕ) → to_ascii_uppercase (to_ascii_lowercase a) ≡ to_ascii_uppercase a
upper_of_lower a = grind (arith, nat_tests)

lower_of_upper : (a : ℕ) → to_ascii_lowercase (to_ascii_uppercase a) ≡ to_ascii_lowercase a
lower_of_upper a = grind (arith, nat_tests)

lower_twice : (a : ℕ) → to_ascii_lowercase (to_ascii_lowercase a) ≡ to_ascii_lowercase a
lower_twice a = grind (arith, nat_tests)

-- of two changes of case, the later counts
pub all_raised : (xs : List ℕ) → map to_ascii_uppercase (map to_ascii_lowercase xs) ≡ map to_ascii_uppercase xs
all_raised [] = refl
all_raised (x ∷ xs) = λ i. upper_of_lower x i ∷ all_raised xs i

pub all_lowered : (xs : List ℕ) → map to_ascii_lowercase (map to_ascii_uppercase xs) ≡ map to_ascii_lowercase xs
all_lowered [] = refl
all_lowered (x ∷ xs) = λ i. lower_of_upper x i ∷ all_lowered xs i

pub lower_again : (xs : List ℕ) → map to_ascii_lowercase (map to_ascii_lowercase xs) ≡ map to_ascii_lowercase xs
lower_again [] = refl
lower_again (x ∷ xs) = λ i. lower_twice x i ∷ lower_again xs i

-- the bytes between `0` and `9`
pub digit_between : (b : ℕ) → byte "0" ≤ b → b ≤ byte "9" → is_ascii_digit b ≡ true
digit_between b low high = grind (arith, nat_tests)
