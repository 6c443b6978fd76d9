-- Digits as bytes: of numbers below sixteen, of decimal numbers and of groups.
use Rattle.std.proofs.Common.{◌≡◌, ℕ, zero, suc, ◌<◌, ◌/◌, ◌%◌, List, [], ◌∷◌, decimal, drop, map, inl, inr, refl, arith}
use Rattle.std.proofs.lemmas.Bool.Decides.{nat_tests}
use Rattle.std.proofs.lemmas.Fmt.{decimal_is_IsNumeral}
use Rattle.std.proofs.lemmas.List.Elements.{All-from_get_or, recursion_from_All}
use Rattle.std.proofs.lemmas.Str.Parse.{digit_at}
use Rattle.std.specs.Char.{digit_char, digit_value}
use Rattle.std.specs.Int.{IsInRange}
use Rattle.std.specs.List.{AllByRecursion, join_with_byte}
use Rattle.std.specs.Net.Text.{hex, leading_zero_digits}
use Rattle.std.specs.Str.{byte}
use Rattle.ifmap_addresses.specs.IpV6.{four_hex_digits}
use Rattle.ifmap_addresses.specs.Values.{IsAddressByte, IsDigit}
use Rattle.ifmap_lemmas.specs.Members.{both_all}
use Rattle.ifmap_lemmas.specs.Joined.{all_dropped}

-- ---- digits below sixteen

pub digit_value-digit_char : (d : ℕ) → d < 16 → digit_value (digit_char d) ≡ d
digit_value-digit_char d h = grind (arith, nat_tests)

pub is_digit : (d : ℕ) → d < 16 → IsDigit (digit_char d)
is_digit d h = grind (arith, nat_tests)

-- ---- digits of numbers

decimal_range : (n : ℕ) → n < 256 → AllByRecursion (IsInRange (byte "0") (byte "9")) (decimal n)
decimal_range n h =
    recursion_from_All (IsInRange (byte "0") (byte "9")) (decimal n) (All-from_get_or (IsInRange (byte "0") (byte "9")) (decimal n) 0
    (λ i below. digit_at (decimal n) i (decimal_is_IsNumeral n (omega arith)).0.1 below))

in_range : (text : List ℕ) → AllByRecursion (IsInRange (byte "0") (byte "9")) text → AllByRecursion IsDigit text
in_range [] h = tt
in_range (b ∷ bs) h = (inl h.0, in_range bs h.1)

pub decimal_digits : (n : ℕ) → n < 256 → AllByRecursion IsDigit (decimal n)
decimal_digits n h = in_range (decimal n) (decimal_range n h)

pub hex_digits : (n : ℕ) → n < 65536 → AllByRecursion IsDigit (hex n)
unfolding hex
hex_digits n h =
    all_dropped IsDigit (leading_zero_digits n) (four_hex_digits n) (
      is_digit (n / 0x1000) (omega arith),
      (is_digit (n / 0x100 % 16) (omega arith), (is_digit (n / 0x10 % 16) (omega arith), (is_digit (n % 16) (omega arith), tt))),
    )

-- ---- digits among the bytes of an address

pub address_digits : (text : List ℕ) → AllByRecursion IsDigit text → AllByRecursion IsAddressByte text
address_digits [] h = tt
address_digits (b ∷ bs) h = (inl h.0, address_digits bs h.1)

-- numbers that are written in digits, with colons between them
pub joined_digits : (written : ℕ → List ℕ) (bound : ℕ) (xs : List ℕ) → ((n : ℕ) → n < bound → AllByRecursion IsDigit (written n))
    → AllByRecursion (λ n. n < bound) xs → AllByRecursion IsAddressByte (join_with_byte (byte ":") (map written xs))
joined_digits written bound [] f h = tt
joined_digits written bound (x ∷ []) f h = address_digits (written x) (f x h.0)
joined_digits written bound (x ∷ (y ∷ xs)) f h =
    both_all IsAddressByte (written x) (byte ":" ∷ join_with_byte (byte ":") (map written (y ∷ xs))) (address_digits (written x) (f x h.0))
    (inr (inr refl), joined_digits written bound (y ∷ xs) f h.1)
