-- Decimal numerals of numbers of any size, and that they are those of std for what a machine can hold.
use Rattle.std.proofs.Common.{◌≡◌, ℕ, ◌+◌, ◌*◌, ◌/◌, ◌%◌, ◌^◌, ◌<◌, ◌≤◌, zero, suc, List, [], ◌∷◌, ◌++◌, refl, ap, sym, ◌∙◌, arith, inl, inr}
use Rattle.std.specs.Prelude.{if◌then◌else◌, nat_lt}
use Rattle.std.specs.Char.{digit_value}
use Rattle.std.specs.Fmt.{decimal}
use Rattle.std.specs.Str.{byte}
use Rattle.std.specs.Str.Parse.{AllDigits, digits_value, digits_value_after}
use Rattle.std.proofs.lemmas.Bool.{cases_Bool}
use Rattle.std.proofs.lemmas.Bool.Decides.{nat_tests}
use Rattle.std.proofs.lemmas.Fmt.{decimal_digit, decimal_step}
use Rattle.std.proofs.lemmas.Str.{digit_value_digit}

-- the character of a digit, by its place after `0`
abbrev pub digit : ℕ → ℕ
digit d = byte "0" + d

-- the digits of a number, or as many of the last ones
abbrev pub digits_within : ℕ → ℕ → List ℕ
digits_within zero n = []
digits_within (suc k) n = if nat_lt n 10 then digit n ∷ [] else digits_within k (n / 10) ++ digit (n % 10) ∷ []

-- the digits of a number, of which it has at most one more than it counts
abbrev pub numeral : ℕ → List ℕ
numeral n = digits_within (n + 1) n

-- what holds of the numeral of each number, where it holds of one digit and of a digit more
module _ (P : ℕ → List ℕ → Type 0) (one : (n : ℕ) → n < 10 → P n (digit n ∷ []))
    (more : (n : ℕ) (ds : List ℕ) → 10 ≤ n → P (n / 10) ds → P n (ds ++ digit (n % 10) ∷ [])) where
  within : (k n : ℕ) → n < k → P n (digits_within k n)
  within zero n low = absurd (omega arith)
  within (suc k) n low = elim (cases_Bool (nat_lt n 10)) [
    | inl e ↦ let few : n < 10 = grind (arith, nat_tests) in rw e (one n few)
    | inr e ↦
        let many : 10 ≤ n = grind (arith, nat_tests) in
        let less : n / 10 < k = omega arith in
        rw e (more n (digits_within k (n / 10)) many (within k (n / 10) less))
  ]

  pub numeral_by_digits : (n : ℕ) → P n (numeral n)
  numeral_by_digits n = within (n + 1) n (omega arith)

digit_is : (d : ℕ) → d < 10 → digit_value (digit d) ≡ d
digit_is d few = let h = digit_value_digit (digit d) (omega arith, omega arith) in omega arith

all_digits_push : (ds : List ℕ) (d : ℕ) → AllDigits 10 ds → d < 10 → AllDigits 10 (ds ++ digit d ∷ [])
all_digits_push [] d f few = (let h = digit_is d few in omega arith, tt)
all_digits_push (c ∷ cs) d f few = (f.0, all_digits_push cs d f.1 few)

pub numeral_digits : (n : ℕ) → AllDigits 10 (numeral n)
numeral_digits = numeral_by_digits (λ n ds. AllDigits 10 ds) (λ n few. all_digits_push [] n tt few)
    (λ n ds many h. all_digits_push ds (n % 10) h (omega arith))

value_push : (m : ℕ) (ds : List ℕ) (c : ℕ) → digits_value_after 10 m (ds ++ c ∷ []) ≡ digits_value_after 10 m ds * 10 + digit_value c
value_push m [] c = refl
value_push m (d ∷ ds) c = value_push (m * 10 + digit_value d) ds c

pub numeral_value : (n : ℕ) → digits_value 10 (numeral n) ≡ n
numeral_value = numeral_by_digits (λ n ds. digits_value 10 ds ≡ n) (λ n few. let h = digit_is n few in omega arith) last
  where
    last : (n : ℕ) (ds : List ℕ) → 10 ≤ n → digits_value 10 ds ≡ n / 10 → digits_value 10 (ds ++ digit (n % 10) ∷ []) ≡ n
    last n ds many h = let d = digit_is (n % 10) (omega arith) in omega (arith, value_push 0 ds (digit (n % 10)))

-- numerals tell numbers apart
pub one_number : (m n : ℕ) → numeral m ≡ numeral n → m ≡ n
one_number m n e = sym (numeral_value m) ∙ ap (digits_value 10) e ∙ numeral_value n

-- what a machine can hold is printed as its numeral
pub numeral_is_decimal : (n : ℕ) → n < 2 ^ 64 → numeral n ≡ decimal n
numeral_is_decimal = numeral_by_digits (λ n ds. n < 2 ^ 64 → ds ≡ decimal n) (λ n few held. sym (decimal_digit n few)) last
  where
    last : (n : ℕ) (ds : List ℕ) → 10 ≤ n → (n / 10 < 2 ^ 64 → ds ≡ decimal (n / 10)) → n < 2 ^ 64 → ds ++ digit (n % 10) ∷ [] ≡ decimal n
    last n ds many h held = ap (λ l. l ++ digit (n % 10) ∷ []) (h (omega arith)) ∙ sym (decimal_step n many held)
