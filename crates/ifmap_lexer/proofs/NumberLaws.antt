-- The numbers that digits write.
use Rattle.std.proofs.Common.{◌≡◌, ℕ, ◌+◌, ◌*◌, ◌<◌, ◌≤◌, true, false, List, [], ◌∷◌, length, get_or, take, min, refl, ap, sym, ◌∙◌}
use Rattle.std.proofs.Common.{subst, arith, inl, inr}
use Rattle.std.specs.Prelude.{nat_eq, Some, None}
use Rattle.std.specs.Char.{is_digit, digit_value}
use Rattle.std.specs.List.{list_all}
use Rattle.std.specs.Str.Parse.{digits_value}
use Rattle.std.proofs.Math.Nat.{mul-le-mul}
use Rattle.std.proofs.lemmas.Bool.{cases_lt, and_from}
use Rattle.std.proofs.lemmas.Bool.Decides.{nat_tests}
use Rattle.std.proofs.lemmas.Int.Digits.{digits_value_more}
use Rattle.std.proofs.lemmas.List.Folds.{list_all_more, list_all_at}
use Rattle.std.proofs.Math.Seq.{take-length}
use Rattle.ifmap_lexer.specs.Numbers.{code_point_of}

-- the digits so far are digits, and write this number, unless it is past all characters
pub record Reads (base : ℕ) (digits : List ℕ) (i number : ℕ) : Type 0 where
  pub all : list_all (λ d. is_digit d base) (take i digits) ≡ true
  pub is : number ≡ min (digits_value base (take i digits)) 0x11_0000
  pub small : number ≤ 0x11_0000

pub reads_none : (base : ℕ) (digits : List ℕ) → Reads base digits 0 0
reads_none base digits = record { all = refl; is = refl; small = omega arith }

past : (base v d : ℕ) → 1 ≤ base → 0x11_0000 ≤ v → min (0x11_0000 * base + d) 0x11_0000 ≡ min (v * base + d) 0x11_0000
past base v d some big =
    let one : 0x11_0000 * 1 ≤ v * base = mul-le-mul big some in
    omega arith

capped_next : (base v n d : ℕ) → 1 ≤ base → n ≡ min v 0x11_0000 → min (n * base + d) 0x11_0000 ≡ min (v * base + d) 0x11_0000
capped_next base v n d some e =
    elim (cases_lt v 0x11_0000) [
      | inl l ↦ let same : n ≡ v = omega arith in ap (λ x. min (x * base + d) 0x11_0000) same
      | inr g ↦ let same : n ≡ 0x11_0000 = omega arith in ap (λ x. min (x * base + d) 0x11_0000) same ∙ past base v d some g
    ]

pub reads_next : (base : ℕ) (digits : List ℕ) (i n m d : ℕ) → 2 ≤ base → Reads base digits i n → i < length digits → d ≡ get_or digits i 0
    → digit_value d < base → m ≡ min (n * base + digit_value d) 0x11_0000 → Reads base digits (i + 1) m
reads_next base digits i n m d some r l at digit e =
    let here : is_digit d base ≡ true = grind (arith, nat_tests) in
    record {
      all = list_all_more (λ x. is_digit x base) digits i 0 l ∙ and_from _ _ r.all (subst (λ (x : ℕ). is_digit x base ≡ true) at here);
      is = e ∙ capped_next base (digits_value base (take i digits)) n (digit_value d) (omega arith) r.is
          ∙ ap (λ x. min (digits_value base (take i digits) * base + digit_value x) 0x11_0000) at
          ∙ ap (λ x. min x 0x11_0000) (sym (digits_value_more base digits i l));
      small = omega arith;
    }

pub reads_all : (base : ℕ) (digits : List ℕ) (i n : ℕ) → nat_eq (length digits) 0 ≡ false → i ≡ length digits → Reads base digits i n
    → Some n ≡ code_point_of base digits
reads_all base digits i n some end r =
    let whole : take i digits ≡ digits = ap (λ k. take k digits) end ∙ take-length digits in
    let all : list_all (λ d. is_digit d base) digits ≡ true =
    subst (λ (xs : List ℕ). list_all (λ d. is_digit d base) xs ≡ true) whole r.all in
    let is : n ≡ min (digits_value base digits) 0x11_0000 = subst (λ (xs : List ℕ). n ≡ min (digits_value base xs) 0x11_0000) whole r.is in
    rw (some, all) (ap Some is)

pub no_digit : (base : ℕ) (digits : List ℕ) (i d : ℕ) → nat_eq (length digits) 0 ≡ false → i < length digits → d ≡ get_or digits i 0
    → (digit_value d < base → ⊥) → None ≡ code_point_of base digits
no_digit base digits i d some l at none =
    let here : is_digit d base ≡ false = grind (arith, nat_tests) in
    let all : list_all (λ x. is_digit x base) digits ≡ false =
    list_all_at (λ x. is_digit x base) digits i 0 l (subst (λ (x : ℕ). is_digit x base ≡ false) at here) in
    rw (some, all) refl
