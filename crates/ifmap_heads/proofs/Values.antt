-- What the values of fields say.
use Rattle.std.proofs.Common.{◌≡◌, ℕ, ◌+◌, ◌-◌, ◌*◌, ◌^◌, ◌<◌, ◌≤◌, Bool, true, List, length, get_or, take, drop, refl, sym, ap, ◌∙◌, arith, add-one}
use Rattle.std.specs.Prelude.{◌&&◌}
use Rattle.std.specs.Char.{digit_value, is_ascii_digit}
use Rattle.std.specs.List.{list_all}
use Rattle.std.specs.Str.Parse.{digits_value}
use Rattle.std.proofs.Math.Nat.{pow-le-pow_right, pow-suc}
use Rattle.std.proofs.lemmas.Bool.Decides.{nat_tests}
use Rattle.std.proofs.lemmas.Int.Digits.{digits_value_push}
use Rattle.std.proofs.lemmas.List.{take_more}
use Rattle.std.proofs.lemmas.List.Folds.{list_all-append}
use Rattle.httparse.specs.Ascii.{comma}
use Rattle.ifmap_lemmas.specs.Letters.{digit_between}
use Rattle.ifmap_lemmas.specs.Separated.{lacks}

pub room_for_digit : (n i : ℕ) → n < 10 ^ i → i < 18 → n * 10 + 9 < 2 ^ 64
room_for_digit n i less few =
    let few-le : i ≤ 17 = omega arith in
    let some : 0 < 10 = omega arith in
    let bound : 10 ^ i ≤ 10 ^ 17 = pow-le-pow_right some few-le in
    omega (arith, bound)

digit_of : (b : ℕ) → 48 ≤ b → b ≤ 57 → digit_value b ≡ b - 48
digit_of b low high = grind (arith, nat_tests)

pub digit_pushed : (value : List ℕ) (i number d : ℕ) → i < length value → number ≡ digits_value 10 (take i value)
    → number < 10 ^ i → list_all is_ascii_digit (take i value) ≡ true
    → 48 ≤ get_or value i 0 → get_or value i 0 ≤ 57 → d ≡ get_or value i 0 - 48
    → (number * 10 + d ≡ digits_value 10 (take (i + 1) value)) × (number * 10 + d < 10 ^ (i + 1))
    × (list_all is_ascii_digit (take (i + 1) value) ≡ true)
digit_pushed value i number d within is less all low high digit =
    let b = get_or value i 0 in
    let more = take_more value i 0 within in
    let power : 10 ^ (i + 1) ≡ 10 ^ i * 10 = rw add-one (pow-suc 10 i) in
    let last = digit_of b low high in (
      rw more (rw digits_value_push (rw (last, ← digit, ← is) refl)),
      omega (arith, power),
      rw more (rw list_all-append (rw (all, digit_between b low high) refl)),
    )

-- no comma stands among the bytes
abbrev pub lacks_comma : List ℕ → Bool
lacks_comma bytes = lacks comma bytes
