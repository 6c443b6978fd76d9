-- Laws of IPv6 addresses: a text is one address, of eight numbers of sixteen bits; the text of a value is that value's address; it is
-- plain.
use Rattle.std.proofs.Common.{◌≡◌, ℕ, zero, suc, ◌+◌, ◌-◌, ◌^◌, ◌<◌, ◌≤◌, ◌/◌, ◌%◌, Bool, true, false, nat_eq, List, [], ◌∷◌, ◌++◌, length, replicate, inl, inr, refl, ap, subst, sym, ◌∙◌, arith, append-nil, le-leb, lit≤, length-append}
use Rattle.std.proofs.NetLemmas.Theorems.{IsIpv6Text_unique}
use Rattle.std.proofs.lemmas.Bool.{cases_lt, lt-leb, or_from}
use Rattle.std.proofs.lemmas.Bool.Decides.{nat_tests}
use Rattle.std.proofs.lemmas.Int.Digits.{digits_value-lt}
use Rattle.std.proofs.lemmas.List.{length-replicate}
use Rattle.std.proofs.lemmas.List.Folds.{list_any-append}
use Rattle.std.proofs.Math.Nat.{pow-le-pow_right}
use Rattle.std.specs.List.{AllByRecursion, list_any}
use Rattle.std.specs.Net.Addr.{segments_of}
use Rattle.std.specs.Net.Grammar.{IsDotted, IsGroup, IsGroups, IsGroupsAfter}
use Rattle.std.specs.Net.Text.{hex}
use Rattle.std.specs.Str.{byte}
use Rattle.ifmap_addresses.specs.DigitLaws.{digit_value-digit_char, hex_digits, joined_digits}
use Rattle.ifmap_addresses.specs.IpV6.{IsIpV6, ip_v6_text}
use Rattle.ifmap_addresses.specs.Values.{AreBelow, IsAddressByte, IsDigit}
use Rattle.ifmap_lemmas.specs.Members.{both_all}

pub one_ip_v6 : (text one other : List ℕ) → IsIpV6 text one → IsIpV6 text other → one ≡ other
one_ip_v6 text one other f g =
    ap (λ a. a.segments) (IsIpv6Text_unique text (record { segments = one }) (record { segments = other }) f.0 g.0)

-- ---- the text of a value

-- the digits of n are a group whose value is n
hex_is_group : (n : ℕ) → n < 65536 → IsGroup (hex n) n
unfolding hex
hex_is_group n fits =
    let a = digit_value-digit_char (n / 0x1000) (omega arith) in
    let b = digit_value-digit_char (n / 0x100 % 16) (omega arith) in
    let c = digit_value-digit_char (n / 0x10 % 16) (omega arith) in
    let d = digit_value-digit_char (n % 16) (omega arith) in
    elim (cases_lt n 0x1000) [
      | inr four ↦ rw (le-leb _ n four) (omega arith)
      | inl h₃ ↦ elim (cases_lt n 0x100) [
        | inr three ↦ rw (lt-leb _ n h₃, le-leb _ n three) (omega arith)
        | inl h₂ ↦ elim (cases_lt n 0x10) [
          | inr two ↦ rw (lt-leb _ n h₃, lt-leb _ n h₂, le-leb _ n two) (omega arith)
          | inl h₁ ↦ rw (lt-leb _ n h₃, lt-leb _ n h₂, lt-leb _ n h₁) (omega arith)
        ]
      ]
    ]

-- the groups after the first, each after a colon
abbrev after : List ℕ → List ℕ
after [] = []
after (x ∷ xs) = byte ":" ∷ (hex x ++ after xs)

text_parts : (x : ℕ) (xs : List ℕ) → ip_v6_text (x ∷ xs) ≡ hex x ++ after xs
text_parts x [] = sym (append-nil (hex x))
text_parts x (y ∷ ys) = ap (λ t. hex x ++ (byte ":" ∷ t)) (text_parts y ys)

groups_after : (xs : List ℕ) → AllByRecursion (λ n. n < 65536) xs → IsGroupsAfter true (byte ":" ∷ []) (after xs) xs
groups_after [] h = refl
groups_after (x ∷ xs) h = inl (hex x, after xs, refl, hex_is_group x h.0, groups_after xs h.1)

text_groups : (xs : List ℕ) → AllByRecursion (λ n. n < 65536) xs → IsGroups true (ip_v6_text xs) xs
text_groups [] h = refl
text_groups (x ∷ xs) h = inl (hex x, after xs, text_parts x xs, hex_is_group x h.0, groups_after xs h.1)

pub ip_v6_plain : (value : List ℕ) → AllByRecursion (λ n. n < 65536) value → AllByRecursion IsAddressByte (ip_v6_text value)
ip_v6_plain value h = joined_digits hex 65536 value hex_digits h

digit_is_no_dot : (b : ℕ) → IsDigit b → nat_eq b (byte ".") ≡ false
digit_is_no_dot b (inl h) = grind (arith, nat_tests)
digit_is_no_dot b (inr h) = grind (arith, nat_tests)

abbrev has_dot : List ℕ → Bool
has_dot text = list_any (λ b. nat_eq b (byte ".")) text

no_dot_joins : (one other : List ℕ) → has_dot one ≡ false → has_dot other ≡ false → has_dot (one ++ other) ≡ false
no_dot_joins one other f g = list_any-append (λ b. nat_eq b (byte ".")) one other ∙ or_from (has_dot one) (has_dot other) f g

digits_no_dot : (text : List ℕ) → AllByRecursion IsDigit text → has_dot text ≡ false
digits_no_dot [] h = refl
digits_no_dot (b ∷ bs) h = or_from (nat_eq b (byte ".")) (has_dot bs) (digit_is_no_dot b h.0) (digits_no_dot bs h.1)

after_no_dot : (xs : List ℕ) → AllByRecursion (λ n. n < 65536) xs → has_dot (after xs) ≡ false
after_no_dot [] h = refl
after_no_dot (x ∷ xs) h = no_dot_joins (hex x) (after xs) (digits_no_dot (hex x) (hex_digits x h.0)) (after_no_dot xs h.1)

text_no_dot : (xs : List ℕ) → AllByRecursion (λ n. n < 65536) xs → has_dot (ip_v6_text xs) ≡ false
text_no_dot [] h = refl
text_no_dot (x ∷ xs) h =
    ap has_dot (text_parts x xs) ∙ no_dot_joins (hex x) (after xs) (digits_no_dot (hex x) (hex_digits x h.0)) (after_no_dot xs h.1)

pub ip_v6_spelled : (value : List ℕ) → AreBelow 65536 8 value → IsIpV6 (ip_v6_text value) value
ip_v6_spelled value h = (inl (text_groups value h.below, h.number), text_no_dot value h.below)

-- so texts tell values apart
pub ip_v6_tells : (v w : List ℕ) → AreBelow 65536 8 v → AreBelow 65536 8 w → ip_v6_text v ≡ ip_v6_text w → v ≡ w
ip_v6_tells v w f g e =
    one_ip_v6 (ip_v6_text w) v w (subst (λ text. IsIpV6 text v) e (ip_v6_spelled v f)) (ip_v6_spelled w g)

-- ---- the size of a value

group_below : (text : List ℕ) (n : ℕ) → IsGroup text n → n < 65536
group_below text n h =
    let below = digits_value-lt 16 text h.0.0.1 in
    let most : 16 ^ length text ≤ 16 ^ 4 = pow-le-pow_right (lit≤ tt) h.1 in
    omega (arith, h.0.1)

dotted_below : (text octets : List ℕ) → IsDotted text octets → AllByRecursion (λ n. n < 65536) (segments_of octets)
dotted_below text octets h =
    subst (λ o. AllByRecursion (λ n. n < 65536) (segments_of o)) (sym h.value) (
      omega (arith, h.fit.0, h.fit.1),
      (
        omega
            (arith, h.fit.2, h.fit.3),
        tt,
      ),
    )

groups_below : (ipv4 : Bool) (lead text xs : List ℕ) → IsGroupsAfter ipv4 lead text xs → AllByRecursion (λ n. n < 65536) xs
groups_below ipv4 lead text [] h = tt
groups_below ipv4 lead text (x ∷ xs) (inl h) = (group_below h.0 x h.3, groups_below ipv4 (byte ":" ∷ []) h.1 xs h.4)
groups_below ipv4 lead text (x ∷ xs) (inr h) =
    subst (AllByRecursion (λ n. n < 65536)) (sym h.5) (dotted_below h.0 h.1 h.4)

zeros_below : (many : ℕ) → AllByRecursion (λ n. n < 65536) (replicate many 0)
zeros_below zero = tt
zeros_below (suc many) = (omega arith, zeros_below many)

pub ip_v6_fits : (text value : List ℕ) → IsIpV6 text value → AreBelow 65536 8 value
ip_v6_fits text value (inl h, none) = record { number = h.1; below = groups_below true [] text value h.0 }
ip_v6_fits text value (inr h, none) = record {
  number = ap length h.value ∙ elided_length h.head h.tail h.room;
  below = subst (AllByRecursion (λ n. n < 65536)) (sym h.value)
      (both_all (λ n. n < 65536) (h.head ++ replicate (8 - length h.head - length h.tail) 0) h.tail
      (both_all (λ n. n < 65536) h.head (replicate (8 - length h.head - length h.tail) 0)
      (groups_below false [] h.head_text h.head h.head_groups)
      (zeros_below (8 - length h.head - length h.tail))) (groups_below true [] h.tail_text h.tail h.tail_groups));
}
  where
    elided_length : (head tail : List ℕ) → length head + length tail < 8
        → length (head ++ replicate (8 - length head - length tail) 0 ++ tail) ≡ 8
    elided_length head tail room =
        let whole = length-append (head ++ replicate (8 - length head - length tail) 0) tail in
        let front = length-append head (replicate (8 - length head - length tail) 0) in
        let zeros = length-replicate (8 - length head - length tail) zero in
        omega arith
