-- Whether a text is an address, and which, is decided.
-- 1. IPv4 and IPv6: the standard library's reader of the front of a text reads the whole of an address.
-- 2. MAC: the digits of a text tell the one value that it can have, and this value's text is compared with it.
use Rattle.std.proofs.Common.{◌≡◌, ℕ, ◌+◌, ◌*◌, ◌/◌, ◌%◌, ◌<◌, List, [], ◌∷◌, ◌++◌, ◌==◌, None, Some, length, inl, inr, refl, sym, ap, ◌∙◌, subst, append-nil, lit≤, arith}
use Rattle.std.proofs.NetLemmas.Ipv4.{read_ipv4_complete, read_ipv4_sound}
use Rattle.std.proofs.NetLemmas.Ipv6.{EndsGroups-nil, read_ipv6_complete, read_ipv6_sound}
use Rattle.std.proofs.NetLemmas.Options.{same_parts}
use Rattle.std.proofs.lemmas.Bool.{cases_lt}
use Rattle.std.proofs.lemmas.Option.{none-some}
use Rattle.std.specs.Char.{digit_char, digit_value}
use Rattle.std.specs.List.{AllByRecursion, list_any}
use Rattle.std.specs.Net.Grammar.{IsColonHex}
use Rattle.std.specs.Net.Reader.{Read, read_ipv4, read_ipv6}
use Rattle.std.specs.Str.{byte, str_to_ascii_lowercase}
use Rattle.ifmap_addresses.specs.DigitLaws.{digit_value-digit_char}
use Rattle.ifmap_addresses.specs.IpV4.{IsIpV4}
use Rattle.ifmap_addresses.specs.IpV6.{IsIpV6}
use Rattle.ifmap_addresses.specs.MacAddresses.{IsMacAddress, mac_address_text}
use Rattle.ifmap_lemmas.specs.Deciding.{Decided, decided_both, decided_by, decided_each, decided_untrue, equal_or_not, same_or_not}

-- ---- a reader of the front of a text that reads each text which is right, and nothing else

module _ (Is : List ℕ → List ℕ → Type 0) (text : List ℕ) (read : Read (List ℕ))
    (sound : (value rest : List ℕ) → read ≡ Some (value, rest) → (front : List ℕ) × (text ≡ front ++ rest) × Is front value)
    (complete : (value : List ℕ) → Is text value → read ≡ Some (value, [])) where
  at_rest : (value rest : List ℕ) → read ≡ Some (value, rest) → Decided ((value : List ℕ) × Is text value)
  at_rest value [] e =
      let (front, split, is) = sound value [] e in
      inl (value, subst (λ t. Is t value) (sym (split ∙ append-nil front)) is)
  at_rest value (c ∷ rest) e =
      inr (λ other.
      let left = (same_parts _ _ _ _ (sym e ∙ complete other.0 other.1)).1 in
      cc)

  whole_or_none : (r : Read (List ℕ)) → read ≡ r → Decided ((value : List ℕ) × Is text value)
  whole_or_none None e = inr (λ other. none-some _ (sym e ∙ complete other.0 other.1))
  whole_or_none (Some p) e = at_rest p.0 p.1 e

pub ip_v4_or_none : (text : List ℕ) → Decided ((value : List ℕ) × IsIpV4 text value)
ip_v4_or_none text =
    whole_or_none IsIpV4 text (read_ipv4 text) (read_ipv4_sound text)
    (λ value is. ap read_ipv4 (sym (append-nil text)) ∙ read_ipv4_complete text value [] is (lit≤ tt)) (read_ipv4 text) refl

colon_hex_or_none : (text : List ℕ) → Decided ((value : List ℕ) × IsColonHex text value)
colon_hex_or_none text =
    whole_or_none IsColonHex text (read_ipv6 text) (read_ipv6_sound text)
    (λ value is. ap read_ipv6 (sym (append-nil text)) ∙ read_ipv6_complete text value [] is EndsGroups-nil) (read_ipv6 text) refl

pub ip_v6_or_none : (text : List ℕ) → Decided ((value : List ℕ) × IsIpV6 text value)
ip_v6_or_none text =
    decided_by (λ p. (p.0.0, (p.0.1, p.1))) (λ v. ((v.0, v.1.0), v.1.1))
    (decided_both (colon_hex_or_none text) (decided_untrue (list_any (λ b. b == byte ".") text)))

-- ---- the one value that pairs of digits can have

abbrev values_of : List ℕ → List ℕ
values_of [] = []
values_of (high ∷ []) = []
values_of (high ∷ (low ∷ [])) = (digit_value high * 16 + digit_value low) ∷ []
values_of (high ∷ (low ∷ (colon ∷ rest))) = (digit_value high * 16 + digit_value low) ∷ values_of rest

pair_value : (b : ℕ) → b < 256 → digit_value (digit_char (b / 16)) * 16 + digit_value (digit_char (b % 16)) ≡ b
pair_value b h =
    let high = digit_value-digit_char (b / 16) (omega arith) in
    let low = digit_value-digit_char (b % 16) (omega arith) in
    omega (arith, high, low)

values_back : (value : List ℕ) → AllByRecursion (λ b. b < 256) value → values_of (mac_address_text value) ≡ value
values_back [] h = refl
values_back (b ∷ []) h = ap (λ n. n ∷ []) (pair_value b h.0)
values_back (b ∷ (c ∷ value)) h = λ i. pair_value b h.0 i ∷ values_back (c ∷ value) h.1 i

byte_or_not : (b : ℕ) → Decided (b < 256)
byte_or_not b = elim (cases_lt b 256) [ inl l ↦ inl l | inr g ↦ inr (λ l. omega (arith, l, g)) ]

-- this value is that of the text
record IsSpelledBy (lower value : List ℕ) : Type 0 where
  six : length value ≡ 6
  bytes : AllByRecursion (λ b. b < 256) value
  spelled : lower ≡ mac_address_text value

value_or_not : (lower value : List ℕ) → Decided (IsSpelledBy lower value)
value_or_not lower value =
    decided_by (λ p. record { six = p.0.0; bytes = p.0.1; spelled = p.1 }) (λ s. ((s.six, s.bytes), s.spelled))
    (decided_both (decided_both (equal_or_not (length value) 6) (decided_each (λ b. b < 256) byte_or_not value))
    (same_or_not lower (mac_address_text value)))

pub mac_address_or_none : (text : List ℕ) → Decided ((value : List ℕ) × IsMacAddress text value)
mac_address_or_none text =
    let lower = str_to_ascii_lowercase text in
    decided_by (λ s. (values_of lower, record { six = s.six; bytes = s.bytes; spelled = s.spelled }))
    (λ v. subst (IsSpelledBy lower) (sym (ap values_of v.1.spelled ∙ values_back v.0 v.1.bytes))
    (record { six = v.1.six; bytes = v.1.bytes; spelled = v.1.spelled }))
    (value_or_not lower (values_of lower))
