-- Laws of MAC addresses: their texts are ordered as they are, so a text is one address; the text of a value is that value's address; it
-- is plain.
use Rattle.std.proofs.Common.{◌≡◌, ℕ, ◌+◌, ◌*◌, ◌/◌, ◌%◌, ◌<◌, List, [], ◌∷◌, ◌++◌, length, refl, ap, sym, ◌∙◌, arith}
use Rattle.std.proofs.lemmas.Bool.Decides.{nat_tests}
use Rattle.std.proofs.lemmas.Cmp.{ranked}
use Rattle.std.proofs.lemmas.Map.Lookups.{exact_bytes}
use Rattle.std.specs.Char.{digit_char, to_ascii_lowercase}
use Rattle.std.specs.Cmp.{nat_cmp_is, nat_cmp_total, tied_itself}
use Rattle.std.specs.Cmp.Lexicographic.{slice_cmp}
use Rattle.std.specs.List.{AllByRecursion}
use Rattle.std.specs.Ordering.{MatchOrdering, nat_cmp, ordering_then}
use Rattle.std.specs.Str.{byte, str_to_ascii_lowercase}
use Rattle.std.specs.declared.cmp.Ordering.{Ordering}
use Rattle.std.specs.declared.cmp.Ordering.TheVariants.{Less, Equal, Greater}
use Rattle.ifmap_addresses.specs.DigitLaws.{is_digit, joined_digits}
use Rattle.ifmap_addresses.specs.MacAddresses.{IsMacAddress, hex_pair, mac_address_text}
use Rattle.ifmap_addresses.specs.Values.{AreBelow, IsAddressByte, IsDigit}
use Rattle.ifmap_lemmas.specs.Orderings.{then_then}
use Rattle.ifmap_lemmas.specs.Texts.{slice_cmp-same}
use Rattle.ifmap_lemmas.specs.Ties.{nat_cmp-rising}

-- ---- order

digit_rises : (m n : ℕ) → m < n → digit_char m < digit_char n
digit_rises m n h = grind (arith, nat_tests)

digit_order : (m n : ℕ) → nat_cmp (digit_char m) (digit_char n) ≡ nat_cmp m n
digit_order m n = nat_cmp-rising digit_char m n (digit_rises m n) (digit_rises n m)

-- bytes are ordered by their upper half, and then by their lower
nat_cmp-halves : (b c : ℕ) → ordering_then (nat_cmp (b / 16) (c / 16)) (nat_cmp (b % 16) (c % 16)) ≡ nat_cmp b c
nat_cmp-halves b c =
    nat_cmp_is b c (ordering_then (nat_cmp (b / 16) (c / 16)) (nat_cmp (b % 16) (c % 16)))
    (by (nat_cmp (b / 16) (c / 16)) (nat_cmp (b % 16) (c % 16)) (ranked (b / 16) (c / 16) (nat_cmp (b / 16) (c / 16)) refl)
    (ranked (b % 16) (c % 16) (nat_cmp (b % 16) (c % 16)) refl))
  where
    by : (r s : Ordering) → MatchOrdering r (b / 16 < c / 16) (b / 16 ≡ c / 16) (c / 16 < b / 16)
        → MatchOrdering s (b % 16 < c % 16) (b % 16 ≡ c % 16) (c % 16 < b % 16)
        → MatchOrdering (ordering_then r s) (b < c) (b ≡ c) (c < b)
    by Less s h k = omega arith
    by Equal Less h k = omega arith
    by Equal Equal h k = omega arith
    by Equal Greater h k = omega arith
    by Greater s h k = omega arith

-- a pair, and what follows
pair_first : (b c : ℕ) (x y : List ℕ) → slice_cmp nat_cmp (hex_pair b ++ x) (hex_pair c ++ y)
    ≡ ordering_then (nat_cmp b c) (slice_cmp nat_cmp x y)
pair_first b c x y =
    (λ i. ordering_then (digit_order (b / 16) (c / 16) i) (ordering_then (digit_order (b % 16) (c % 16) i) (slice_cmp nat_cmp x y)))
    ∙ then_then (nat_cmp (b / 16) (c / 16)) (nat_cmp (b % 16) (c % 16)) (slice_cmp nat_cmp x y)
    ∙ ap (λ o. ordering_then o (slice_cmp nat_cmp x y)) (nat_cmp-halves b c)

pub mac_address_in_order : (v w : List ℕ) → length v ≡ length w
    → slice_cmp nat_cmp (mac_address_text v) (mac_address_text w) ≡ slice_cmp nat_cmp v w
mac_address_in_order [] [] e = refl
mac_address_in_order [] (c ∷ w) e = absurd (omega arith)
mac_address_in_order (b ∷ v) [] e = absurd (omega arith)
mac_address_in_order (b ∷ []) (c ∷ []) e = pair_first b c [] []
mac_address_in_order (b ∷ []) (c ∷ (d ∷ w)) e = absurd (omega arith)
mac_address_in_order (b ∷ (a ∷ v)) (c ∷ []) e = absurd (omega arith)
mac_address_in_order (b ∷ (a ∷ v)) (c ∷ (d ∷ w)) e =
    pair_first b c (byte ":" ∷ mac_address_text (a ∷ v)) (byte ":" ∷ mac_address_text (d ∷ w))
    ∙ ap (ordering_then (nat_cmp b c)) (ap (λ o. ordering_then o (slice_cmp nat_cmp (mac_address_text (a ∷ v)) (mac_address_text (d ∷ w))))
    (tied_itself nat_cmp_total (byte ":")) ∙ mac_address_in_order (a ∷ v) (d ∷ w) (omega arith))

-- so texts tell values apart
pub mac_address_tells : (v w : List ℕ) → length v ≡ length w → mac_address_text v ≡ mac_address_text w → v ≡ w
mac_address_tells v w e h =
    exact_bytes v w (sym (mac_address_in_order v w e) ∙ slice_cmp-same (mac_address_text v) (mac_address_text w) h)

pub one_mac_address : (text one other : List ℕ) → IsMacAddress text one → IsMacAddress text other → one ≡ other
one_mac_address text one other f g = mac_address_tells one other (f.six ∙ sym g.six) (sym f.spelled ∙ g.spelled)

-- ---- the text of a value

pair_digits : (b : ℕ) → b < 256 → AllByRecursion IsDigit (hex_pair b)
pair_digits b h = (is_digit (b / 16) (omega arith), (is_digit (b % 16) (omega arith), tt))

pub mac_address_plain : (value : List ℕ) → AllByRecursion (λ b. b < 256) value → AllByRecursion IsAddressByte (mac_address_text value)
mac_address_plain value h = joined_digits hex_pair 256 value pair_digits h

plain_is_lower : (b : ℕ) → IsAddressByte b → to_ascii_lowercase b ≡ b
plain_is_lower b h = grind (arith, nat_tests)

plain_are_lower : (text : List ℕ) → AllByRecursion IsAddressByte text → str_to_ascii_lowercase text ≡ text
plain_are_lower [] h = refl
plain_are_lower (b ∷ bs) h = λ i. plain_is_lower b h.0 i ∷ plain_are_lower bs h.1 i

pub mac_address_spelled : (value : List ℕ) → AreBelow 256 6 value → IsMacAddress (mac_address_text value) value
mac_address_spelled value h = record {
  six = h.number;
  bytes = h.below;
  spelled = plain_are_lower (mac_address_text value) (mac_address_plain value h.below);
}

pub mac_address_length : (b : ℕ) (bytes : List ℕ) → length (mac_address_text (b ∷ bytes)) ≡ 3 * length bytes + 2
mac_address_length b [] = refl
mac_address_length b (c ∷ bytes) = let rest = mac_address_length c bytes in omega arith
