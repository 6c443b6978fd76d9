-- Ids of sessions.
use Rattle.std.proofs.lemmas.Str.Parse.{not_in_digits}
use Rattle.std.proofs.Common.{◌≢◌, ℕ, ◌^◌, ◌<◌, length, get_or, arith, ◌≡◌, refl, suc, List, [], ◌∷◌, sym, ◌∙◌, true, false, inl, inr, zero, ◌/◌, ◌%◌, ◌==◌, Bool, cond}
use Rattle.std.proofs.lemmas.Fmt.{digits_decimal, decimal_injective}
use Rattle.std.specs.Fmt.{decimal, digit_glyph, digits_onto, digits}
use Rattle.ifmap_session.specs.SessionIds.{hyphen, BeginsWithSerial, session_id}
use Rattle.std.proofs.lemmas.Bool.Decides.{nat_tests}
use Rattle.ifmap_elem.specs.laws.CharacterLaws.{is_plain, plain_characters, digit_plain}
use Rattle.std.specs.Prelude.{nat_lt}
use Rattle.std.proofs.lemmas.Bool.{cases_Bool}
use Rattle.ifmap_elem.specs.Chars.{AllAre, IsCharacters}
use Rattle.ifmap_lemmas.specs.Cuts.{same_before}
use Rattle.ifmap_lemmas.specs.Members.{all_append}
use Rattle.ifmap_lemmas.specs.Decimals.{decimal_model}
use Rattle.uuid.specs.Text as uuid
use Rattle.uuid.proofs.TextLemmas.{nibble_small}
use Rattle.std.specs.Int.{to_be_bytes, w128}

pub no_hyphen : (n : ℕ) → n < 2 ^ 64 → (i : ℕ) → i < length (decimal n) → get_or (decimal n) i 0 ≢ hyphen
no_hyphen n small = not_in_digits decimal_model (decimal n) hyphen (digits_decimal decimal_model n small) (λ r. absurd (omega (arith, r)))

pub ids_tell : (n m : ℕ) (id : List ℕ) → n < 2 ^ 64 → m < 2 ^ 64 → BeginsWithSerial n id → BeginsWithSerial m id → n ≡ m
ids_tell n m id small few a b =
    decimal_injective n m small few (same_before hyphen (decimal n) (decimal m) a.0 b.0 (no_hyphen n small) (no_hyphen m few) (sym a.1 ∙
    b.1))

pub glyph_plain : (d : ℕ) → d < 10 → is_plain (digit_glyph false d) ≡ true
glyph_plain d few = elim (cases_Bool (nat_lt d 10)) [
  | inl e ↦ rw e (digit_plain d few)
  | inr e ↦ absurd (grind (arith, nat_tests))
]

pub digits_plain : (k n : ℕ) (after : List ℕ) → AllAre is_plain after → AllAre is_plain (digits_onto k 10 false n after)
digits_plain zero n after f = f
digits_plain (suc k) n after f =
    let first : is_plain (digit_glyph false (n % 10)) ≡ true = glyph_plain (n % 10) (omega arith) in
    elim (cases_Bool (n / 10 == 0)) [
      | inl e ↦ rw e (first, f)
      | inr e ↦ rw e (digits_plain k (n / 10) (digit_glyph false (n % 10) ∷ after) (first, f))
    ]

pub decimal_plain : (n : ℕ) → AllAre is_plain (decimal n)
unfolding digits
decimal_plain n = digits_plain 64 n [] tt

pub index_plain : (n : ℕ) (f : ℕ → ℕ) → ((k : ℕ) → is_plain (f k) ≡ true) → AllAre is_plain (uuid.by_index n f)
unfolding uuid.by_index
index_plain zero f h = tt
index_plain (suc n) f h = all_append is_plain (uuid.by_index n f) (f n ∷ []) (index_plain n f h) (h n, tt)

pub hex_plain : (d : ℕ) → d < 16 → is_plain (uuid.hex_digit uuid.lower d) ≡ true
hex_plain d few = elim (cases_Bool (nat_lt d 10)) [
  | inl e ↦ rw e (digit_plain d (grind (arith, nat_tests)))
  | inr e ↦ rw e (grind (arith, nat_tests))
]

pub place_plain : (bytes : List ℕ) (k : ℕ) (b : Bool)
    → is_plain (cond b uuid.hyphen (uuid.hex_digit uuid.lower (uuid.nibble bytes (uuid.digit_place k)))) ≡ true
place_plain bytes k true = refl
place_plain bytes k false = hex_plain (uuid.nibble bytes (uuid.digit_place k)) (nibble_small bytes (uuid.digit_place k))

pub id_characters : (serial random : ℕ) → IsCharacters (session_id serial random)
id_characters serial random =
    let bytes = to_be_bytes w128 random in
    plain_characters (session_id serial random)
    (all_append is_plain (decimal serial) (hyphen ∷ uuid.hyphenated_text uuid.lower bytes) (decimal_plain serial) (
      refl,
      index_plain 36 (λ k. cond (uuid.is_hyphen_place k) uuid.hyphen (uuid.hex_digit uuid.lower (uuid.nibble bytes (uuid.digit_place k))))
          (λ k. place_plain bytes k (uuid.is_hyphen_place k)),
    ))
