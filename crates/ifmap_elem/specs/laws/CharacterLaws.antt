-- What is made of characters.
use Rattle.std.proofs.Common.{ℕ, ◌&&◌, Bool, List, ◌++◌, ◌∙◌, ◌≡◌, ◌≤◌, true, arith, inl, inr, [], ◌∷◌, refl, ◌<◌, length, get_or, sym, subst, append-nil, ◌%◌}
use Rattle.ifmap_elem.specs.Chars.{is_character, AllAre, IsCharacters}
use Rattle.ifmap_lemmas.specs.Texts.{is_ascii, ascii_encoded}
use Rattle.std.proofs.lemmas.Bool.{and_parts, cases_lt, and_from}
use Rattle.ifmap_lemmas.specs.Members.{all_weaker, all_append}
use Rattle.ifmap_lemmas.specs.Numerals.{digit, numeral, numeral_by_digits}
use Rattle.std.proofs.lemmas.Str.{encodes-append, inside_one}
use Rattle.std.proofs.Math.Utf8.{scalar, low_scalar}
use Rattle.std.proofs.lemmas.Bool.Decides.{nat_tests}
use Rattle.std.specs.Str.{all_scalars}
use Rattle.std.specs.Prelude.{IsUtf8, encode_utf8}
use Rattle.ifmap_elem.specs.Names.{is_name_character, is_name_start, IsNamePart}
use Rattle.std.proofs.lemmas.List.Elements.{recursion_from_All, All-from_get_or}

-- a byte of ASCII that is a character
abbrev pub is_plain : ℕ → Bool
is_plain b = is_ascii b && is_character b

-- no bytes are such
pub no_characters : IsCharacters []
no_characters = ([], refl, tt)

pub plain_characters : (bs : List ℕ) → AllAre is_plain bs → IsCharacters bs
plain_characters bs f = (
  bs,
  ascii_encoded bs (all_weaker is_plain is_ascii (λ b h. (and_parts (is_ascii b) (is_character b) h).0) bs f),
  all_weaker is_plain is_character (λ b h. (and_parts (is_ascii b) (is_character b) h).1) bs f,
)

pub digit_plain : (d : ℕ) → d < 10 → is_plain (digit d) ≡ true
digit_plain d few = grind (arith, nat_tests)

numeral_plain : (n : ℕ) → AllAre is_plain (numeral n)
numeral_plain = numeral_by_digits (λ n ds. AllAre is_plain ds) (λ n few. (digit_plain n few, tt)) more
  where
    more : (n : ℕ) (ds : List ℕ) → 10 ≤ n → AllAre is_plain ds → AllAre is_plain (ds ++ digit (n % 10) ∷ [])
    more n ds many f = all_append is_plain ds (digit (n % 10) ∷ []) f (digit_plain (n % 10) (omega arith), tt)

-- numerals are characters that a document can have
pub numeral_characters : (n : ℕ) → IsCharacters (numeral n)
numeral_characters n = plain_characters (numeral n) (numeral_plain n)

pub characters_both : (a b : List ℕ) → IsCharacters a → IsCharacters b → IsCharacters (a ++ b)
characters_both a b i j = (i.0 ++ j.0, encodes-append i.0 j.0 ∙ (λ k. i.1 k ++ j.1 k), all_append is_character i.0 j.0 i.2 j.2)

pub high_is_scalar : (c : ℕ) → 0xD800 ≤ c → is_character c ≡ true → scalar c ≡ true
high_is_scalar c g h = grind (arith, nat_tests)

pub character_is_scalar : (c : ℕ) → is_character c ≡ true → scalar c ≡ true
character_is_scalar c h = elim (cases_lt c 0xD800) [ inl l ↦ low_scalar c l | inr g ↦ high_is_scalar c g h ]

pub characters_are_scalars : (cs : List ℕ) → AllAre is_character cs → all_scalars cs ≡ true
characters_are_scalars [] f = refl
characters_are_scalars (c ∷ cs) f = and_from (scalar c) (all_scalars cs) (character_is_scalar c f.0) (characters_are_scalars cs f.1)

pub characters_are_utf8 : (bytes : List ℕ) → IsCharacters bytes → IsUtf8 bytes
characters_are_utf8 bytes i = (i.0, (characters_are_scalars i.0 i.2, i.1))

pub name_character : (c : ℕ) → is_name_character c ≡ true → is_character c ≡ true
name_character c h = grind (arith, nat_tests)

pub start_character : (c : ℕ) → is_name_start c ≡ true → is_character c ≡ true
start_character c h = grind (arith, nat_tests)

pub part_characters : (bs : List ℕ) → IsNamePart bs → IsCharacters bs
part_characters bs p = (
  p.first ∷ p.others,
  p.bytes_are,
  (start_character p.first p.begins, all_weaker is_name_character is_character name_character p.others p.goes_on),
)

-- a test that all bytes beyond ASCII pass is passed by all bytes of a character that passes
pub character_passes : (p : ℕ → Bool) → ((b : ℕ) → 128 ≤ b → p b ≡ true) → (c : ℕ) → p c ≡ true → AllAre p (encode_utf8 c)
character_passes p high c h =
    let P : ℕ → Type 0 = λ b. p b ≡ true in
    recursion_from_All P (encode_utf8 c) (All-from_get_or P (encode_utf8 c) 0 (λ k l. at_place k l))
  where
    at_place : (k : ℕ) → k < length (encode_utf8 c) → p (get_or (encode_utf8 c) k 0) ≡ true
    at_place k l = elim (cases_lt (get_or (encode_utf8 c) k 0) 128) [
      | inl low ↦ subst (λ (n : ℕ). p n ≡ true) (inside_one c [] (encode_utf8 c) k (sym (append-nil (encode_utf8 c))) l low) h
      | inr g ↦ high (get_or (encode_utf8 c) k 0) g
    ]

pub one_character : (c : ℕ) → is_character c ≡ true → IsCharacters (encode_utf8 c)
one_character c h = (c ∷ [], append-nil (encode_utf8 c), (h, tt))
