-- Which bytes are characters of a document.
use Rattle.std.proofs.Common.{◌≡◌, ◌≢◌, ℕ, ◌+◌, ◌<◌, ◌≤◌, Bool, true, false, List, [], ◌∷◌, length, get_or, take, ap, sym, ◌∙◌}
use Rattle.std.proofs.Common.{subst, arith, ◌⊎◌, inl, inr}
use Rattle.std.specs.Prelude.{encode_utf8, encode_utf8_all, IsTrue, ◌↔◌, IsUtf8}
use Rattle.std.specs.Str.{chars, all_scalars}
use Rattle.std.specs.List.{list_all}
use Rattle.std.proofs.Math.Utf8.{scalar, scalar_cases, encode}
use Rattle.std.proofs.lemmas.Bool.{cases_lt, and_parts}
use Rattle.std.proofs.lemmas.Bool.Decides.{nat_tests}
use Rattle.std.proofs.lemmas.Str.{encode_ascii, encodes-chars, chars_from_encodes}
use Rattle.std.proofs.lemmas.List.{take_more}
use Rattle.ifmap_elem.specs.Chars.{AllAre, IsCharacters, is_character}
use Rattle.ifmap_lemmas.specs.Members.{all_append}
use Rattle.ifmap_lexer.specs.Common.{is_common}
use Rattle.ifmap_lexer.proofs.Basics.{all_are, of_each, all_front, all_back}

pub tells_characters : (text : List ℕ) (r : Bool) → IsUtf8 text → r ≡ list_all is_character (chars text) → IsTrue r ↔ IsCharacters text
tells_characters text r u e = (
  (λ t. (chars text, encodes-chars text u, all_are is_character (chars text) (sym e ∙ t))),
  (λ i. e ∙ ap (list_all is_character) (sym (chars_from_encodes i.0 text u i.1)) ∙ of_each is_character i.0 i.2),
)

low_common : (c : ℕ) → c < 128 → is_common c ≡ true → is_character c ≡ true
low_common c l h = grind (arith, nat_tests)

middle : (c : ℕ) → 128 ≤ c → c < 0xD800 → is_character c ≡ true
middle c l h = grind (arith, nat_tests)

high : (c : ℕ) → 0xE000 ≤ c → c < 0x11_0000 → c ≢ 0xFFFE → c ≢ 0xFFFF → is_character c ≡ true
high c l h p q = grind (arith, nat_tests)

last_two : (c : ℕ) → (c ≡ 0xFFFE) ⊎ (c ≡ 0xFFFF) → AllAre is_common (encode_utf8 c) → ⊥
unfolding encode
last_two c e f = elim e [
  | inl p ↦ let g : false ≡ true = (subst (λ (n : ℕ). AllAre is_common (encode_utf8 n)) p f).0 in cc
  | inr p ↦ let g : false ≡ true = (subst (λ (n : ℕ). AllAre is_common (encode_utf8 n)) p f).0 in cc
]

common_character : (c : ℕ) → scalar c ≡ true → AllAre is_common (encode_utf8 c) → is_character c ≡ true
common_character c s f =
    elim (cases_lt c 128) [
      | inl l ↦ let g = subst (AllAre is_common) (encode_ascii c l) f in low_common c l g.0
      | inr m ↦ elim (scalar_cases c s) [
        | inl l ↦ middle c m l
        | inr g ↦ high c g.0 g.1 (λ e. last_two c (inl e) f) (λ e. last_two c (inr e) f)
      ]
    ]

common_characters : (cs : List ℕ) → all_scalars cs ≡ true → AllAre is_common (encode_utf8_all cs) → AllAre is_character cs
common_characters [] s f = tt
common_characters (c ∷ cs) s f =
    let parts = and_parts (scalar c) (all_scalars cs) s in (
      common_character c parts.0 (all_front is_common (encode_utf8 c) (encode_utf8_all cs) f),
      common_characters cs parts.1
          (all_back is_common (encode_utf8 c) (encode_utf8_all cs) f),
    )

pub common_are_characters : (text : List ℕ) → IsUtf8 text → AllAre is_common text → IsCharacters text
common_are_characters text u f = (u.0, u.1.1, common_characters u.0 u.1.0 (subst (AllAre is_common) (sym u.1.1) f))

pub all_more : (p : ℕ → Bool) (xs : List ℕ) (i : ℕ) → i < length xs → AllAre p (take i xs) → p (get_or xs i 0) ≡ true
    → AllAre p (take (i + 1) xs)
all_more p xs i l f h = subst (AllAre p) (sym (take_more xs i 0 l)) (all_append p (take i xs) (get_or xs i 0 ∷ []) f (h, tt))
