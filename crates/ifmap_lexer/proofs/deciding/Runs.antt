-- Every list of bytes can be cut; whether a word is in it, and whether it is characters, is decided.
use Rattle.std.proofs.Common.{◌≡◌, ℕ, ◌+◌, ◌<◌, Bool, true, false, not, List, [], ◌∷◌, ◌++◌, length, take, drop, refl, ap, sym, ◌∙◌}
use Rattle.std.proofs.Common.{subst, arith, ◌⊎◌, inl, inr}
use Rattle.std.specs.Prelude.{◌==◌, encode_utf8_all}
use Rattle.std.specs.List.{prefix_len, starts_with}
use Rattle.std.specs.Str.{chars}
use Rattle.std.proofs.lemmas.Bool.{cases_lt, cases_Bool}
use Rattle.std.proofs.lemmas.List.{append-nil}
use Rattle.std.proofs.lemmas.Str.{encodes-chars, chars_from_encodes}
use Rattle.memchr.specs.Find.{NoneBefore, OccursAt}
use Rattle.memchr.proofs.lemmas.MatchLemmas.{OccursAt-part, OccursAt-from_part}
use Rattle.ifmap_lemmas.specs.Deciding.{Decided, decided_both, decided_each, decided_test, decided_untrue, first_or_none, same_or_not}
use Rattle.ifmap_elem.specs.Chars.{AllAre, IsCharacters, is_character}
use Rattle.ifmap_elem.specs.Tokens.{Lacks}
use Rattle.ifmap_lemmas.specs.Numbers.{equal_numbers}
use Rattle.ifmap_lexer.specs.Cutting.{Cuts, CutsAt, CutsWord, is_but}
use Rattle.ifmap_lexer.proofs.SplitLaws.{cuts_at_len}
use Rattle.ifmap_lexer.proofs.WordLaws.{lacks_from, word_found}
use Rattle.ifmap_elem.specs.laws.CharacterLaws.{characters_are_utf8}

pub are_or_not : (p : ℕ → Bool) (bytes : List ℕ) → Decided (AllAre p bytes)
are_or_not p bytes = decided_each (λ n. p n ≡ true) (λ n. decided_test (p n)) bytes

-- the bytes at the front that pass a test
pub cut_of : (p : ℕ → Bool) (bytes : List ℕ) → (front : List ℕ) × (rest : List ℕ) × Cuts p bytes front rest
cut_of p bytes =
    let n = prefix_len p bytes in
    (take n bytes, drop n bytes, cuts_at_len p bytes (take n bytes) (drop n bytes) n refl refl refl)

-- the bytes up to a byte, which stands there or not
abbrev pub SomeCut : ℕ → List ℕ → Type 0
SomeCut byte bytes = (front : List ℕ) × (after : List ℕ) × CutsAt byte bytes front after

pub cut_or_none : (byte : ℕ) (bytes : List ℕ) → SomeCut byte bytes ⊎ AllAre (is_but byte) bytes
cut_or_none byte bytes = let c = cut_of (is_but byte) bytes in by c.0 c.1 c.2
  where
    by : (front rest : List ℕ) → Cuts (is_but byte) bytes front rest → SomeCut byte bytes ⊎ AllAre (is_but byte) bytes
    by front [] c = inr (subst (AllAre (is_but byte)) (sym (c.bytes_are ∙ append-nil front)) c.passes)
    by front (b ∷ bs) c = elim (cases_Bool (b == byte)) [
      | inl e ↦ inl (
        front,
        bs,
        record {
          bytes_are = c.bytes_are
              ∙ ap (λ n. front ++ (n ∷ bs)) (equal_numbers b byte e);
          passes = c.passes;
        },
      )
      | inr e ↦ let wrong : true ≡ false = sym (ap not e) ∙ c.stops in cc
    ]

-- a word in bytes

pub lacks_or_not : (word bytes : List ℕ) → Decided (Lacks word bytes)
lacks_or_not word [] = inl tt
lacks_or_not word (b ∷ bs) = decided_both (decided_untrue (starts_with ◌==◌ (b ∷ bs) word)) (lacks_or_not word bs)

occurs_or_not : (word bytes : List ℕ) (k : ℕ) → Decided (OccursAt bytes word k)
occurs_or_not word bytes k = elim (cases_lt (length bytes) (k + length word)) [
  | inl past ↦ inr (λ o. absurd (omega (arith, o.fits, past)))
  | inr fits ↦ elim (same_or_not (take (length word) (drop k bytes)) word) [
    | inl same ↦ inl (OccursAt-from_part bytes word k fits same)
    | inr other ↦ inr (λ o. other (OccursAt-part bytes word k o))
  ]
]

abbrev pub SomeWord : List ℕ → List ℕ → Type 0
SomeWord word bytes = (front : List ℕ) × (after : List ℕ) × CutsWord word bytes front after

pub word_or_none : (word bytes : List ℕ) → 0 < length word → SomeWord word bytes ⊎ Lacks word bytes
word_or_none word bytes some = elim (first_or_none (OccursAt bytes word) (occurs_or_not word bytes) (length bytes + 1)) [
  | inl f ↦
      let first : NoneBefore (OccursAt bytes word) 0 (length bytes + 1) f.0
      = record { low = omega arith; high = f.1; before = λ j low below. f.2.0 j below } in
      inl (take f.0 bytes, drop (length word) (drop f.0 bytes), word_found word bytes _ _ f.0 some first f.2.1 refl refl)
  | inr none ↦ inr (lacks_from word bytes (λ k o. none k (omega (arith, o.fits, some)) o))
]

-- characters

pub characters_or_not : (bytes : List ℕ) → Decided (IsCharacters bytes)
characters_or_not bytes = elim (same_or_not (encode_utf8_all (chars bytes)) bytes) [
  | inl same ↦ elim (are_or_not is_character (chars bytes)) [
    | inl all ↦ inl (chars bytes, same, all)
    | inr fails ↦ inr (λ i. fails (subst (AllAre is_character) (chars_from_encodes i.0 bytes (characters_are_utf8 bytes i) i.1) i.2))
  ]
  | inr other ↦ inr (λ i. other (encodes-chars bytes (characters_are_utf8 bytes i)))
]
