-- Characters that a document can have stay such where written text is read for what it means.
-- 1. One character before others, and what is left after an ASCII one (`after_low`).
-- 2. Line ends are made newlines (`lines_characters`), and white space spaces
--    (`spaced_characters`).
-- 3. A cut before an ASCII byte leaves characters on both sides (`cut_characters`).
-- 4. What a reference means is a character (`referred_fits`).
-- 5. Written text is runs and references (`parts_fit`), so what texts and values mean is characters
--    (`text_characters`, `value_characters`).
use Rattle.std.proofs.Common.{◌≡◌, ℕ, ◌<◌, ◌≤◌, Bool, true, false, not, ◌||◌, List, [], ◌∷◌, ◌++◌, map, length, refl, ap, sym, ◌∙◌, subst, arith, append_assoc, drop, inl, inr}
use Rattle.std.specs.Prelude.{◌==◌, ◌&&◌, if◌then◌else◌, codes, encode_utf8, encode_utf8_all, Option, Some, None, nat_le}
use Rattle.std.specs.Char.{is_digit}
use Rattle.std.specs.List.{flat_map, list_all, starts_with}
use Rattle.std.specs.Str.{bytes_eq}
use Rattle.std.specs.Str.Parse.{digits_value}
use Rattle.std.proofs.lemmas.Bool.{and_parts, cases_Bool, cases_lt, not-true}
use Rattle.std.proofs.lemmas.Bool.Decides.{nat_tests}
use Rattle.std.proofs.lemmas.List.{map-append}
use Rattle.std.proofs.lemmas.Str.{encode_ascii, encode_same}
use Rattle.ifmap_lemmas.specs.Items.{To}
use Rattle.ifmap_elem.specs.Chars.{AllAre, IsCharacters, is_character, ampersand, carriage_return, double_quote, greater_than, less_than, line_feed, semicolon, single_quote, space_character, tab}
use Rattle.ifmap_elem.specs.Values.{ValuePart, Plain, Reference, TakesPart, SpellsOut, IsText, IsValue, as_space, begins_with, line_ends, code_point, reference_value, text_part, value_part}
use Rattle.ifmap_lemmas.specs.Cuts.{Stops, one_cut}
use Rattle.ifmap_lemmas.specs.Members.{all_append}
use Rattle.ifmap_lemmas.specs.Numbers.{equal_numbers, is_other}
use Rattle.ifmap_elem.specs.laws.CharacterLaws.{characters_both, character_passes, one_character, no_characters}
use Rattle.ifmap_elem.specs.laws.OneToken.{run_stops}

character_first : (c : ℕ) (bytes : List ℕ) → is_character c ≡ true → IsCharacters bytes → IsCharacters (encode_utf8 c ++ bytes)
character_first c bytes h i = (c ∷ i.0, ap (λ x. encode_utf8 c ++ x) i.1, (h, i.2))

low_first : (c : ℕ) (bytes : List ℕ) → c < 128 → is_character c ≡ true → IsCharacters bytes → IsCharacters (c ∷ bytes)
low_first c bytes low h i = subst (λ (x : List ℕ). IsCharacters (x ++ bytes)) (encode_ascii c low) (character_first c bytes h i)

after_low : (c : ℕ) (bytes : List ℕ) → c < 128 → IsCharacters (c ∷ bytes) → IsCharacters bytes
after_low c bytes low i = first i.0 i.1 i.2
  where
    first : (cs : List ℕ) → encode_utf8_all cs ≡ c ∷ bytes → AllAre is_character cs → IsCharacters bytes
    first [] e f = cc
    first (d ∷ ds) e f = (ds, (encode_same d c (encode_utf8_all ds) bytes (e ∙ ap (λ x. x ++ bytes) (sym (encode_ascii c low)))).1, f.1)

-- line ends

lines_front : (front tail : List ℕ) → AllAre (λ b. not (b == carriage_return)) front → line_ends (front ++ tail) ≡ front ++ line_ends tail
lines_front [] tail f = refl
lines_front (b ∷ bs) tail f = rw (not-true (b == carriage_return) f.0) (ap (λ x. b ∷ x) (lines_front bs tail f.1))

high_but : (n : ℕ) → n < 128 → (b : ℕ) → 128 ≤ b → not (b == n) ≡ true
high_but n low b high = ap not (is_other b n (λ e. absurd (omega (arith, e))))

return_first : (bytes : List ℕ) → IsCharacters (line_ends bytes) → IsCharacters (line_ends (carriage_return ∷ bytes))
return_first bytes i = elim (cases_Bool (begins_with line_feed bytes)) [
  | inl e ↦ rw e i
  | inr e ↦ rw e (low_first line_feed (line_ends bytes) (omega arith) refl i)
]

lines_of : (cs : List ℕ) → AllAre is_character cs → IsCharacters (line_ends (encode_utf8_all cs))
lines_of [] f = no_characters
lines_of (c ∷ cs) f = elim (cases_Bool (c == carriage_return)) [
  | inl e ↦
      let is : encode_utf8 c ≡ carriage_return ∷ [] =
      ap encode_utf8 (equal_numbers c carriage_return e) ∙ encode_ascii carriage_return (omega arith) in
      subst (λ (x : List ℕ). IsCharacters (line_ends (x ++ encode_utf8_all cs))) (sym is)
      (return_first (encode_utf8_all cs) (lines_of cs f.1))
  | inr e ↦
      let front = character_passes (λ b. not (b == carriage_return)) (high_but carriage_return (omega arith)) c (ap not e) in
      subst IsCharacters (sym (lines_front (encode_utf8 c) (encode_utf8_all cs) front))
      (character_first c (line_ends (encode_utf8_all cs)) f.0 (lines_of cs f.1))
]

pub lines_characters : (bytes : List ℕ) → IsCharacters bytes → IsCharacters (line_ends bytes)
lines_characters bytes i = subst (λ (b : List ℕ). IsCharacters (line_ends b)) i.1 (lines_of i.0 i.2)

-- white space as spaces

high_space : (b : ℕ) → nat_le 128 b ≡ true → as_space b ≡ b
high_space b h = let e : (b == tab || b == line_feed) ≡ false = grind (arith, nat_tests) in rw e refl

high_spaces : (bs : List ℕ) → AllAre (λ b. nat_le 128 b) bs → map as_space bs ≡ bs
high_spaces [] f = refl
high_spaces (b ∷ bs) f = λ i. high_space b f.0 i ∷ high_spaces bs f.1 i

low_space : (c : ℕ) → c < 128 → is_character c ≡ true → IsCharacters (as_space c ∷ [])
low_space c low h = elim (cases_Bool (c == tab || c == line_feed)) [
  | inl e ↦ rw e (low_first space_character [] (omega arith) refl no_characters)
  | inr e ↦ rw e (low_first c [] low h no_characters)
]

spaced_one : (c : ℕ) → is_character c ≡ true → IsCharacters (map as_space (encode_utf8 c))
spaced_one c h = elim (cases_lt c 128) [
  | inl low ↦ subst (λ (x : List ℕ). IsCharacters (map as_space x)) (sym (encode_ascii c low)) (low_space c low h)
  | inr g ↦ subst IsCharacters (sym (high_spaces (encode_utf8 c)
      (character_passes (λ b. nat_le 128 b) (λ b high. grind (arith, nat_tests)) c (grind (arith, nat_tests))))) (one_character c h)
]

spaced_of : (cs : List ℕ) → AllAre is_character cs → IsCharacters (map as_space (encode_utf8_all cs))
spaced_of [] f = no_characters
spaced_of (c ∷ cs) f =
    subst IsCharacters (sym (map-append as_space (encode_utf8 c) (encode_utf8_all cs)))
    (characters_both (map as_space (encode_utf8 c)) (map as_space (encode_utf8_all cs)) (spaced_one c f.0) (spaced_of cs f.1))

spaced_characters : (bytes : List ℕ) → IsCharacters bytes → IsCharacters (map as_space bytes)
spaced_characters bytes i = subst (λ (b : List ℕ). IsCharacters (map as_space b)) i.1 (spaced_of i.0 i.2)

-- characters up to an ASCII byte

record Parted (p : ℕ → Bool) (bytes : List ℕ) : Type 0 where
  front : List ℕ
  rest : List ℕ
  bytes_are : bytes ≡ front ++ rest
  passes : AllAre p front
  stops : Stops p rest
  before : IsCharacters front
  after : IsCharacters rest

module _ (p : ℕ → Bool) (high : (b : ℕ) → 128 ≤ b → p b ≡ true) where
  cuts_at_stop : (cs : List ℕ) → AllAre is_character cs → Parted p (encode_utf8_all cs)
  cuts_at_stop [] f =
      record { front = []; rest = []; bytes_are = refl; passes = tt; stops = tt; before = no_characters; after = no_characters }
  cuts_at_stop (c ∷ cs) f = elim (cases_Bool (p c)) [
    | inl e ↦
        let r = cuts_at_stop cs f.1 in
        record {
          front = encode_utf8 c ++ r.front;
          rest = r.rest;
          bytes_are = ap (λ x. encode_utf8 c ++ x) r.bytes_are ∙ sym (append_assoc (encode_utf8 c) r.front r.rest);
          passes = all_append p (encode_utf8 c) r.front (character_passes p high c e) r.passes;
          stops = r.stops;
          before = character_first c r.front f.0 r.before;
          after = r.after;
        }
    | inr e ↦ record {
      front = [];
      rest = encode_utf8_all (c ∷ cs);
      bytes_are = refl;
      passes = tt;
      stops = elim (cases_lt c 128) [
        | inl low ↦ subst (λ (x : List ℕ). Stops p (x ++ encode_utf8_all cs)) (sym (encode_ascii c low)) e
        | inr g ↦ let wrong : true ≡ false = sym (high c g) ∙ e in cc
      ];
      before = no_characters;
      after = (c ∷ cs, refl, f);
    }
  ]

  cut_characters : (bytes a b : List ℕ) → IsCharacters bytes → bytes ≡ a ++ b → AllAre p a → Stops p b → IsCharacters a × IsCharacters b
  cut_characters bytes a b i e f stop =
      let r = cuts_at_stop i.0 i.2 in
      let both = one_cut p r.front a r.rest b r.passes f r.stops stop (sym r.bytes_are ∙ i.1 ∙ e) in
      (subst IsCharacters both.0 r.before, subst IsCharacters both.1 r.after)

-- references

tested_is_character : (b : Bool) (v c : ℕ) → (b ≡ true → is_character v ≡ true)
    → (if b then Some v else None) ≡ Some c → is_character c ≡ true
tested_is_character true v c f e = let same : v ≡ c = cc in subst (λ (n : ℕ). is_character n ≡ true) same (f refl)
tested_is_character false v c f e = cc

numbered_fits : (base : ℕ) (digits : List ℕ) (c : ℕ) → code_point base digits ≡ Some c → is_character c ≡ true
numbered_fits base digits c e =
    tested_is_character (not (length digits == 0) && list_all (λ d. is_digit d base) digits && is_character (digits_value base digits))
    (digits_value base digits) c
    (λ t. (and_parts (not (length digits == 0) && list_all (λ d. is_digit d base) digits) (is_character (digits_value base digits)) t).1) e

either_is_character : (b : Bool) (o q : Option ℕ) (c : ℕ) → (o ≡ Some c → is_character c ≡ true) → (q ≡ Some c → is_character c ≡ true)
    → (if b then o else q) ≡ Some c → is_character c ≡ true
either_is_character true o q c f g e = f e
either_is_character false o q c f g e = g e

named_is_character : (x c : ℕ) → is_character x ≡ true → Some x ≡ Some c → is_character c ≡ true
named_is_character x c h e = let same : x ≡ c = cc in subst (λ (n : ℕ). is_character n ≡ true) same h

none_named : (c : ℕ) → ◌≡◌ {A = Option ℕ} None (Some c) → is_character c ≡ true
none_named c e = cc

pub referred_fits : (name : List ℕ) (c : ℕ) → reference_value name ≡ Some c → is_character c ≡ true
referred_fits name c =
    either_is_character (bytes_eq name (codes "amp")) _ _ c (named_is_character ampersand c refl)
    (either_is_character (bytes_eq name (codes "lt")) _ _ c (named_is_character less_than c refl)
    (either_is_character (bytes_eq name (codes "gt")) _ _ c (named_is_character greater_than c refl)
    (either_is_character (bytes_eq name (codes "quot")) _ _ c (named_is_character double_quote c refl)
    (either_is_character (bytes_eq name (codes "apos")) _ _ c (named_is_character single_quote c refl)
    (either_is_character (starts_with ◌==◌ name (codes "#x")) _ _ c (numbered_fits 16 (drop 2 name) c)
    (either_is_character (starts_with ◌==◌ name (codes "#")) _ _ c (numbered_fits 10 (drop 1 name) c) (none_named c)))))))

-- what written characters mean

module _ (adds : ValuePart → List ℕ) (runs : (run : List ℕ) → IsCharacters run → IsCharacters (adds (Plain run)))
    (references : (c : ℕ) → adds (Reference c) ≡ encode_utf8 c) where
  parts_fit : (parts : List ValuePart) (bytes : List ℕ) → To TakesPart bytes parts [] → IsCharacters bytes
      → IsCharacters (flat_map adds parts)
  parts_fit [] bytes l i = no_characters
  parts_fit (Plain run ∷ parts) bytes l i =
      let both = cut_characters (λ b. not (b == ampersand)) (high_but ampersand (omega arith))
      bytes run l.0 i l.1.0 l.1.2 (run_stops l.0 l.1.3) in
      characters_both (adds (Plain run)) (flat_map adds parts) (runs run both.0) (parts_fit parts l.0 l.2 both.1)
  parts_fit (Reference c ∷ parts) bytes l i =
      let both = cut_characters (λ b. not (b == semicolon)) (high_but semicolon (omega arith))
      bytes (ampersand ∷ l.1.0) (semicolon ∷ l.0) i l.1.1
      (refl, l.1.2) refl in
      characters_both (adds (Reference c)) (flat_map adds parts)
      (subst IsCharacters (sym (references c)) (one_character c (referred_fits l.1.0 c l.1.3)))
      (parts_fit parts l.0 l.2 (after_low semicolon l.0 (omega arith) both.1))

  means_characters : (written text : List ℕ) → IsCharacters written → SpellsOut adds written text → IsCharacters text
  means_characters written text i x = subst IsCharacters (sym x.text_is) (parts_fit x.parts written x.taken i)

pub text_characters : (written text : List ℕ) → IsCharacters written → IsText written text → IsCharacters text
text_characters = means_characters text_part lines_characters (λ c. refl)

pub value_characters : (written value : List ℕ) → IsCharacters written → IsValue written value → IsCharacters value
value_characters = means_characters value_part (λ run i. spaced_characters (line_ends run) (lines_characters run i)) (λ c. refl)
