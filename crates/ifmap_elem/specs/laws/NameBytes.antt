-- The bytes of names, and that a name ends where a byte stands that no name has.
use Rattle.std.proofs.Common.{◌≡◌, ◌≢◌, ℕ, ◌<◌, Bool, true, false, ◌||◌, List, [], ◌∷◌, ◌++◌, length, get_or, refl, ap, sym, ◌∙◌, subst, arith, length-append, inl, inr}
use Rattle.std.specs.Prelude.{nat_le, ◌==◌, encode_utf8, encode_utf8_all}
use Rattle.std.proofs.lemmas.Bool.Decides.{nat_tests}
use Rattle.std.proofs.lemmas.Bool.{cases_lt, or_right}
use Rattle.std.proofs.lemmas.List.{append-nil}
use Rattle.std.proofs.lemmas.List.Elements.{recursion_from_All, All-from_get_or}
use Rattle.std.proofs.lemmas.Str.{inside_one, length-encode, len_utf8_bounds}
use Rattle.ifmap_elem.specs.Chars.{AllAre, IsWhite, is_white, carriage_return, colon, line_feed, space_character, tab}
use Rattle.ifmap_elem.specs.declared.tokens.Qualified.{Qualified}
use Rattle.ifmap_elem.specs.Names.{is_name_start, is_name_character, IsNamePart, IsQualified, name_bytes, with_prefix}
use Rattle.ifmap_lemmas.specs.Cuts.{Stops, one_cut, front_stops}
use Rattle.ifmap_lemmas.specs.Members.{all_append, all_weaker}
use Rattle.ifmap_lemmas.specs.Numbers.{is_other}

-- a byte that a name part may have
abbrev pub is_part_byte : ℕ → Bool
is_part_byte b = nat_le 128 b || is_name_character b

-- a byte that a qualified name may have
abbrev pub is_name_byte : ℕ → Bool
is_name_byte b = b == colon || is_part_byte b

one_byte : (c : ℕ) → is_name_character c ≡ true → (b : ℕ) → (b < 128 → c ≡ b) → is_part_byte b ≡ true
one_byte c h b low =
    elim (cases_lt b 128) [
      | inl l ↦ or_right (nat_le 128 b) (is_name_character b) (subst (λ (n : ℕ). is_name_character n ≡ true) (low l) h)
      | inr g ↦ let test : nat_le 128 b ≡ true = grind (arith, nat_tests) in rw test refl
    ]

byte_inside : (c k : ℕ) → k < length (encode_utf8 c) → get_or (encode_utf8 c) k 0 < 128 → c ≡ get_or (encode_utf8 c) k 0
byte_inside c k l low = inside_one c [] (encode_utf8 c) k (sym (append-nil (encode_utf8 c))) l low

character_bytes : (c : ℕ) → is_name_character c ≡ true → AllAre is_part_byte (encode_utf8 c)
character_bytes c h =
    let P : ℕ → Type 0 = λ b. is_part_byte b ≡ true in
    recursion_from_All P (encode_utf8 c) (All-from_get_or P (encode_utf8 c) 0
    (λ k l. one_byte c h (get_or (encode_utf8 c) k 0) (byte_inside c k l)))

pub starts_are_characters : (c : ℕ) → is_name_start c ≡ true → is_name_character c ≡ true
starts_are_characters c h = rw h refl

characters_bytes : (cs : List ℕ) → AllAre is_name_character cs → AllAre is_part_byte (encode_utf8_all cs)
characters_bytes [] f = tt
characters_bytes (c ∷ cs) f = all_append is_part_byte (encode_utf8 c) (encode_utf8_all cs) (character_bytes c f.0) (characters_bytes cs f.1)

pub name_part_bytes : (bytes : List ℕ) → IsNamePart bytes → AllAre is_part_byte bytes
name_part_bytes bytes p =
    subst (AllAre is_part_byte) p.bytes_are (characters_bytes (p.first ∷ p.others) (starts_are_characters p.first p.begins, p.goes_on))

no_part_of_none : (first : ℕ) (others : List ℕ) → encode_utf8_all (first ∷ others) ≡ [] → ⊥
no_part_of_none first others e =
    absurd (omega (
      arith,
      ap length e,
      length-append (encode_utf8 first) (encode_utf8_all others),
      length-encode first,
      (len_utf8_bounds first).0,
    ))

pub part_is_some : (bytes : List ℕ) → IsNamePart bytes → bytes ≢ []
part_is_some bytes p none = no_part_of_none p.first p.others (p.bytes_are ∙ none)

-- the bytes of a qualified name
any_of_part : (b : ℕ) → is_part_byte b ≡ true → is_name_byte b ≡ true
any_of_part b h = or_right (b == colon) (is_part_byte b) h

colon_bytes : (prefix local : List ℕ) → AllAre is_name_byte prefix → AllAre is_name_byte local
    → AllAre is_name_byte (with_prefix prefix local)
colon_bytes [] local f g = g
colon_bytes (b ∷ bs) local f g = all_append is_name_byte (b ∷ bs) (colon ∷ local) f (refl, g)

prefix_bytes : (q : Qualified) → IsQualified q → AllAre is_part_byte q.prefix
prefix_bytes q is = elim is.prefix_is [ inl none ↦ subst (AllAre is_part_byte) (sym none) tt | inr part ↦ name_part_bytes q.prefix part ]

pub name_are_bytes : (q : Qualified) → IsQualified q → AllAre is_name_byte (name_bytes q)
name_are_bytes q is =
    colon_bytes q.prefix q.local (all_weaker is_part_byte is_name_byte any_of_part q.prefix (prefix_bytes q is))
    (all_weaker is_part_byte is_name_byte any_of_part q.local (name_part_bytes q.local is.local_is))

some_prefixed : (prefix local : List ℕ) → local ≢ [] → with_prefix prefix local ≢ []
some_prefixed [] local some e = some e
some_prefixed (b ∷ bs) local some e = cc

pub name_is_some : (q : Qualified) → IsQualified q → name_bytes q ≢ []
name_is_some q is = some_prefixed q.prefix q.local (part_is_some q.local is.local_is)

-- the parts are those round the first colon
same_parts : (p l q m : List ℕ) → AllAre is_part_byte p → AllAre is_part_byte l → AllAre is_part_byte q → AllAre is_part_byte m
    → with_prefix p l ≡ with_prefix q m → (p ≡ q) × (l ≡ m)
same_parts [] l [] m fp fl fq fm e = (refl, e)
same_parts [] l (c ∷ cs) m fp fl fq fm e =
    let both = one_cut is_part_byte l (c ∷ cs) [] (colon ∷ m) fl fq tt refl (append-nil l ∙ e) in
    let wrong : [] ≡ colon ∷ m = both.1 in cc
same_parts (b ∷ bs) l [] m fp fl fq fm e =
    let both = one_cut is_part_byte m (b ∷ bs) [] (colon ∷ l) fm fp tt refl (append-nil m ∙ sym e) in
    let wrong : [] ≡ colon ∷ l = both.1 in cc
same_parts (b ∷ bs) l (c ∷ cs) m fp fl fq fm e =
    let both = one_cut is_part_byte (b ∷ bs) (c ∷ cs) (colon ∷ l) (colon ∷ m) fp fq refl refl e in
    let after : colon ∷ l ≡ colon ∷ m = both.1 in
    (both.0, cc)

pub same_name : (q u : Qualified) → IsQualified q → IsQualified u → name_bytes q ≡ name_bytes u → q ≡ u
same_name q u i j e =
    let both = same_parts q.prefix q.local u.prefix u.local (prefix_bytes q i) (name_part_bytes q.local i.local_is) (prefix_bytes u j)
    (name_part_bytes u.local j.local_is) e in
    λ k. record { prefix = both.0 k; local = both.1 k }

-- a name ends where no byte of a name stands
pub name_cut : (q u : Qualified) (r s : List ℕ) → IsQualified q → IsQualified u → Stops is_name_byte r → Stops is_name_byte s
    → name_bytes q ++ r ≡ name_bytes u ++ s → (q ≡ u) × (r ≡ s)
name_cut q u r s i j stop also e =
    let both = one_cut is_name_byte (name_bytes q) (name_bytes u) r s (name_are_bytes q i) (name_are_bytes u j) stop also e in
    (same_name q u i j both.0, both.1)

-- a byte of a name is none of these
pub no_name_byte : (b n : ℕ) → is_name_byte n ≡ false → is_name_byte b ≡ true → (b == n) ≡ false
no_name_byte b n not h = is_other b n (λ e. let wrong : false ≡ true = sym not ∙ subst (λ (m : ℕ). is_name_byte m ≡ true) e h in cc)

pub name_is_not_white : (b : ℕ) → is_name_byte b ≡ true → is_white b ≡ false
name_is_not_white b h =
    let none : (c : ℕ) → is_name_byte c ≡ false → (b == c) ≡ false = λ c n. no_name_byte b c n h in
    rw (none space_character refl, none tab refl, none carriage_return refl, none line_feed refl) refl

pub white_is_no_name : (b : ℕ) → is_white b ≡ true → is_name_byte b ≡ false
white_is_no_name b h = by_test (is_name_byte b) refl
  where
    by_test : (t : Bool) → is_name_byte b ≡ t → is_name_byte b ≡ false
    by_test false e = e
    by_test true e = let wrong : true ≡ false = sym h ∙ name_is_not_white b e in cc

-- white space stands before no name, and a name after none
pub white_stops_at_name : (q : Qualified) (r : List ℕ) → IsQualified q → Stops is_white (name_bytes q ++ r)
white_stops_at_name q r i = front_stops is_name_byte is_white name_is_not_white (name_bytes q) r (name_is_some q i) (name_are_bytes q i)

pub name_stops_at_white : (white r : List ℕ) → IsWhite white → Stops is_name_byte r → Stops is_name_byte (white ++ r)
name_stops_at_white [] r f stop = stop
name_stops_at_white (b ∷ bs) r f stop = white_is_no_name b f.0
