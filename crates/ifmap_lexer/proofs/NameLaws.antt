-- Names that are read are those that stand there.
use Rattle.std.proofs.Common.{◌≡◌, ◌≢◌, ℕ, ◌<◌, ◌≤◌, Bool, true, false, List, [], ◌∷◌, ◌++◌, length, refl, ap, sym, ◌∙◌, subst, arith}
use Rattle.std.proofs.Common.{inl, inr}
use Rattle.std.specs.Prelude.{encode_utf8, encode_utf8_all, IsTrue, ◌↔◌, ◌&&◌, IsUtf8, nat_lt}
use Rattle.std.specs.Str.{chars, all_scalars}
use Rattle.std.specs.Bool.{OnTrue}
use Rattle.std.specs.List.{list_all}
use Rattle.std.proofs.Math.Utf8.{scalar, low_scalar}
use Rattle.std.proofs.lemmas.Bool.{cases_lt, and_from, and_parts}
use Rattle.std.proofs.lemmas.Bool.Decides.{nat_tests}
use Rattle.std.proofs.lemmas.Str.{encode_ascii, encode_same, encodes-chars, chars_from_encodes, IsUtf8-past_char}
use Rattle.ifmap_elem.specs.Chars.{AllAre, colon}
use Rattle.ifmap_elem.specs.declared.tokens.Qualified.{Qualified}
use Rattle.ifmap_elem.specs.Names.{IsNamePart, IsQualified, is_name_start, is_name_character, name_bytes, with_prefix}
use Rattle.ifmap_lemmas.specs.Cuts.{Stops, one_cut}
use Rattle.ifmap_lemmas.specs.Members.{all_weaker}
use Rattle.ifmap_lemmas.specs.Numbers.{is_other}
use Rattle.ifmap_elem.specs.laws.NameBytes.{is_part_byte, name_are_bytes, name_part_bytes, part_is_some, is_name_byte}
use Rattle.ifmap_lexer.specs.Cutting.{Cuts, CutsAt, is_but}
use Rattle.ifmap_lexer.specs.Names.{stands_in_ascii, starts_in_ascii}
use Rattle.ifmap_lexer.proofs.Basics.{all_are, of_each, all_back}
use Rattle.ifmap_lexer.specs.There.{NameAt}

high_start : (c : ℕ) → 0xD800 ≤ c → is_name_start c ≡ true → scalar c ≡ true
high_start c g h = grind (arith, nat_tests)

start_is_scalar : (c : ℕ) → is_name_start c ≡ true → scalar c ≡ true
start_is_scalar c h = elim (cases_lt c 0xD800) [ inl l ↦ low_scalar c l | inr g ↦ high_start c g h ]

high_inner : (c : ℕ) → 0xD800 ≤ c → is_name_character c ≡ true → scalar c ≡ true
high_inner c g h = grind (arith, nat_tests)

inner_is_scalar : (c : ℕ) → is_name_character c ≡ true → scalar c ≡ true
inner_is_scalar c h = elim (cases_lt c 0xD800) [ inl l ↦ low_scalar c l | inr g ↦ high_inner c g h ]

inner_are_scalars : (cs : List ℕ) → AllAre is_name_character cs → all_scalars cs ≡ true
inner_are_scalars [] f = refl
inner_are_scalars (c ∷ cs) f = and_from (scalar c) (all_scalars cs) (inner_is_scalar c f.0) (inner_are_scalars cs f.1)

pub part_is_utf8 : (bytes : List ℕ) → IsNamePart bytes → IsUtf8 bytes
part_is_utf8 bytes p = (
  p.first ∷ p.others,
  (
    and_from (scalar p.first) (all_scalars p.others) (start_is_scalar p.first p.begins) (inner_are_scalars p.others p.goes_on),
    p.bytes_are,
  ),
)

-- parts of ASCII

low : (b : ℕ) → nat_lt b 128 ≡ true → b < 128
low b h = grind (arith, nat_tests)

ascii_all : (bs : List ℕ) → list_all stands_in_ascii bs ≡ true → AllAre is_name_character bs × (encode_utf8_all bs ≡ bs)
ascii_all [] h = (tt, refl)
ascii_all (b ∷ bs) h =
    let parts = and_parts (stands_in_ascii b) (list_all stands_in_ascii bs) h in
    let both = and_parts (nat_lt b 128) (is_name_character b) parts.0 in
    let others = ascii_all bs parts.1 in
    ((both.1, others.0), (λ i. encode_ascii b (low b both.0) i ++ others.1 i))

ascii_part : (b : ℕ) (bs : List ℕ) → (starts_in_ascii b && list_all stands_in_ascii bs) ≡ true → IsNamePart (b ∷ bs)
ascii_part b bs h =
    let parts = and_parts (starts_in_ascii b) (list_all stands_in_ascii bs) h in
    let both = and_parts (nat_lt b 128) (is_name_start b) parts.0 in
    let others = ascii_all bs parts.1 in
    record { first = b; others = bs; bytes_are = (λ i. encode_ascii b (low b both.0) i ++ others.1 i); begins = both.1; goes_on = others.0 }

pub ascii_tells : (bytes : List ℕ) (b : ℕ) (bs : List ℕ) (r : Bool) → bytes ≡ b ∷ bs → r
    ≡ (starts_in_ascii b && list_all stands_in_ascii bs) → OnTrue r (IsNamePart bytes)
ascii_tells bytes b bs true is told = subst IsNamePart (sym is) (ascii_part b bs (sym told))
ascii_tells bytes b bs false is told = tt

-- the first character and the others

module _ (text rest : List ℕ) (first : ℕ) (split : text ≡ encode_utf8 first ++ rest) where
  pub part_begins : IsNamePart text → is_name_start first ≡ true
  part_begins p =
      let same = encode_same p.first first (encode_utf8_all p.others) rest (p.bytes_are ∙ split) in
      subst (λ (c : ℕ). is_name_start c ≡ true) same.0 p.begins

  pub tells_part : (r : Bool) → IsUtf8 text → is_name_start first ≡ true → r ≡ list_all is_name_character (chars rest)
      → IsTrue r ↔ IsNamePart text
  tells_part r u begins e =
      let v : IsUtf8 rest = IsUtf8-past_char text rest first u split in (
        (λ t. record {
          first = first;
          others = chars rest;
          bytes_are = ap (λ x. encode_utf8 first ++ x) (encodes-chars rest v) ∙ sym split;
          begins = begins;
          goes_on = all_are is_name_character (chars rest) (sym e ∙ t);
        }),
        (λ p. let same = encode_same p.first first (encode_utf8_all p.others) rest (p.bytes_are ∙ split) in
            e ∙ ap (list_all is_name_character) (sym (chars_from_encodes p.others rest v same.1))
            ∙ of_each is_name_character p.others p.goes_on),
      )

pub no_part_of_none : (text : List ℕ) → length text ≡ 0 → IsNamePart text → ⊥
no_part_of_none [] e p = part_is_some [] p refl
no_part_of_none (b ∷ bs) e p = absurd (omega arith)

-- a qualified name by its colon

no_colon : (b : ℕ) → is_part_byte b ≡ true → is_but colon b ≡ true
no_colon b h = rw (is_other b colon (λ e. let wrong : false ≡ true = subst (λ (n : ℕ). is_part_byte n ≡ true) e h in cc)) refl

pub prefixed_some : (prefix local : List ℕ) → prefix ≢ [] → with_prefix prefix local ≡ prefix ++ (colon ∷ local)
prefixed_some [] local some = absurd (some refl)
prefixed_some (b ∷ bs) local some = refl

pub prefixed_found : (bytes prefix local : List ℕ) → CutsAt colon bytes prefix local → IsNamePart prefix → IsNamePart local
    → (q : Qualified) → q.prefix ≡ prefix → q.local ≡ local → IsQualified q × (name_bytes q ≡ bytes)
prefixed_found bytes prefix local c p l q e f = (
  record { prefix_is = inr (subst IsNamePart (sym e) p); local_is = subst IsNamePart (sym f) l },
  (λ i. with_prefix (e i) (f i)) ∙ prefixed_some prefix local (part_is_some prefix p) ∙ sym c.bytes_are,
)

pub unprefixed_found : (bytes : List ℕ) → IsNamePart bytes → (q : Qualified) → q.prefix ≡ [] → q.local ≡ bytes → IsQualified q
    × (name_bytes q ≡ bytes)
unprefixed_found bytes l q e f = (record { prefix_is = inl e; local_is = subst IsNamePart (sym f) l }, (λ i. with_prefix (e i) (f i)))

local_bytes : (q : Qualified) → q.prefix ≡ [] → name_bytes q ≡ q.local
local_bytes q e = ap (λ x. with_prefix x q.local) e

pub prefixed_parts : (bytes front after : List ℕ) → CutsAt colon bytes front after → (q : Qualified) → IsQualified q → name_bytes q ≡ bytes
    → IsNamePart front × IsNamePart after
prefixed_parts bytes front after c q i e =
    elim i.prefix_is [
      | inl none ↦
          let all : AllAre is_part_byte (front ++ (colon ∷ after)) =
          subst (AllAre is_part_byte) (sym (local_bytes q none) ∙ e ∙ c.bytes_are) (name_part_bytes q.local i.local_is) in
          let wrong : false ≡ true = (all_back is_part_byte front (colon ∷ after) all).0 in cc
      | inr part ↦
          let both = one_cut (is_but colon) q.prefix front (colon ∷ q.local) (colon ∷ after)
          (all_weaker is_part_byte (is_but colon) no_colon q.prefix (name_part_bytes q.prefix part)) c.passes refl refl
          (sym (prefixed_some q.prefix q.local (part_is_some q.prefix part)) ∙ e ∙ c.bytes_are) in
          let tail : colon ∷ q.local ≡ colon ∷ after = both.1 in
          let local : q.local ≡ after = cc in
          (subst IsNamePart both.0 part, subst IsNamePart local i.local_is)
    ]

pub unprefixed_part : (bytes : List ℕ) → AllAre (is_but colon) bytes → (q : Qualified) → IsQualified q → name_bytes q ≡ bytes
    → IsNamePart bytes
unprefixed_part bytes f q i e =
    elim i.prefix_is [
      | inl none ↦ subst IsNamePart (sym (local_bytes q none) ∙ e) i.local_is
      | inr part ↦
          let all : AllAre (is_but colon) (q.prefix ++ (colon ∷ q.local)) =
          subst (AllAre (is_but colon)) (sym e ∙ prefixed_some q.prefix q.local (part_is_some q.prefix part)) f in
          let wrong : false ≡ true = (all_back (is_but colon) q.prefix (colon ∷ q.local) all).0 in cc
    ]

-- the name at the front

pub name_found : (bytes run rest : List ℕ) (name : Qualified) → Cuts is_name_byte bytes run rest → IsQualified name
    × (name_bytes name ≡ run) → NameAt bytes name rest
name_found bytes run rest name c f = (f.0, c.bytes_are ∙ ap (λ x. x ++ rest) (sym f.1), c.stops)

pub name_run : (bytes run rest : List ℕ) → Cuts is_name_byte bytes run rest
    → ((name : Qualified) × (later : List ℕ) × IsQualified name × (bytes ≡ name_bytes name ++ later) × Stops is_name_byte later)
    → (name : Qualified) × IsQualified name × (name_bytes name ≡ run)
name_run bytes run rest c s =
    let both = one_cut is_name_byte run (name_bytes s.0) rest s.1 c.passes (name_are_bytes s.0 s.2) c.stops s.4 (sym c.bytes_are ∙ s.3) in
    (s.0, s.2, sym both.0)
