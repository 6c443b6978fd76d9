-- Printed text and printed values mean what was printed.
-- 1. A way to write bytes (`WritesEscaped`): escaped bytes as references, the others as they are.
-- 2. What is written so is parts, runs of plain bytes and references, which add the bytes that were written (`expands`).
-- 3. Its characters are those of the bytes or of references, so what a document can have stays so; what escaped bytes alone have is
--    nowhere in it (`never`).
-- 4. Texts and values are written in two such ways, each by a few facts of its escaped bytes (`text_writes`, `value_writes`).
-- 5. So both mean what was printed, have no `<`, values no quote, and texts no `]]>`.
use Rattle.std.proofs.Common.{◌≡◌, ◌≢◌, ℕ, ◌<◌, ◌≤◌, Bool, true, false, not, cond, ◌||◌, List, [], ◌∷◌, ◌++◌, map, length, get_or, refl, ap, sym, ◌∙◌, subst, arith, inl, inr, append_assoc}
use Rattle.std.specs.Prelude.{◌==◌, ◌&&◌, codes, encode_utf8, encode_utf8_all, Some, nat_le}
use Rattle.std.specs.List.{flat_map, list_all, starts_with}
use Rattle.std.proofs.lemmas.Bool.{and_right, cases_Bool, cases_lt, not-true, or_cases, or_parts}
use Rattle.std.proofs.lemmas.Bool.Decides.{nat_tests}
use Rattle.std.proofs.lemmas.List.{append-nil}
use Rattle.std.proofs.lemmas.List.Concat.{flat_map-append}
use Rattle.std.proofs.lemmas.List.Elements.{recursion_from_All, All-from_get_or}
use Rattle.std.proofs.lemmas.Str.{encode_ascii, encodes-append, inside_one}
use Rattle.std.specs.Str.{byte}
use Rattle.ifmap_lemmas.specs.Items.{To}
use Rattle.ifmap_elem.specs.Chars.{AllAre, IsCharacters, is_character, ampersand, carriage_return, double_quote, greater_than, less_than, line_feed, semicolon, tab}
use Rattle.ifmap_elem.specs.Escapes.{text_byte, value_byte, text_bytes, value_bytes}
use Rattle.ifmap_elem.specs.Tokens.{Lacks}
use Rattle.ifmap_elem.specs.Values.{ValuePart, Plain, Reference, TakesPart, EndsRun, SpellsOut, reference_value, IsText, IsValue, text_part, value_part, line_ends, as_space}
use Rattle.ifmap_lemmas.specs.Members.{all_append, all_of_test}
use Rattle.ifmap_lemmas.specs.Numbers.{equal_numbers, is_other}
use Rattle.ifmap_lemmas.specs.Texts.{is_ascii, ascii_encoded}

-- a way to write bytes: the escaped ones by a name between `&` and `;`, and the others as they are
pub record WritesEscaped (escapes : ℕ → Bool) (name_of : ℕ → List ℕ) (write : ℕ → List ℕ) : Type 0 where
  pub plain : (b : ℕ) → escapes b ≡ false → write b ≡ b ∷ []
  pub reference : (b : ℕ) → escapes b ≡ true → write b ≡ ampersand ∷ (name_of b ++ (semicolon ∷ []))
  pub escapes_ampersand : escapes ampersand ≡ true
  pub names : (b : ℕ) → escapes b ≡ true → AllAre (λ n. not (n == semicolon)) (name_of b)
  pub refers : (b : ℕ) → escapes b ≡ true → reference_value (name_of b) ≡ Some b
  pub ascii : (b : ℕ) → escapes b ≡ true → b < 128
  pub ascii_written : (b : ℕ) → escapes b ≡ true → encode_utf8_all (write b) ≡ write b
  pub characters_written : (b : ℕ) → escapes b ≡ true → AllAre is_character (write b)

-- a plain byte goes into the run that follows it, or begins one
abbrev with_plain : ℕ → List ValuePart → List ValuePart
with_plain b [] = Plain (b ∷ []) ∷ []
with_plain b (Plain run ∷ parts) = Plain (b ∷ run) ∷ parts
with_plain b (Reference c ∷ parts) = Plain (b ∷ []) ∷ (Reference c ∷ parts)

module _ (escapes : ℕ → Bool) (name_of : ℕ → List ℕ) (write : ℕ → List ℕ) (w : WritesEscaped escapes name_of write) where
  abbrev value_parts : List ℕ → List ValuePart
  value_parts [] = []
  value_parts (b ∷ bs) = cond (escapes b) (Reference b ∷ value_parts bs) (with_plain b (value_parts bs))

  -- a reference stands at the front
  abbrev takes_reference : (b : ℕ) (rest : List ℕ) → escapes b ≡ true → TakesPart (write b ++ rest) (Reference b) rest
  takes_reference b rest m = (
    name_of b,
    ap (λ l. l ++ rest) (w.reference b m) ∙ ap (λ l. ampersand ∷ l)
        (append_assoc (name_of b) (semicolon ∷ []) rest),
    w.names b m,
    w.refers b m,
  )

  no_ampersand : (b : ℕ) → escapes b ≡ false → not (b == ampersand) ≡ true
  no_ampersand b m =
      ap not (is_other b ampersand
      (λ e. let wrong : true ≡ false = sym w.escapes_ampersand ∙ subst (λ (n : ℕ). escapes n ≡ false) e m in cc))

  -- a plain byte before parts
  takes_plain : (b : ℕ) (bytes : List ℕ) (parts : List ValuePart) → escapes b ≡ false → To TakesPart bytes parts []
      → To TakesPart (b ∷ bytes) (with_plain b parts) []
  takes_plain b bytes [] m l = ([], (ap (λ x. b ∷ x) l, λ e. cc, (no_ampersand b m, tt), tt), refl)
  takes_plain b bytes (Plain run ∷ parts) m l =
      (l.0, (ap (λ x. b ∷ x) l.1.0, λ e. cc, (no_ampersand b m, l.1.2), l.1.3), l.2)
  takes_plain b bytes (Reference c ∷ parts) m l =
      (bytes, (refl, λ e. cc, (no_ampersand b m, tt), subst EndsRun (sym l.1.1) refl), l)

  pub takes_parts : (bs : List ℕ) → To TakesPart (flat_map write bs) (value_parts bs) []
  takes_parts [] = refl
  takes_parts (b ∷ bs) = elim (cases_Bool (escapes b)) [
    | inl m ↦ rw m (flat_map write bs, takes_reference b (flat_map write bs) m, takes_parts bs)
    | inr m ↦ rw (m, w.plain b m) (takes_plain b (flat_map write bs) (value_parts bs) m (takes_parts bs))
  ]

  -- what the parts add
  module _ (adds : ValuePart → List ℕ) (whole : (run : List ℕ) → List ℕ) (runs : (run : List ℕ) → adds (Plain run) ≡ whole run)
      (none : whole [] ≡ [])
      (next : (b : ℕ) (run : List ℕ) → escapes b ≡ false → whole (b ∷ run) ≡ b ∷ whole run)
      (references : (c : ℕ) → adds (Reference c) ≡ encode_utf8 c) where
    adds_plain : (b : ℕ) (parts : List ValuePart) → escapes b ≡ false → flat_map adds (with_plain b parts) ≡ b ∷ flat_map adds parts
    adds_plain b [] m = ap (λ x. x ++ []) (runs (b ∷ []) ∙ next b [] m ∙ ap (λ x. b ∷ x) none)
    adds_plain b (Plain run ∷ parts) m =
        ap (λ x. x ++ flat_map adds parts) (runs (b ∷ run) ∙ next b run m ∙ ap (λ x. b ∷ x) (sym (runs run)))
    adds_plain b (Reference c ∷ parts) m =
        ap (λ x. x ++ flat_map adds (Reference c ∷ parts)) (runs (b ∷ []) ∙ next b [] m ∙ ap (λ x. b ∷ x) none)

    pub adds_all : (bs : List ℕ) → bs ≡ flat_map adds (value_parts bs)
    adds_all [] = refl
    adds_all (b ∷ bs) = elim (cases_Bool (escapes b)) [
      | inl m ↦ rw m (ap (λ x. b ∷ x) (adds_all bs) ∙ ap (λ x. x ++ flat_map adds (value_parts bs))
          (sym (references b ∙ encode_ascii b (w.ascii b m))))
      | inr m ↦ rw m (ap (λ x. b ∷ x) (adds_all bs) ∙ sym (adds_plain b (value_parts bs) m))
    ]

    pub expands : (bs : List ℕ) → SpellsOut adds (flat_map write bs) bs
    expands bs = record { parts = value_parts bs; taken = takes_parts bs; text_is = adds_all bs }

  -- the characters of what is written
  high_bytes : (bs : List ℕ) → AllAre (λ b. nat_le 128 b) bs → flat_map write bs ≡ bs
  high_bytes [] f = refl
  high_bytes (b ∷ bs) f =
      let high : 128 ≤ b = grind (arith, nat_tests) in
      (λ i. plain_high b high i ++ high_bytes bs f.1 i)
    where
      plain_high : (b : ℕ) → 128 ≤ b → write b ≡ b ∷ []
      plain_high b high =
          elim (cases_Bool (escapes b)) [ inl m ↦ let low : b < 128 = w.ascii b m in absurd (omega arith) | inr m ↦ w.plain b m ]

  bytes_high : (c : ℕ) → 128 ≤ c → AllAre (λ b. nat_le 128 b) (encode_utf8 c)
  bytes_high c high =
      let P : ℕ → Type 0 = λ b. nat_le 128 b ≡ true in
      recursion_from_All P (encode_utf8 c) (All-from_get_or P (encode_utf8 c) 0 (λ k l. at_place k l))
    where
      at_place : (k : ℕ) → k < length (encode_utf8 c) → nat_le 128 (get_or (encode_utf8 c) k 0) ≡ true
      at_place k l = elim (cases_lt (get_or (encode_utf8 c) k 0) 128) [
        | inl low ↦ let same : c ≡ get_or (encode_utf8 c) k 0 = inside_one c [] (encode_utf8 c) k
            (sym (append-nil (encode_utf8 c))) l low in absurd (omega arith)
        | inr g ↦ grind (arith, nat_tests)
      ]

  one_written : (c : ℕ) → flat_map write (encode_utf8 c) ≡ encode_utf8_all (write c)
  one_written c = elim (cases_lt c 128) [
    | inl low ↦ ap (flat_map write) (encode_ascii c low) ∙ append-nil (write c) ∙ sym (elim (cases_Bool (escapes c)) [
      | inl m ↦ w.ascii_written c m
      | inr m ↦ ap encode_utf8_all (w.plain c m) ∙ append-nil (encode_utf8 c) ∙ encode_ascii c low ∙ sym (w.plain c m)
    ])
    | inr high ↦ high_bytes (encode_utf8 c) (bytes_high c high) ∙ sym (ap encode_utf8_all (high_plain high) ∙ append-nil (encode_utf8 c))
  ]
    where
      high_plain : 128 ≤ c → write c ≡ c ∷ []
      high_plain high =
          elim (cases_Bool (escapes c)) [ inl m ↦ let low : c < 128 = w.ascii c m in absurd (omega arith) | inr m ↦ w.plain c m ]

  all_written : (cs : List ℕ) → flat_map write (encode_utf8_all cs) ≡ encode_utf8_all (flat_map write cs)
  all_written [] = refl
  all_written (c ∷ cs) =
      flat_map-append write (encode_utf8 c) (encode_utf8_all cs) ∙ (λ i. one_written c i ++ all_written cs i)
      ∙ sym (encodes-append (write c) (flat_map write cs))

  are_characters : (cs : List ℕ) → AllAre is_character cs → AllAre is_character (flat_map write cs)
  are_characters [] f = tt
  are_characters (c ∷ cs) f = all_append is_character (write c) (flat_map write cs) first (are_characters cs f.1)
    where
      first : AllAre is_character (write c)
      first = elim (cases_Bool (escapes c)) [
        | inl m ↦ w.characters_written c m
        | inr m ↦ subst (AllAre is_character) (sym (w.plain c m))
            (f.0, tt)
      ]

  pub characters_of : (bs : List ℕ) → IsCharacters bs → IsCharacters (flat_map write bs)
  characters_of bs i = (flat_map write i.0, sym (all_written i.0) ∙ ap (flat_map write) i.1, are_characters i.0 i.2)

  -- a byte that is escaped, and stands in no reference, is nowhere in what is written
  module _ (x : ℕ) (escaped : escapes x ≡ true) (unwritten : (b : ℕ) → escapes b ≡ true → AllAre (λ n. not (n == x)) (write b)) where
    pub never : (bs : List ℕ) → AllAre (λ n. not (n == x)) (flat_map write bs)
    never [] = tt
    never (b ∷ bs) = all_append (λ n. not (n == x)) (write b) (flat_map write bs) first (never bs)
      where
        first : AllAre (λ n. not (n == x)) (write b)
        first = elim (cases_Bool (escapes b)) [
          | inl m ↦ unwritten b m
          | inr m ↦
              subst (AllAre (λ n. not (n == x))) (sym (w.plain b m))
              (ap not (is_other b x (λ e. let wrong : true ≡ false = sym escaped ∙ subst (λ (n : ℕ). escapes n ≡ false) e m in cc)), tt)
        ]

  pub some_written : (bs : List ℕ) → bs ≢ [] → flat_map write bs ≢ []
  some_written [] some e = some refl
  some_written (b ∷ bs) some e = elim (cases_Bool (escapes b)) [
    | inl m ↦ let wrong : ampersand ∷ ((name_of b ++ (semicolon ∷ [])) ++ flat_map write bs) ≡ [] = ap (λ l. l ++ flat_map write bs)
        (sym (w.reference b m)) ∙ e in cc
    | inr m ↦ let wrong : b ∷ flat_map write bs ≡ [] = ap (λ l. l ++ flat_map write bs) (sym (w.plain b m)) ∙ e in cc
  ]

-- text

abbrev text_escapes : ℕ → Bool
text_escapes b = b == ampersand || (b == less_than || (b == greater_than || b == carriage_return))

abbrev text_name : ℕ → List ℕ
text_name b = cond (b == ampersand) (codes "amp") (cond (b == less_than) (codes "lt") (cond (b == greater_than) (codes "gt") (codes "#13")))

abbrev value_escapes : ℕ → Bool
value_escapes b = b == ampersand || (b == less_than || (b == double_quote || (b == tab || (b == line_feed || b == carriage_return))))

abbrev value_name : ℕ → List ℕ
value_name b = cond (b == ampersand) (codes "amp") (cond (b == less_than) (codes "lt")
    (cond (b == double_quote) (codes "quot") (cond (b == tab) (codes "#9") (cond (b == line_feed) (codes "#10") (codes "#13")))))

-- what holds of each escaped byte
text_cases : (P : ℕ → Type 0) → P ampersand → P less_than → P greater_than → P carriage_return → (b : ℕ) → text_escapes b ≡ true → P b
text_cases P amp lt gt cr b m = elim (or_cases (b == ampersand) _ m) [
  | inl e ↦ subst P (sym (equal_numbers b ampersand e)) amp
  | inr m ↦ elim (or_cases (b == less_than) _ m) [
    | inl e ↦ subst P (sym (equal_numbers b less_than e)) lt
    | inr m ↦ elim (or_cases (b == greater_than) (b == carriage_return) m) [
      | inl e ↦ subst P (sym (equal_numbers b greater_than e)) gt
      | inr e ↦ subst P (sym (equal_numbers b carriage_return e)) cr
    ]
  ]
]

value_cases : (P : ℕ → Type 0) → P ampersand → P less_than → P double_quote → P tab → P line_feed → P carriage_return
    → (b : ℕ) → value_escapes b ≡ true → P b
value_cases P amp lt quot ht lf cr b m = elim (or_cases (b == ampersand) _ m) [
  | inl e ↦ subst P (sym (equal_numbers b ampersand e)) amp
  | inr m ↦ elim (or_cases (b == less_than) _ m) [
    | inl e ↦ subst P (sym (equal_numbers b less_than e)) lt
    | inr m ↦ elim (or_cases (b == double_quote) _ m) [
      | inl e ↦ subst P (sym (equal_numbers b double_quote e)) quot
      | inr m ↦ elim (or_cases (b == tab) _ m) [
        | inl e ↦ subst P (sym (equal_numbers b tab e)) ht
        | inr m ↦ elim (or_cases (b == line_feed) (b == carriage_return) m) [
          | inl e ↦ subst P (sym (equal_numbers b line_feed e)) lf
          | inr e ↦ subst P (sym (equal_numbers b carriage_return e)) cr
        ]
      ]
    ]
  ]
]

-- what is not escaped is none of the bytes that are
text_unescaped : (b : ℕ) → text_escapes b ≡ false
    → ((b == ampersand) ≡ false) × ((b == less_than) ≡ false) × ((b == greater_than) ≡ false) × ((b == carriage_return) ≡ false)
text_unescaped b m =
    let p = or_parts (b == ampersand) _ m in
    let q = or_parts (b == less_than) _ p.1 in
    let r = or_parts (b == greater_than) _ q.1 in
    (p.0, q.0, r.0, r.1)

value_unescaped : (b : ℕ) → value_escapes b ≡ false
    → ((b == ampersand) ≡ false) × ((b == less_than) ≡ false) × ((b == double_quote) ≡ false) × ((b == tab) ≡ false)
    × ((b == line_feed) ≡ false) × ((b == carriage_return) ≡ false)
value_unescaped b m =
    let p = or_parts (b == ampersand) _ m in
    let q = or_parts (b == less_than) _ p.1 in
    let r = or_parts (b == double_quote) _ q.1 in
    let s = or_parts (b == tab) _ r.1 in
    let t = or_parts (b == line_feed) _ s.1 in
    (p.0, q.0, r.0, s.0, t.0, t.1)

text_plain : (b : ℕ) → text_escapes b ≡ false → text_byte b ≡ b ∷ []
text_plain b m = let u = text_unescaped b m in rw (u.0, u.1, u.2, u.3) refl

value_plain : (b : ℕ) → value_escapes b ≡ false → value_byte b ≡ b ∷ []
value_plain b m = let u = value_unescaped b m in rw (u.0, u.1, u.2, u.3, u.4, u.5) refl

text_written : (p : ℕ → Bool) → list_all p (text_byte ampersand) ≡ true → list_all p (text_byte less_than) ≡ true
    → list_all p (text_byte greater_than) ≡ true → list_all p (text_byte carriage_return) ≡ true
    → (b : ℕ) → text_escapes b ≡ true → AllAre p (text_byte b)
text_written p amp lt gt cr b m = all_of_test p (text_byte b) (text_cases (λ b. list_all p (text_byte b) ≡ true) amp lt gt cr b m)

value_written : (p : ℕ → Bool) → list_all p (value_byte ampersand) ≡ true → list_all p (value_byte less_than) ≡ true
    → list_all p (value_byte double_quote) ≡ true → list_all p (value_byte tab) ≡ true
    → list_all p (value_byte line_feed) ≡ true → list_all p (value_byte carriage_return) ≡ true
    → (b : ℕ) → value_escapes b ≡ true → AllAre p (value_byte b)
value_written p amp lt quot ht lf cr b m =
    all_of_test p (value_byte b) (value_cases (λ b. list_all p (value_byte b) ≡ true) amp lt quot ht lf cr b m)

text_writes : WritesEscaped text_escapes text_name text_byte
text_writes = record {
  plain = text_plain;
  reference = text_cases (λ b. text_byte b ≡ ampersand ∷ (text_name b ++ (semicolon ∷ []))) refl refl refl refl;
  escapes_ampersand = refl;
  names = text_cases (λ b. AllAre (λ n. not (n == semicolon)) (text_name b)) (refl, (refl, (refl, tt))) (refl, (refl, tt))
      (refl, (refl, tt)) (refl, (refl, (refl, tt)));
  refers = text_cases (λ b. reference_value (text_name b) ≡ Some b) refl refl refl refl;
  ascii = text_cases (λ b. b < 128) (omega arith) (omega arith) (omega arith) (omega arith);
  ascii_written = λ b m. ascii_encoded (text_byte b) (text_written is_ascii refl refl refl refl b m);
  characters_written = λ b m. text_written is_character refl refl refl refl b m;
}

value_writes : WritesEscaped value_escapes value_name value_byte
value_writes = record {
  plain = value_plain;
  reference = value_cases (λ b. value_byte b ≡ ampersand ∷ (value_name b ++ (semicolon ∷ []))) refl refl refl refl refl refl;
  escapes_ampersand = refl;
  names = λ b m. all_of_test (λ n. not (n == semicolon)) (value_name b)
      (value_cases (λ b. list_all (λ n. not (n == semicolon)) (value_name b) ≡ true) refl refl refl refl refl refl b m);
  refers = value_cases (λ b. reference_value (value_name b) ≡ Some b) refl refl refl refl refl refl;
  ascii = value_cases (λ b. b < 128) (omega arith) (omega arith) (omega arith) (omega arith) (omega arith) (omega arith);
  ascii_written = λ b m. ascii_encoded (value_byte b) (value_written is_ascii refl refl refl refl refl refl b m);
  characters_written = λ b m. value_written is_character refl refl refl refl refl refl b m;
}

pub text_means : (text : List ℕ) → IsText (text_bytes text) text
text_means text = expands text_escapes text_name text_byte text_writes text_part line_ends (λ run. refl) refl next (λ c. refl) text
  where
    next : (b : ℕ) (run : List ℕ) → text_escapes b ≡ false → line_ends (b ∷ run) ≡ b ∷ line_ends run
    next b run m = let u = text_unescaped b m in rw u.3 refl

pub value_means : (value : List ℕ) → IsValue (value_bytes value) value
value_means value = expands value_escapes value_name value_byte value_writes value_part (λ run. map as_space (line_ends run))
    (λ run. refl) refl next (λ c. refl) value
  where
    next : (b : ℕ) (run : List ℕ) → value_escapes b ≡ false → map as_space (line_ends (b ∷ run)) ≡ b ∷ map as_space (line_ends run)
    next b run m = let u = value_unescaped b m in rw (u.5, u.3, u.4) refl

pub text_characters : (text : List ℕ) → IsCharacters text → IsCharacters (text_bytes text)
text_characters = characters_of text_escapes text_name text_byte text_writes

pub value_characters : (value : List ℕ) → IsCharacters value → IsCharacters (value_bytes value)
value_characters = characters_of value_escapes value_name value_byte value_writes

pub text_some : (text : List ℕ) → text ≢ [] → text_bytes text ≢ []
text_some = some_written text_escapes text_name text_byte text_writes

pub text_no_tag : (text : List ℕ) → AllAre (λ b. not (b == less_than)) (text_bytes text)
text_no_tag =
    never text_escapes text_name text_byte text_writes less_than refl (text_written (λ n. not (n == less_than)) refl refl refl refl)

pub value_no_tag : (value : List ℕ) → AllAre (λ b. not (b == less_than)) (value_bytes value)
value_no_tag =
    never value_escapes value_name value_byte value_writes less_than refl
    (value_written (λ n. not (n == less_than)) refl refl refl refl refl refl)

pub value_no_quote : (value : List ℕ) → AllAre (λ b. not (b == double_quote)) (value_bytes value)
value_no_quote =
    never value_escapes value_name value_byte value_writes double_quote refl
    (value_written (λ n. not (n == double_quote)) refl refl refl refl refl refl)

text_no_end : (text : List ℕ) → AllAre (λ b. not (b == greater_than)) (text_bytes text)
text_no_end =
    never text_escapes text_name text_byte text_writes greater_than refl (text_written (λ n. not (n == greater_than)) refl refl refl refl)

-- `]]>` begins with no byte but `]`, and ends with `>`
no_section_end : (b : ℕ) (bs : List ℕ) → AllAre (λ b. not (b == greater_than)) (b ∷ bs) → starts_with ◌==◌ (b ∷ bs) (codes "]]>") ≡ false
no_section_end b [] f = and_right (byte "]" == b) false refl
no_section_end b (c ∷ []) f = and_right (byte "]" == b) (byte "]" == c && false) (and_right (byte "]" == c) false refl)
no_section_end b (c ∷ (d ∷ ds)) f =
    let third : (greater_than == d) ≡ false = other_way d (not-true (d == greater_than) f.1.1.0) in
    and_right (byte "]" == b) (byte "]" == c && (greater_than == d && true))
    (and_right (byte "]" == c) (greater_than == d && true) (ap (λ t. t && true) third))
  where
    other_way : (d : ℕ) → (d == greater_than) ≡ false → (greater_than == d) ≡ false
    other_way d h = grind (arith, nat_tests)

lacks_end : (own : List ℕ) → AllAre (λ b. not (b == greater_than)) own → Lacks (codes "]]>") own
lacks_end [] f = tt
lacks_end (b ∷ bs) f = (no_section_end b bs f, lacks_end bs f.1)

pub text_no_section_end : (text : List ℕ) → Lacks (codes "]]>") (text_bytes text)
text_no_section_end text = lacks_end (text_bytes text) (text_no_end text)
