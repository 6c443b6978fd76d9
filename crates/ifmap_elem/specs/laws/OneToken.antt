-- At most one token stands at the front of bytes.
-- Each part of a token ends at the first place where its test fails, so two readings of one part agree: `one_cut` says so of runs, and the
-- lemmas `one_..` go from values in quotes to assignments, tags, the declaration and text. That tokens of different kinds do not stand at
-- the same place is told by their first bytes (`kind_is`).
use Rattle.std.proofs.Common.{◌≡◌, ◌≢◌, ℕ, Bool, true, false, not, ◌||◌, List, [], ◌∷◌, ◌++◌, map, refl, ap, sym, ◌∙◌, subst, arith, append_assoc, ◌⊎◌, inl, inr}
use Rattle.std.specs.Prelude.{◌==◌, codes, Some}
use Rattle.std.specs.Char.{to_ascii_uppercase}
use Rattle.std.specs.List.{flat_map, list_all}
use Rattle.std.proofs.lemmas.Bool.{not-true, or_cases, and_parts}
use Rattle.std.proofs.lemmas.Bool.Decides.{nat_tests}
use Rattle.std.specs.Str.{byte}
use Rattle.ifmap_lemmas.specs.Items.{To, one_list}
use Rattle.ifmap_elem.specs.Chars.{AllAre, IsWhite, is_white, ampersand, double_quote, equals_sign, greater_than, less_than, semicolon, single_quote}
use Rattle.ifmap_elem.specs.declared.tokens.Qualified.{Qualified}
use Rattle.ifmap_elem.specs.declared.tokens.TokenKind.TheVariants as kinds
use Rattle.ifmap_elem.specs.Kinds.{kind_at, kind_of, kind_of_markup}
use Rattle.ifmap_elem.specs.Names.{IsQualified, name_bytes}
use Rattle.ifmap_elem.specs.Values.{ValuePart, Plain, Reference, TakesPart, EndsRun, SpellsOut, reference_value, IsText, IsValue, text_part, value_part, line_ends}
use Rattle.ifmap_elem.specs.declared.tokens.Assignment.{Assignment}
use Rattle.ifmap_elem.specs.declared.tokens.Tag.{Tag}
use Rattle.ifmap_elem.specs.declared.tokens.Token.{Token}
use Rattle.ifmap_elem.specs.declared.tokens.Token.TheVariants.{Declaration, Comment, Start, Empty, End, Section, Characters}
use Rattle.ifmap_elem.specs.Tokens.{TakesQuoted, TakesAssignment, TakesTag, TakesSetting, TakesOptional, TakesDeclaration, TakesEnd, EndsText, TakesText, TakesToken}
use Rattle.ifmap_lemmas.specs.Cuts.{Stops, one_cut}
use Rattle.ifmap_lemmas.specs.Members.{all_append}
use Rattle.ifmap_lemmas.specs.Numbers.{equal_numbers}
use Rattle.ifmap_elem.specs.laws.Delimiters.{dash_cut, bracket_cut}
use Rattle.ifmap_elem.specs.laws.NameBytes.{is_name_byte, name_are_bytes, name_is_some, name_cut, no_name_byte, white_is_no_name, white_stops_at_name, name_stops_at_white}

-- one part

pub run_stops : (rest : List ℕ) → EndsRun rest → Stops (λ b. not (b == ampersand)) rest
run_stops [] e = tt
run_stops (b ∷ bs) e = subst (λ (n : ℕ). not (n == ampersand) ≡ false) (sym e) refl

-- no run stands where a reference does
no_run : (run r s : List ℕ) → run ≢ [] → AllAre (λ b. not (b == ampersand)) run → run ++ r ≡ ampersand ∷ s → ⊥
no_run [] r s some f e = some refl
no_run (b ∷ bs) r s some f e =
    let head : b ≡ ampersand = cc in
    let wrong : false ≡ true = subst (λ (n : ℕ). not (n == ampersand) ≡ true) head f.0 in
    cc

pub one_part : (bytes : List ℕ) (p q : ValuePart) (r s : List ℕ) → TakesPart bytes p r → TakesPart bytes q s → (p ≡ q) × (r ≡ s)
one_part bytes (Plain a) (Plain b) r s l m =
    let both = one_cut (λ b. not (b == ampersand)) a b r s l.2 m.2 (run_stops r l.3) (run_stops s m.3) (sym l.0 ∙ m.0) in
    (ap Plain both.0, both.1)
one_part bytes (Plain a) (Reference c) r s l m = absurd (no_run a r _ l.1 l.2 (sym l.0 ∙ m.1))
one_part bytes (Reference c) (Plain b) r s l m = absurd (no_run b s _ m.1 m.2 (sym m.0 ∙ l.1))
one_part bytes (Reference c) (Reference d) r s l m =
    let e : ampersand ∷ (l.0 ++ (semicolon ∷ r)) ≡ ampersand ∷ (m.0 ++ (semicolon ∷ s)) = sym l.1 ∙ m.1 in
    let tail : l.0 ++ (semicolon ∷ r) ≡ m.0 ++ (semicolon ∷ s) = cc in
    let both = one_cut (λ b. not (b == semicolon)) l.0 m.0 (semicolon ∷ r) (semicolon ∷ s) l.2 m.2 refl refl tail in
    let found : Some c ≡ Some d = sym l.3 ∙ ap reference_value both.0 ∙ m.3 in
    let same : c ≡ d = cc in
    let remaining : semicolon ∷ r ≡ semicolon ∷ s = both.1 in
    (ap Reference same, cc)

no_run_of_none : (run rest : List ℕ) → run ≢ [] → [] ≡ run ++ rest → ⊥
no_run_of_none [] rest some e = some refl
no_run_of_none (b ∷ bs) rest some e = cc

pub no_part : (end : List ℕ) (p : ValuePart) (rest : List ℕ) → end ≡ [] → TakesPart end p rest → ⊥
no_part end (Plain run) rest none t = no_run_of_none run rest t.1 (sym none ∙ t.0)
no_part end (Reference c) rest none t = let wrong : [] ≡ ampersand ∷ (t.0 ++ (semicolon ∷ rest)) = sym none ∙ t.1 in cc

pub one_expansion : (adds : ValuePart → List ℕ) (bytes v w : List ℕ) → SpellsOut adds bytes v → SpellsOut adds bytes w → v ≡ w
one_expansion adds bytes v w l m =
    let both = one_list TakesPart (λ (end : List ℕ). end ≡ []) no_part one_part bytes l.parts m.parts [] [] refl refl l.taken m.taken in
    l.text_is ∙ ap (flat_map adds) both.0 ∙ sym m.text_is

-- one quoted value, and one assignment

pub quote_is_not_white : (q : ℕ) → (q == double_quote || q == single_quote) ≡ true → is_white q ≡ false
quote_is_not_white q h =
    elim (or_cases (q == double_quote) (q == single_quote) h) [
      | inl e ↦ subst (λ (n : ℕ). is_white n ≡ false) (sym (equal_numbers q double_quote e)) refl
      | inr e ↦ subst (λ (n : ℕ). is_white n ≡ false) (sym (equal_numbers q single_quote e)) refl
    ]

itself : (q : ℕ) → not (q == q) ≡ false
itself q = let same : (q == q) ≡ true = grind (arith, nat_tests) in rw same refl

pub one_quoted : (bytes v w r s : List ℕ) → TakesQuoted bytes v r → TakesQuoted bytes w s → (v ≡ w) × (r ≡ s)
one_quoted bytes v w r s l m =
    let first = one_cut is_white l.before m.before (equals_sign ∷ (l.after ++ (l.quote ∷ (v ++ (l.quote ∷ r)))))
    (equals_sign ∷ (m.after ++ (m.quote ∷ (w ++ (m.quote ∷ s)))))
    l.white_before m.white_before refl refl (sym l.bytes_are ∙ m.bytes_are) in
    let equals : equals_sign ∷ (l.after ++ (l.quote ∷ (v ++ (l.quote ∷ r)))) ≡ equals_sign ∷ (m.after ++ (m.quote ∷ (w ++ (m.quote ∷ s))))
    = first.1 in
    let remaining : l.after ++ (l.quote ∷ (v ++ (l.quote ∷ r))) ≡ m.after ++ (m.quote ∷ (w ++ (m.quote ∷ s))) = cc in
    let second = one_cut is_white l.after m.after (l.quote ∷ (v ++ (l.quote ∷ r))) (m.quote ∷ (w ++ (m.quote ∷ s)))
    l.white_after m.white_after (quote_is_not_white l.quote l.is_quote) (quote_is_not_white m.quote m.is_quote) remaining in
    let quoted : l.quote ∷ (v ++ (l.quote ∷ r)) ≡ m.quote ∷ (w ++ (m.quote ∷ s)) = second.1 in
    let quote : l.quote ≡ m.quote = cc in
    let inside : v ++ (l.quote ∷ r) ≡ w ++ (m.quote ∷ s) = cc in
    let p : ℕ → Bool = λ b. not (b == l.quote) in
    let third = one_cut p v w (l.quote ∷ r) (m.quote ∷ s) l.unquoted
    (subst (λ (q : ℕ). AllAre (λ b. not (b == q)) w) (sym quote) m.unquoted)
    (itself l.quote) (subst (λ (q : ℕ). not (q == l.quote) ≡ false) quote (itself l.quote)) inside in
    let rest : l.quote ∷ r ≡ m.quote ∷ s = third.1 in
    (third.0, cc)

-- what stands after a name in a tag
pub quoted_stops : (bytes v r : List ℕ) → TakesQuoted bytes v r → Stops is_name_byte bytes
quoted_stops bytes v r t = subst (Stops is_name_byte) (sym t.bytes_are) (name_stops_at_white t.before _ t.white_before refl)

pub one_assignment : (bytes : List ℕ) (a b : Assignment) (r s : List ℕ) → TakesAssignment bytes a r → TakesAssignment bytes b s
    → (a ≡ b) × (r ≡ s)
one_assignment bytes a b r s l m =
    let first = one_cut is_white l.white m.white (name_bytes a.name ++ l.after) (name_bytes b.name ++ m.after) l.is_white m.is_white
    (white_stops_at_name a.name l.after l.is_name) (white_stops_at_name b.name m.after m.is_name) (sym l.bytes_are ∙ m.bytes_are) in
    let second = name_cut a.name b.name l.after m.after l.is_name m.is_name (quoted_stops l.after l.written r l.given)
    (quoted_stops m.after m.written s m.given) first.1 in
    let third = one_quoted m.after l.written m.written r s (subst (λ (x : List ℕ). TakesQuoted x l.written r) second.1 l.given) m.given in
    let value = one_expansion value_part m.written a.value b.value (subst (λ (x : List ℕ). IsValue x a.value) third.0 l.means) m.means in
    (λ k. record { name = second.0 k; value = value k }, third.1)

-- how a tag ends: with a byte that is neither white space nor a name's
abbrev pub EndsTag : List ℕ → Type 0
EndsTag [] = ⊥
EndsTag (b ∷ bs) = (is_white b ≡ false) × (is_name_byte b ≡ false)

abbrev pub IsTagEnd : List ℕ → Type 0
IsTagEnd bytes = (white : List ℕ) × (end : List ℕ) × (bytes ≡ white ++ end) × IsWhite white × EndsTag end

no_name_ends : (end : List ℕ) (q : Qualified) (r : List ℕ) → IsQualified q → EndsTag end → end ≡ name_bytes q ++ r → ⊥
no_name_ends end q r i ends e = no_end (name_bytes q) (name_is_some q i) (name_are_bytes q i) end ends e
  where
    no_end : (name : List ℕ) → name ≢ [] → AllAre is_name_byte name → (bytes : List ℕ) → EndsTag bytes → bytes ≡ name ++ r → ⊥
    no_end [] some f bytes ends e = some refl
    no_end (c ∷ cs) some f [] ends e = ends
    no_end (c ∷ cs) some f (b ∷ bs) ends e =
        let head : b ≡ c = cc in
        let wrong : true ≡ false = sym f.0 ∙ subst (λ (n : ℕ). is_name_byte n ≡ false) head ends.1 in cc

stops_white : (end : List ℕ) → EndsTag end → Stops is_white end
stops_white [] ends = absurd ends
stops_white (b ∷ bs) ends = ends.0

stops_name : (end : List ℕ) → EndsTag end → Stops is_name_byte end
stops_name [] ends = absurd ends
stops_name (b ∷ bs) ends = ends.1

pub no_assignment : (end : List ℕ) (a : Assignment) (rest : List ℕ) → IsTagEnd end → TakesAssignment end a rest → ⊥
no_assignment bytes a rest i t =
    let both = one_cut is_white i.0 t.white i.1 (name_bytes a.name ++ t.after) i.3 t.is_white (stops_white i.1 i.4)
    (white_stops_at_name a.name t.after t.is_name) (sym i.2 ∙ t.bytes_are) in
    no_name_ends i.1 a.name t.after t.is_name i.4 both.1

-- what stands after a tag's name is no byte of a name
pub assigned_stops : (bytes : List ℕ) (as' : List Assignment) (white end : List ℕ) → IsWhite white → EndsTag end
    → To TakesAssignment bytes as' (white ++ end) → Stops is_name_byte bytes
assigned_stops bytes [] white end f ends l = subst (Stops is_name_byte) (sym l) (name_stops_at_white white end f (stops_name end ends))
assigned_stops bytes (a ∷ as') white end f ends l =
    subst (Stops is_name_byte) (sym l.1.bytes_are) (some_white l.1.white l.1.some_white l.1.is_white)
  where
    some_white : (xs : List ℕ) → xs ≢ [] → IsWhite xs → Stops is_name_byte (xs ++ (name_bytes a.name ++ l.1.after))
    some_white [] some g = absurd (some refl)
    some_white (x ∷ xs) some g = white_is_no_name x g.0

pub one_tag : (bytes : List ℕ) (a b : Tag) (end after : List ℕ) → EndsTag end → EndsTag after → TakesTag bytes a end
    → TakesTag bytes b after → (a ≡ b) × (end ≡ after)
one_tag bytes a b end after ends also l m =
    let e : less_than ∷ (name_bytes a.name ++ l.after) ≡ less_than ∷ (name_bytes b.name ++ m.after) = sym l.bytes_are ∙ m.bytes_are in
    let named : name_bytes a.name ++ l.after ≡ name_bytes b.name ++ m.after = cc in
    let first = name_cut a.name b.name l.after m.after l.is_name m.is_name
    (assigned_stops l.after a.assignments l.white end l.is_white ends l.assigned)
    (assigned_stops m.after b.assignments m.white after m.is_white also m.assigned) named in
    let second = one_list TakesAssignment IsTagEnd no_assignment one_assignment m.after a.assignments b.assignments (l.white ++ end)
    (m.white ++ after)
    (l.white, end, refl, l.is_white, ends) (m.white, after, refl, m.is_white, also)
    (subst (λ (x : List ℕ). To TakesAssignment x a.assignments (l.white ++ end)) first.1 l.assigned) m.assigned in
    let third = one_cut is_white l.white m.white end after l.is_white m.is_white (stops_white end ends) (stops_white after also) second.1 in
    (λ k. record { name = first.0 k; assignments = second.0 k }, third.1)

-- the declaration has no `>` but its last byte

abbrev pub no_end : ℕ → Bool
no_end b = not (b == greater_than)

-- what was taken has no `>`
abbrev pub TakesNoEnd : List ℕ → List ℕ → Type 0
TakesNoEnd bytes rest = (front : List ℕ) × (bytes ≡ front ++ rest) × AllAre no_end front

white_no_end : (a : List ℕ) → IsWhite a → AllAre no_end a
white_no_end [] f = tt
white_no_end (b ∷ bs) f = (by_test (b == greater_than) refl, white_no_end bs f.1)
  where
    by_test : (t : Bool) → (b == greater_than) ≡ t → not (b == greater_than) ≡ true
    by_test false e = ap not e
    by_test true e =
        let wrong : true ≡ false = sym f.0 ∙ subst (λ (n : ℕ). is_white n ≡ false) (sym (equal_numbers b greater_than e)) refl in cc

quote_no_end : (q : ℕ) → (q == double_quote || q == single_quote) ≡ true → no_end q ≡ true
quote_no_end q h =
    elim (or_cases (q == double_quote) (q == single_quote) h) [
      | inl e ↦ subst (λ (n : ℕ). no_end n ≡ true) (sym (equal_numbers q double_quote e)) refl
      | inr e ↦ subst (λ (n : ℕ). no_end n ≡ true) (sym (equal_numbers q single_quote e)) refl
    ]

seam : (a b c d : List ℕ) (q : ℕ)
    → a ++ (equals_sign ∷ (b ++ (q ∷ (c ++ (q ∷ d))))) ≡ (a ++ (equals_sign ∷ (b ++ (q ∷ (c ++ (q ∷ [])))))) ++ d
seam a b c d q = simp append_assoc

quoted_no_end : (bytes v rest : List ℕ) → AllAre no_end v → TakesQuoted bytes v rest → TakesNoEnd bytes rest
quoted_no_end bytes v rest f t =
    let q : AllAre no_end (t.quote ∷ []) = (quote_no_end t.quote t.is_quote, tt) in
    let value = all_append no_end v (t.quote ∷ []) f q in
    let remaining = all_append no_end t.after (t.quote ∷ (v ++ (t.quote ∷ []))) (white_no_end t.after t.white_after) (q.0, value) in
    let all = all_append no_end t.before (equals_sign ∷ (t.after ++ (t.quote ∷ (v ++ (t.quote ∷ [])))))
    (white_no_end t.before t.white_before)
    (refl, remaining) in
    (t.before ++ (equals_sign ∷ (t.after ++ (t.quote ∷ (v ++ (t.quote ∷ []))))), t.bytes_are ∙ seam t.before t.after v rest t.quote, all)

module _ (name : List ℕ) (Allows : List ℕ → Type 0) (plain : AllAre no_end name) (values : (v : List ℕ) → Allows v → AllAre no_end v) where
  setting_no_end : (bytes rest : List ℕ) → TakesSetting name Allows bytes rest → TakesNoEnd bytes rest
  setting_no_end bytes rest t =
      let q = quoted_no_end t.after t.written rest (values t.written t.allowed) t.given in (
        t.white ++ (name ++ q.0),
        t.bytes_are ∙ ap (λ x. t.white ++ (name ++ x)) q.1 ∙ simp append_assoc,
        all_append no_end t.white (name ++ q.0) (white_no_end t.white t.is_white) (all_append no_end name q.0 plain q.2),
      )

  optional_no_end : (bytes rest : List ℕ) → TakesOptional name Allows bytes rest → TakesNoEnd bytes rest
  optional_no_end bytes rest t = elim t [ inl e ↦ ([], e, tt) | inr s ↦ setting_no_end bytes rest s ]

joined_no_end : (bytes mid rest : List ℕ) → TakesNoEnd bytes mid → TakesNoEnd mid rest → TakesNoEnd bytes rest
joined_no_end bytes mid rest l m =
    (l.0 ++ m.0, l.1 ∙ ap (λ x. l.0 ++ x) m.1 ∙ sym (append_assoc l.0 m.0 rest), all_append no_end l.0 m.0 l.2 m.2)

-- no upper case letter, digit or dash is written by `>`
raised_no_end : (v w : List ℕ) → map to_ascii_uppercase v ≡ w → AllAre no_end w → AllAre no_end v
raised_no_end [] w e f = tt
raised_no_end (b ∷ bs) [] e f = cc
raised_no_end (b ∷ bs) (c ∷ cs) e f =
    let head : to_ascii_uppercase b ≡ c = cc in
    let tail : map to_ascii_uppercase bs ≡ cs = cc in
    (by_test head (b == greater_than) refl, raised_no_end bs cs tail f.1)
  where
    by_test : to_ascii_uppercase b ≡ c → (t : Bool) → (b == greater_than) ≡ t → not (b == greater_than) ≡ true
    by_test head false e = ap not e
    by_test head true e =
        let same : c ≡ greater_than = sym head ∙ ap to_ascii_uppercase (equal_numbers b greater_than e) in
        let wrong : false ≡ true = subst (λ (n : ℕ). no_end n ≡ true) same f.0 in cc

each : (xs : List ℕ) → list_all no_end xs ≡ true → AllAre no_end xs
each [] h = tt
each (x ∷ xs) h = let parts = and_parts (no_end x) (list_all no_end xs) h in (parts.0, each xs parts.1)

pub declaration_no_end : (bytes rest : List ℕ) → TakesDeclaration bytes rest → TakesNoEnd bytes (greater_than ∷ rest)
declaration_no_end bytes rest t =
    let first : TakesNoEnd bytes t.first = (codes "<?xml", t.bytes_are, each (codes "<?xml") refl) in
    let second = setting_no_end (codes "version") (λ v. v ≡ codes "1.0") (each (codes "version") refl)
    (λ v e. subst (AllAre no_end) (sym e) (each (codes "1.0") refl)) t.first t.second t.version in
    let third = optional_no_end (codes "encoding") (λ v. map to_ascii_uppercase v ≡ codes "UTF-8") (each (codes "encoding") refl)
    (λ v e. raised_no_end v (codes "UTF-8") e (each (codes "UTF-8") refl)) t.second t.third t.encoding in
    let fourth = optional_no_end (codes "standalone") (λ v. (v ≡ codes "yes") ⊎ (v ≡ codes "no"))
    (each (codes "standalone") refl) yes_or_no t.third (t.white ++ (codes "?>" ++ rest)) t.standalone in
    let last : TakesNoEnd (t.white ++ (codes "?>" ++ rest)) (greater_than ∷ rest) = (
      t.white ++ codes "?",
      sym
          (append_assoc t.white (codes "?") (greater_than ∷ rest)),
      all_append no_end t.white (codes "?") (white_no_end t.white t.is_white)
          (refl, tt),
    ) in
    joined_no_end bytes t.first _ first (joined_no_end t.first t.second _ second
    (joined_no_end t.second t.third _ third (joined_no_end t.third _ _ fourth last)))
  where
    yes_or_no : (v : List ℕ) → (v ≡ codes "yes") ⊎ (v ≡ codes "no") → AllAre no_end v
    yes_or_no v e = elim e [
      | inl y ↦ subst (AllAre no_end) (sym y) (each (codes "yes") refl)
      | inr n ↦ subst (AllAre no_end) (sym n) (each (codes "no") refl)
    ]

one_declaration : (bytes r s : List ℕ) → TakesDeclaration bytes r → TakesDeclaration bytes s → r ≡ s
one_declaration bytes r s l m =
    let i = declaration_no_end bytes r l in
    let j = declaration_no_end bytes s m in
    let both = one_cut no_end i.0 j.0 (greater_than ∷ r) (greater_than ∷ s) i.2 j.2 refl refl (sym i.1 ∙ j.1) in
    let remaining : greater_than ∷ r ≡ greater_than ∷ s = both.1 in
    cc

-- which kind of token the first bytes can begin

name_kind : (name r : List ℕ) → name ≢ [] → AllAre is_name_byte name → kind_of_markup (name ++ r) ≡ kinds.Tag
name_kind [] r some f = absurd (some refl)
name_kind (b ∷ bs) r some f =
    rw (no_name_byte b (byte "?") refl f.0, no_name_byte b (byte "/") refl f.0, no_name_byte b (byte "!") refl f.0) refl

tag_kind : (bytes : List ℕ) (tag : Tag) (end : List ℕ) → TakesTag bytes tag end → kind_at bytes ≡ kinds.Tag
tag_kind bytes tag end t =
    ap kind_at t.bytes_are ∙ name_kind (name_bytes tag.name) t.after (name_is_some tag.name t.is_name) (name_are_bytes tag.name t.is_name)

text_kind : (own r : List ℕ) → own ≢ [] → AllAre (λ b. not (b == less_than)) own → kind_at (own ++ r) ≡ kinds.Text
text_kind [] r some f = absurd (some refl)
text_kind (b ∷ bs) r some f = rw (not-true (b == less_than) f.0) refl

pub kind_is : (bytes : List ℕ) (t : Token) (rest : List ℕ) → TakesToken bytes t rest → kind_at bytes ≡ kind_of t
kind_is bytes Declaration rest t = ap kind_at t.bytes_are
kind_is bytes Comment rest t = ap kind_at t.1.bytes_are
kind_is bytes (Start tag) rest t = tag_kind bytes tag _ t
kind_is bytes (Empty tag) rest t = tag_kind bytes tag _ t
kind_is bytes (End name) rest t = ap kind_at t.bytes_are
kind_is bytes (Section text) rest t = ap kind_at t.1.bytes_are
kind_is bytes (Characters blank text) rest t = ap kind_at t.bytes_are ∙ text_kind t.own rest t.some t.no_tag

-- one token of each kind

one_comment : (bytes r s : List ℕ) → TakesToken bytes Comment r → TakesToken bytes Comment s → r ≡ s
one_comment bytes r s l m =
    let e : codes "<!--" ++ (l.0 ++ (codes "-->" ++ r)) ≡ codes "<!--" ++ (m.0 ++ (codes "-->" ++ s)) = sym l.1.bytes_are ∙ m.1.bytes_are in
    let inside : l.0 ++ (codes "-->" ++ r) ≡ m.0 ++ (codes "-->" ++ s) = cc in
    let remaining : codes ">" ++ r ≡ codes ">" ++ s = (dash_cut l.0 m.0 (codes ">" ++ r) (codes ">" ++ s) l.2 m.2 inside).1 in
    cc

one_section : (bytes t u r s : List ℕ) → TakesToken bytes (Section t) r → TakesToken bytes (Section u) s → (t ≡ u) × (r ≡ s)
one_section bytes t u r s l m =
    let e : codes "<![CDATA[" ++ (l.0 ++ (codes "]]>" ++ r)) ≡ codes "<![CDATA[" ++ (m.0 ++ (codes "]]>" ++ s)) = sym l.1.bytes_are
    ∙ m.1.bytes_are in
    let inside : l.0 ++ (codes "]]>" ++ r) ≡ m.0 ++ (codes "]]>" ++ s) = cc in
    let both = bracket_cut l.0 m.0 r s l.2 m.2 inside in
    (l.3 ∙ ap line_ends both.0 ∙ sym m.3, both.1)

one_end : (bytes : List ℕ) (q u : Qualified) (r s : List ℕ) → TakesEnd bytes q r → TakesEnd bytes u s → (q ≡ u) × (r ≡ s)
one_end bytes q u r s l m =
    let e : codes "</" ++ (name_bytes q ++ (l.white ++ (codes ">" ++ r))) ≡ codes "</" ++ (name_bytes u ++ (m.white ++ (codes
    ">" ++ s))) = sym l.bytes_are ∙ m.bytes_are in
    let inside : name_bytes q ++ (l.white ++ (codes ">" ++ r)) ≡ name_bytes u ++ (m.white ++ (codes ">" ++ s)) = cc in
    let first = name_cut q u (l.white ++ (codes ">" ++ r)) (m.white ++ (codes ">" ++ s)) l.is_name m.is_name
    (name_stops_at_white l.white (codes ">" ++ r) l.is_white refl) (name_stops_at_white m.white (codes ">" ++ s) m.is_white refl) inside in
    let second = one_cut is_white l.white m.white (codes ">" ++ r) (codes ">" ++ s) l.is_white m.is_white refl refl first.1 in
    let end : codes ">" ++ r ≡ codes ">" ++ s = second.1 in
    (first.0, cc)

pub text_stops : (rest : List ℕ) → EndsText rest → Stops (λ b. not (b == less_than)) rest
text_stops [] e = tt
text_stops (b ∷ bs) e = subst (λ (n : ℕ). not (n == less_than) ≡ false) (sym e) refl

one_text : (bytes : List ℕ) (a b : Bool) (t u r s : List ℕ) → TakesText bytes a t r → TakesText bytes b u s
    → (Characters a t ≡ Characters b u) × (r ≡ s)
one_text bytes a b t u r s l m =
    let both = one_cut (λ b. not (b == less_than)) l.own m.own r s l.no_tag m.no_tag (text_stops r l.ends) (text_stops s m.ends)
    (sym l.bytes_are ∙ m.bytes_are) in
    let blank : a ≡ b = l.blank_is ∙ ap (list_all is_white) both.0 ∙ sym m.blank_is in
    let text : t ≡ u = one_expansion text_part m.own t u (subst (λ (x : List ℕ). IsText x t) both.0 l.means) m.means in
    (cc, both.1)

other_kinds : (bytes : List ℕ) (t u : Token) (r s : List ℕ) → TakesToken bytes t r → TakesToken bytes u s → kind_of t ≡ kind_of u
other_kinds bytes t u r s l m = sym (kind_is bytes t r l) ∙ kind_is bytes u s m

tag_ends : (bytes : List ℕ) (a b : Tag) (end after : List ℕ) → EndsTag end → EndsTag after → TakesTag bytes a end → TakesTag bytes b after
    → end ≡ after
tag_ends bytes a b end after i j l m = (one_tag bytes a b end after i j l m).1

pub one_token : (bytes : List ℕ) (t u : Token) (r s : List ℕ) → TakesToken bytes t r → TakesToken bytes u s → (t ≡ u) × (r ≡ s)
one_token bytes Declaration Declaration r s l m = (refl, one_declaration bytes r s l m)
one_token bytes Comment Comment r s l m = (refl, one_comment bytes r s l m)
one_token bytes (Start a) (Start b) r s l m =
    let both = one_tag bytes a b (codes ">" ++ r) (codes ">" ++ s) (refl, refl) (refl, refl) l m in
    let end : codes ">" ++ r ≡ codes ">" ++ s = both.1 in
    (ap Start both.0, cc)
one_token bytes (Empty a) (Empty b) r s l m =
    let both = one_tag bytes a b (codes "/>" ++ r) (codes "/>" ++ s) (refl, refl) (refl, refl) l m in
    let end : codes "/>" ++ r ≡ codes "/>" ++ s = both.1 in
    (ap Empty both.0, cc)
one_token bytes (Start a) (Empty b) r s l m =
    let end : codes ">" ++ r ≡ codes "/>" ++ s = tag_ends bytes a b (codes ">" ++ r) (codes "/>" ++ s) (refl, refl) (refl, refl) l m in
    let wrong : ◌≡◌ {A = ℕ} greater_than (byte "/") = cc in
    absurd (omega arith)
one_token bytes (Empty a) (Start b) r s l m =
    let end : codes "/>" ++ r ≡ codes ">" ++ s = tag_ends bytes a b (codes "/>" ++ r) (codes ">" ++ s) (refl, refl) (refl, refl) l m in
    let wrong : ◌≡◌ {A = ℕ} (byte "/") greater_than = cc in
    absurd (omega arith)
one_token bytes (End q) (End u) r s l m = let both = one_end bytes q u r s l m in (ap End both.0, both.1)
one_token bytes (Section t) (Section u) r s l m = let both = one_section bytes t u r s l m in (ap Section both.0, both.1)
one_token bytes (Characters a t) (Characters b u) r s l m = one_text bytes a b t u r s l m
one_token bytes t u r s l m = let wrong = other_kinds bytes t u r s l m in cc

pub no_token : (end : List ℕ) (t : Token) (rest : List ℕ) → end ≡ [] → TakesToken end t rest → ⊥
no_token end t rest none l = some_kind t (sym (ap kind_at none) ∙ kind_is end t rest l)
  where
    some_kind : (t : Token) → kinds.Nothing ≡ kind_of t → ⊥
    some_kind Declaration e = cc
    some_kind Comment e = cc
    some_kind (Start tag) e = cc
    some_kind (Empty tag) e = cc
    some_kind (End name) e = cc
    some_kind (Section text) e = cc
    some_kind (Characters blank text) e = cc
