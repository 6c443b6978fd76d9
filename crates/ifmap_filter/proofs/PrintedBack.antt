-- What is printed of a filter is parsed as it. Plan:
-- (1) a text that a rule takes as something, and joined texts; (2) names by their prefixes, and comparisons;
-- (3) rules in which parentheses nest deeper take what those do in which they nest less deep;
-- (4) what is printed of a predicate where it stands as it was parsed, by the rule that took it;
-- (5) tests and filters.
use Rattle.std.proofs.Common.{◌≡◌, ◌≢◌, ℕ, ◌+◌, zero, suc, Bool, true, false, List, [], ◌∷◌, ◌++◌, refl, ap, sym, ◌∙◌, subst, arith, inl, inr, Option, Some, None, append_assoc}
use Rattle.std.specs.Prelude.{◌||◌, ◌⊎◌, chars, codes, Ok, Err}
use Rattle.std.specs.List.{flat_map, list_all, list_any}
use Rattle.std.specs.Map.{lookup}
use Rattle.std.specs.Str.{IsAscii, all_scalars, bytes_eq, byte}
use Rattle.std.specs.Str.Parse.{AllDigits}
use Rattle.std.proofs.lemmas.Bool.{and_parts, cases_Bool, false_from_ne_true}
use Rattle.std.proofs.lemmas.List.{append-nil}
use Rattle.std.proofs.lemmas.List.Folds.{list_all-append}
use Rattle.std.proofs.lemmas.Str.{IsUtf8-from_ascii, chars-IsAscii, chars-nil, encodes-IsAscii, scalars-chars}
use Rattle.std.proofs.lemmas.Str.Ascii.{IsAscii-cons, IsAscii-nil}
use Rattle.std.proofs.lemmas.Str.Parse.{digit_from_value}
use Rattle.ifmap_lemmas.specs.Items.{To}
use Rattle.ifmap_lemmas.specs.Numerals.{numeral, numeral_digits, one_number}
use Rattle.ifmap_lemmas.specs.Members.{all_of_test}
use Rattle.ifmap_lemmas.specs.Texts.{ascii_encoded, eq_itself, eq_tells, is_ascii, bytes_apart}
use Rattle.ifmap_lemmas.specs.Branches.{second_holds, and_true}
use Rattle.ifmap_lemmas.specs.Runs.{all_joined}
use Rattle.ifmap_elem.specs.Chars.{colon, equals_sign}
use Rattle.ifmap_elem.specs.Folds.{Each}
use Rattle.ifmap_elem.specs.Names.{is_name_character}
use Rattle.ifmap_elem.specs.Scopes.{xml_space}
use Rattle.ifmap_elem.specs.declared.elements.Name as element
use Rattle.ifmap_elem.specs.declared.tokens.Qualified.{Qualified}
use Rattle.ifmap_prefixes.specs.ifmap_reader.declared.scoping.Scope.{Scope}
use Rattle.ifmap_filter.specs.declared.errors.FilterError.TheVariants.{NotAFilter, NoMemory}
use Rattle.ifmap_filter.specs.declared.filters.Predicate.{Predicate, Attr, Child, And, Or}
use Rattle.ifmap_filter.specs.declared.filters.Test.{Test}
use Rattle.ifmap_filter.specs.declared.filters.Filter.{Filter}
use Rattle.ifmap_filter.specs.declared.tokens.FilterToken.{FilterToken}
use Rattle.ifmap_filter.specs.declared.tokens.FilterToken.TheVariants.{Any, OpenBracket, CloseBracket, OpenParenthesis, CloseParenthesis, EqualsSign, At, Name, Literal}
use Rattle.ifmap_filter.specs.declared.printing.Around.TheVariants.{Ands, Ors}
use Rattle.ifmap_filter.specs.Grammar.{AreTests, AsksFor, Rule, StandsFor, TakesAnds, TakesComparison, TakesFactor, TakesJoined, TakesMore, TakesOrPart, TakesOrs, TakesPredicate, TakesTest, and_word, unprefixed_name, depth_limit, join_of, or_word}
use Rattle.ifmap_filter.specs.Printing.{CanBeParsed, IsAnsweredBack, NestsNoDeeper, PredicateText, WritesBack, ands_text, attribute_text, brackets_text, child_text, comparison_text, filter_text, group_text, joined_texts, literal_text, name_text, numbered_prefix, numbered_rows, numbered_scope, ors_text, parts_text, space_place, predicate_text, test_name_text, test_text}
use Rattle.ifmap_filter.specs.Spaces.{HasSpaces, brackets_spaces, has_each, has_space, name_spaces, predicate_spaces, test_spaces}
use Rattle.ifmap_filter.specs.Texts.{WritesFilterWithin}
use Rattle.ifmap_filter.specs.Tokens.{Takes, name_token}
use Rattle.ifmap_filter.proofs.Lexed.{EndsName, IsPart, IsWord, Lexes, and_is, any_is, at_is, lexes_before, close_bracket_is, close_is, equals_is, lexed_bare, lexed_prefixed, lexes_both, lexes_nothing, nothing_ends, open_bracket_is, open_is, or_is, symbol_alone, symbol_ends}
use Rattle.ifmap_filter.proofs.Deciding.{one_filter, stops_where_no_filter}
use Rattle.ifmap_filter.proofs.LexedParts.{AreTokens, IsLiteral, IsToken, are_tokens, lexed_literal}
use Rattle.ifmap_filter.proofs.PrintLaws.{prints_and, prints_attr, prints_child, prints_or}
use Rattle.ifmap_filter.proofs.SpaceLaws.{had_and, had_child, had_or}
use Rattle.ifmap_elem.specs.laws.PrintedScopes.{digits_characters}

-- (1) texts that rules take

-- the text is tokens, which the rule takes as that, whatever stands after them
pub record Forms (X : Type 0) (R : Rule X) (text : List ℕ) (x : X) : Type 0 where
  pub head : FilterToken
  pub others : List FilterToken
  pub lexed : Lexes text (head ∷ others)
  pub takes : (rest : List FilterToken) → R (head ∷ (others ++ rest)) x rest

each_from : {X : Type 0} (P Q : X → Type 0) → ((x : X) → P x → Q x) → (xs : List X) → Each P xs → Each Q xs
each_from P Q leads [] h = tt
each_from P Q leads (x ∷ xs) h = (leads x h.0, each_from P Q leads xs h.1)

module _ (X : Type 0) (word : List ℕ) (wordy : FilterToken) (is : IsWord word wordy) (Part : Rule X) (text : X → List ℕ) where
  abbrev more_text : List X → List ℕ
  more_text xs = flat_map (λ y. word ++ text y) xs

  record FormsMore (xs : List X) : Type 0 where
    pub tokens : List FilterToken
    pub lexed : Lexes (more_text xs) tokens
    pub ends : EndsName (more_text xs)
    pub takes : (rest : List FilterToken) → TakesMore wordy Part (tokens ++ rest) xs rest

  more_ends : (x : X) (xs : List X) → EndsName (more_text (x ∷ xs))
  more_ends x xs =
      subst EndsName (sym (append_assoc word (text x) (more_text xs))) (is.ends (text x ++ more_text xs))

  forms_more : (xs : List X) → Each (λ x. Forms X Part (text x) x) xs → FormsMore xs
  forms_more [] h = record { tokens = []; lexed = lexes_nothing; ends = nothing_ends; takes = λ rest. refl }
  forms_more (x ∷ xs) h =
      let f = h.0 in
      let m = forms_more xs h.1 in
      record {
        tokens = wordy ∷ (f.head ∷ (f.others ++ m.tokens));
        lexed = lexes_both (word ++ text x) (more_text xs) (wordy ∷ (f.head ∷ f.others)) m.tokens
            (is.stands (text x) f.head f.others f.lexed)
            m.lexed m.ends;
        ends = more_ends x xs;
        takes = λ rest. (
          f.head ∷ ((f.others ++ m.tokens) ++ rest),
          m.tokens ++ rest,
          refl,
          subst (λ ts. Part (f.head ∷ ts) x (m.tokens ++ rest)) (sym (append_assoc f.others m.tokens rest)) (f.takes (m.tokens ++ rest)),
          m.takes rest,
        );
      }

  -- the first and the others
  record FormsAll (x : X) (xs : List X) : Type 0 where
    pub head : FilterToken
    pub others : List FilterToken
    pub lexed : Lexes (joined_texts word text (x ∷ xs)) (head ∷ others)
    pub takes : (rest : List FilterToken) → (mid : List FilterToken) × Part (head ∷ (others ++ rest)) x mid
        × TakesMore wordy Part mid xs rest

  forms_all : (x : X) (xs : List X) → Forms X Part (text x) x → Each (λ x. Forms X Part (text x) x) xs → FormsAll x xs
  forms_all x xs f h =
      let m = forms_more xs h in
      record {
        head = f.head;
        others = f.others ++ m.tokens;
        lexed = lexes_both (text x) (more_text xs) (f.head ∷ f.others) m.tokens f.lexed m.lexed m.ends;
        takes = λ rest. (
          m.tokens ++ rest,
          subst (λ ts. Part (f.head ∷ ts) x (m.tokens ++ rest)) (sym (append_assoc f.others m.tokens rest)) (f.takes (m.tokens ++ rest)),
          m.takes rest,
        );
      }

module _ (join : List Predicate → Predicate) (wordy : FilterToken) (Part : Rule Predicate) where
  forms_one : (text : List ℕ) (p : Predicate) → Forms Predicate Part text p → Forms Predicate (TakesJoined join wordy Part) text p
  forms_one text p f = record {
    head = f.head;
    others = f.others;
    lexed = f.lexed;
    takes = λ rest. record { first = p; others = []; mid = rest; one = f.takes rest; more = refl; means = refl };
  }

  forms_joined : (word : List ℕ) → IsWord word wordy → (text : Predicate → List ℕ) (p q : Predicate) (ps : List Predicate)
      → Each (λ x. Forms Predicate Part (text x) x) (p ∷ (q ∷ ps))
      → Forms Predicate (TakesJoined join wordy Part) (joined_texts word text (p ∷ (q ∷ ps))) (join (p ∷ (q ∷ ps)))
  forms_joined word is text p q ps h =
      let all = forms_all Predicate word wordy is Part text p (q ∷ ps) h.0 h.1 in
      record {
        head = all.head;
        others = all.others;
        lexed = all.lexed;
        takes = λ rest.
            let t = all.takes rest in record { first = p; others = q ∷ ps; mid = t.0; one = t.1; more = t.2; means = refl };
      }

forms_within : (X : Type 0) (R S : Rule X) → ((ts : List FilterToken) (x : X) (rest : List FilterToken) → R ts x rest → S ts x rest)
    → (text : List ℕ) (x : X)
    → Forms X R text x → Forms X S text x
forms_within X R S leads text x f = record {
  head = f.head;
  others = f.others;
  lexed = f.lexed;
  takes = λ rest. leads (f.head ∷ (f.others ++ rest)) x rest (f.takes rest);
}

-- (2) names by their prefixes

digits_ascii : (ds : List ℕ) → AllDigits 10 ds → IsAscii ds
digits_ascii [] f = IsAscii-nil
digits_ascii (d ∷ ds) f = let r = digit_from_value d f.0 in IsAscii-cons d ds (let high = r.1 in omega (arith, high)) (digits_ascii ds f.1)

ascii_scalars : (bs : List ℕ) → IsAscii bs → all_scalars bs ≡ true
ascii_scalars bs f = subst (λ cs. all_scalars cs ≡ true) (chars-IsAscii bs f) (scalars-chars bs (IsUtf8-from_ascii bs f))

prefix_part : (n : ℕ) → IsPart (numbered_prefix n)
prefix_part n =
    let digits = numeral_digits n in
    let low : IsAscii (byte "f" ∷ numeral n) = IsAscii-cons (byte "f") (numeral n) (omega arith) (digits_ascii (numeral n) digits) in
    record {
      first = byte "f";
      others = numeral n;
      scalars = ascii_scalars (byte "f" ∷ numeral n) low;
      bytes_are = encodes-IsAscii (byte "f" ∷ numeral n) low;
      begins = refl;
      goes_on = (refl, digits_characters (numeral n) digits);
    }

xml_part : IsPart (codes "xml")
xml_part = record {
  first = byte "x";
  others = codes "ml";
  scalars = refl;
  bytes_are = ascii_encoded (codes "xml") (all_of_test is_ascii (codes "xml") refl);
  begins = refl;
  goes_on = all_of_test is_name_character (codes "xml") refl;
}

row_here : (p : List ℕ → Bool) (k v : List ℕ) (rows : List (List ℕ × List ℕ)) → p k ≡ true → lookup p ((k, v) ∷ rows) ≡ Some v
row_here p k v rows e = rw e refl

row_later : (p : List ℕ → Bool) (k v : List ℕ) (rows : List (List ℕ × List ℕ)) → p k ≡ false → lookup p ((k, v) ∷ rows) ≡ lookup p rows
row_later p k v rows e = rw e refl

other_prefix : (m n : ℕ) → m ≢ n → bytes_eq (numbered_prefix m) (numbered_prefix n) ≡ false
other_prefix m n apart =
    false_from_ne_true _ (λ e. let same = eq_tells (numbered_prefix m) (numbered_prefix n) e in let d : numeral m ≡ numeral n = cc in apart
    (one_number m n d))

module _ (space : List ℕ) where
  first_place : (s : List ℕ) (ss : List (List ℕ)) → bytes_eq s space ≡ true → space_place space (s ∷ ss) ≡ 0
  first_place s ss e = rw e refl

  later_place : (s : List ℕ) (ss : List (List ℕ)) → bytes_eq s space ≡ false → space_place space (s ∷ ss) ≡ 1 + space_place space ss
  later_place s ss e = rw e refl

  -- the prefix with the number of the namespace's place stands for it
  place_found : (spaces : List (List ℕ)) (n : ℕ) → list_any (bytes_eq space) spaces ≡ true
      → lookup (bytes_eq (numbered_prefix (space_place space spaces + n))) (numbered_rows n spaces) ≡ Some space
  place_found [] n h = cc
  place_found (s ∷ ss) n h = elim (cases_Bool (bytes_eq s space)) [
    | inl e ↦
        let number : space_place space (s ∷ ss) + n ≡ n = (let p = first_place s ss e in omega (arith, p)) in
        ap (λ k. lookup (bytes_eq (numbered_prefix k)) (numbered_rows n (s ∷ ss))) number
        ∙ row_here (bytes_eq (numbered_prefix n)) (numbered_prefix n) s (numbered_rows (n + 1) ss) (eq_itself (numbered_prefix n))
        ∙ ap (λ z. Some z) (eq_tells s space e)
    | inr e ↦
        let number : space_place space (s ∷ ss) + n ≡ space_place space ss + (n + 1) = (let p = later_place s ss e in omega (arith, p)) in
        let among : list_any (bytes_eq space) ss ≡ true =
        second_holds (bytes_eq space s) (list_any (bytes_eq space) ss) (bytes_apart s space e) h in
        ap (λ k. lookup (bytes_eq (numbered_prefix k)) (numbered_rows n (s ∷ ss))) number
        ∙ row_later (bytes_eq (numbered_prefix (space_place space ss + (n + 1)))) (numbered_prefix n) s (numbered_rows (n + 1) ss)
        (other_prefix (space_place space ss + (n + 1)) n (λ q. absurd (omega (arith, q))))
        ∙ place_found ss (n + 1) among
  ]

-- a name as it is printed
record Named (spaces : List (List ℕ)) (name : element.Name) : Type 0 where
  pub written : Qualified
  pub stands : StandsFor (numbered_scope spaces) written name
  pub lexed : Lexes (name_text spaces name) (Name written ∷ [])

module _ (spaces : List (List ℕ)) (name : element.Name) (part : IsPart name.local) where
  bare_text : bytes_eq name.space [] ≡ true → name_text spaces name ≡ name.local
  bare_text e = rw e refl

  xml_text : bytes_eq name.space [] ≡ false → bytes_eq name.space xml_space ≡ true
      → name_text spaces name ≡ codes "xml" ++ (colon ∷ name.local)
  xml_text e f = rw (e, f) refl

  numbered_text : bytes_eq name.space [] ≡ false → bytes_eq name.space xml_space ≡ false
      → name_text spaces name ≡ numbered_prefix (space_place name.space spaces + 1) ++ (colon ∷ name.local)
  numbered_text e f = rw (e, f) refl

  name_back : has_space spaces name.space ≡ true → Named spaces name
  name_back h = elim (cases_Bool (bytes_eq name.space [])) [
    | inl e ↦ record {
      written = unprefixed_name name.local;
      stands = record { space_is = ap (λ z. Some z) (sym (eq_tells name.space [] e)); local_is = refl };
      lexed = subst (λ t. Lexes t (Name (unprefixed_name name.local) ∷ [])) (sym (bare_text e)) (lexed_bare name.local part);
    }
    | inr e ↦ elim (cases_Bool (bytes_eq name.space xml_space)) [
      | inl f ↦ record {
        written = record { prefix = codes "xml"; local = name.local };
        stands = record { space_is = ap (λ z. Some z) (sym (eq_tells name.space xml_space f)); local_is = refl };
        lexed = subst (λ t. Lexes t (name_token (codes "xml") name.local ∷ [])) (sym (xml_text e f))
            (lexed_prefixed (codes "xml") name.local xml_part part);
      }
      | inr f ↦
          let place = space_place name.space spaces in
          let among = second_holds (bytes_eq name.space xml_space) (list_any (bytes_eq name.space) spaces) f
          (second_holds (bytes_eq name.space []) (bytes_eq name.space xml_space || list_any (bytes_eq name.space) spaces) e h) in
          record {
            written = record { prefix = numbered_prefix (place + 1); local = name.local };
            stands = record { space_is = place_found name.space spaces 1 among; local_is = refl };
            lexed = subst (λ t. Lexes t (name_token (numbered_prefix (place + 1)) name.local ∷ [])) (sym (numbered_text e f))
                (lexed_prefixed (numbered_prefix (place + 1)) name.local (prefix_part (place + 1)) part);
          }
    ]
  ]

equals_literal : (value : List ℕ) → IsLiteral value → Lexes (codes "=" ++ literal_text value) (EqualsSign ∷ (Literal value ∷ []))
equals_literal value l = lexes_before equals_sign EqualsSign equals_is (literal_text value) (Literal value ∷ []) (lexed_literal value l)

equals_ends : (value : List ℕ) → EndsName (codes "=" ++ literal_text value)
equals_ends value = symbol_ends equals_sign EqualsSign equals_is (literal_text value)

attribute_back : (scope : Scope) (local value : List ℕ) → IsPart local → IsLiteral value
    → Forms Predicate (TakesComparison scope) (attribute_text local value) (Attr local value)
attribute_back scope local value p l = record {
  head = At;
  others = Name (unprefixed_name local) ∷ (EqualsSign ∷ (Literal value ∷ []));
  lexed = lexes_before (byte "@") At at_is (local ++ (codes "=" ++ literal_text value))
      (Name (unprefixed_name local) ∷ (EqualsSign ∷ (Literal value ∷ [])))
      (lexes_both local (codes "=" ++ literal_text value) (Name (unprefixed_name local) ∷ []) (EqualsSign ∷ (Literal value ∷ []))
      (lexed_bare local p) (equals_literal value l) (equals_ends value));
  takes = λ rest. inl (record { local = local; value = value; tokens_are = refl; means = refl });
}

child_back : (spaces : List (List ℕ)) (name : element.Name) (value : List ℕ) → Named spaces name → IsLiteral value
    → Forms Predicate (TakesComparison (numbered_scope spaces)) (child_text spaces name value) (Child name value)
child_back spaces name value n l = record {
  head = Name n.written;
  others = EqualsSign ∷ (Literal value ∷ []);
  lexed = lexes_both (name_text spaces name) (codes "=" ++ literal_text value) (Name n.written ∷ []) (EqualsSign ∷ (Literal value ∷ []))
      n.lexed (equals_literal value l) (equals_ends value);
  takes = λ rest. inr (record { written = n.written; name = name; value = value; tokens_are = refl; named = n.stands; means = refl });
}

-- (3) deeper rules

abbrev Within : {X : Type 0} → Rule X → Rule X → Type 0
Within {X} R S = (ts : List FilterToken) (x : X) (rest : List FilterToken) → R ts x rest → S ts x rest

module _ (R S : Rule Predicate) (leads : Within R S) where
  more_within : (word : FilterToken) (ts : List FilterToken) (xs : List Predicate) (rest : List FilterToken) → TakesMore word R ts xs rest
      → TakesMore word S ts xs rest
  more_within word ts [] rest h = h
  more_within word ts (x ∷ xs) rest h = (h.0, h.1, h.2, leads h.0 x h.1 h.3, more_within word h.1 xs rest h.4)

  joined_within : (join : List Predicate → Predicate) (word : FilterToken) → Within (TakesJoined join word R) (TakesJoined join word S)
  joined_within join word ts p rest d = record {
    first = d.first;
    others = d.others;
    mid = d.mid;
    one = leads ts d.first d.mid d.one;
    more = more_within word d.mid d.others rest d.more;
    means = d.means;
  }

ands_within : (R S : Rule Predicate) → Within R S → Within (TakesAnds R) (TakesAnds S)
ands_within R S leads = joined_within R S leads And and_word

ors_within : (R S : Rule Predicate) → Within R S → Within (TakesOrs R) (TakesOrs S)
ors_within R S leads = joined_within (TakesAnds R) (TakesAnds S) (ands_within R S leads) Or or_word

deeper : (scope : Scope) (n : ℕ) → Within (TakesFactor scope n) (TakesFactor scope (suc n))
deeper scope zero ts p rest h = inl h
deeper scope (suc n) ts p rest (inl c) = inl c
deeper scope (suc n) ts p rest (inr (inner, e, g)) =
    inr (inner, e, ors_within (TakesFactor scope n) (TakesFactor scope (suc n)) (deeper scope n) inner p (CloseParenthesis ∷ rest) g)

comparison_within : (scope : Scope) (n : ℕ) → Within (TakesComparison scope) (TakesFactor scope n)
comparison_within scope zero ts p rest h = h
comparison_within scope (suc n) ts p rest h = inl h

-- (4) predicates

abbrev has_spaces : List (List ℕ) → Predicate → Bool
has_spaces spaces p = has_each spaces (predicate_spaces p)

abbrev has_test_spaces : List (List ℕ) → Test → Bool
has_test_spaces spaces test = has_each spaces (test_spaces test)

-- what a rule takes from the tokens of a text is such, and tokens of a text are left
abbrev Gives : (X : Type 0) → Rule X → (X → Bool) → (X → Type 0) → Type 0
Gives X R has Q = (ts : List FilterToken) (x : X) (rest : List FilterToken) → R ts x rest → AreTokens ts → has x ≡ true
    → Q x × AreTokens rest

more_given : (X : Type 0) (R : Rule X) (has : X → Bool) (Q : X → Type 0) (word : FilterToken) → Gives X R has Q
    → (ts : List FilterToken) (xs : List X) (rest : List FilterToken) → TakesMore word R ts xs rest → AreTokens ts → list_all has xs ≡ true
    → Each Q xs × AreTokens rest
more_given X R has Q word gives ts [] rest h v all = (tt, subst AreTokens h v)
more_given X R has Q word gives ts (x ∷ xs) rest h v all =
    let have = and_parts (has x) (list_all has xs) all in
    let one = gives h.0 x h.1 h.3 (subst AreTokens h.2 v).1 have.0 in
    let others = more_given X R has Q word gives h.1 xs rest h.4 one.1 have.1 in
    ((one.0, others.0), others.1)

module _ (spaces : List (List ℕ)) where
  abbrev Factor : ℕ → Rule Predicate
  Factor n = TakesFactor (numbered_scope spaces) n

  -- what is printed of the predicate is parsed as it in each place
  record Stands (n : ℕ) (p : Predicate) : Type 0 where
    pub alone : Forms Predicate (TakesOrs (Factor n)) (predicate_text spaces p).alone p
    pub in_or : Forms Predicate (TakesAnds (Factor n)) (predicate_text spaces p).in_or p
    pub in_and : Forms Predicate (Factor n) (predicate_text spaces p).in_and p

  -- the same of parts that `and` and `or` join, without parentheses round them
  record IsAnds (n : ℕ) (p : Predicate) : Type 0 where
    pub parts : List Predicate
    pub is : p ≡ And parts
    pub forms : Forms Predicate (TakesAnds (Factor n)) (parts_text spaces Ands parts) p

  record IsOrs (n : ℕ) (p : Predicate) : Type 0 where
    pub parts : List Predicate
    pub is : p ≡ Or parts
    pub forms : Forms Predicate (TakesOrs (Factor n)) (parts_text spaces Ors parts) p

  abbrev AndPart : ℕ → Predicate → Type 0
  AndPart n p = Stands n p ⊎ IsAnds n p

  abbrev OrPart : ℕ → Predicate → Type 0
  OrPart n p = AndPart n p ⊎ IsOrs n p

  one_and : (n : ℕ) (text : List ℕ) (p : Predicate) → Forms Predicate (Factor n) text p → Forms Predicate (TakesAnds (Factor n)) text p
  one_and n = forms_one And and_word (Factor n)

  one_or : (n : ℕ) (text : List ℕ) (p : Predicate) → Forms Predicate (TakesAnds (Factor n)) text p
      → Forms Predicate (TakesOrs (Factor n)) text p
  one_or n = forms_one Or or_word (TakesAnds (Factor n))

  -- by what is printed in each place
  stands_by : (n : ℕ) (p : Predicate) (is : PredicateText) → predicate_text spaces p ≡ is → Forms Predicate (TakesOrs (Factor n)) is.alone p
      → Forms Predicate (TakesAnds (Factor n)) is.in_or p → Forms Predicate (Factor n) is.in_and p → Stands n p
  stands_by n p is e a b c = record {
    alone = subst (λ (t : PredicateText). Forms Predicate (TakesOrs (Factor n)) t.alone p) (sym e) a;
    in_or = subst (λ (t : PredicateText). Forms Predicate (TakesAnds (Factor n)) t.in_or p) (sym e) b;
    in_and = subst (λ (t : PredicateText). Forms Predicate (Factor n) t.in_and p) (sym e) c;
  }

  comparison_stands : (n : ℕ) (p : Predicate) (text : List ℕ) → predicate_text spaces p ≡ comparison_text text
      → Forms Predicate (TakesComparison (numbered_scope spaces)) text p → Stands n p
  comparison_stands n p text e f =
      let factor = forms_within Predicate (TakesComparison (numbered_scope spaces)) (Factor n) (comparison_within (numbered_scope spaces) n)
      text p f in
      stands_by n p (comparison_text text) e (one_or n text p (one_and n text p factor)) (one_and n text p factor) factor

  group_forms : (n : ℕ) (text : List ℕ) (p : Predicate) → Forms Predicate (TakesOrs (Factor n)) text p
      → Forms Predicate (Factor (suc n)) (group_text text) p
  group_forms n text p f = record {
    head = OpenParenthesis;
    others = f.head ∷ (f.others ++ (CloseParenthesis ∷ []));
    lexed = lexes_before (byte "(") OpenParenthesis open_is (text ++ codes ")") (f.head ∷ (f.others ++ (CloseParenthesis ∷ [])))
        (lexes_both text (codes ")") (f.head ∷ f.others) (CloseParenthesis ∷ []) f.lexed (symbol_alone (byte ")") CloseParenthesis close_is)
        (symbol_ends (byte ")") CloseParenthesis close_is []));
    takes = λ rest.
        inr (
          f.head ∷ ((f.others ++ (CloseParenthesis ∷ [])) ++ rest),
          refl,
          subst (λ ts. TakesOrs (Factor n) (f.head ∷ ts) p (CloseParenthesis ∷ rest))
              (sym (append_assoc f.others (CloseParenthesis ∷ []) rest))
              (f.takes (CloseParenthesis ∷ rest)),
        );
  }

  deeper_factor : (n : ℕ) (text : List ℕ) (p : Predicate) → Forms Predicate (Factor n) text p → Forms Predicate (Factor (suc n)) text p
  deeper_factor n = forms_within Predicate (Factor n) (Factor (suc n)) (deeper (numbered_scope spaces) n)

  deeper_ands : (n : ℕ) (text : List ℕ) (p : Predicate) → Forms Predicate (TakesAnds (Factor n)) text p
      → Forms Predicate (TakesAnds (Factor (suc n))) text p
  deeper_ands n =
      forms_within Predicate (TakesAnds (Factor n)) (TakesAnds (Factor (suc n)))
      (ands_within (Factor n) (Factor (suc n)) (deeper (numbered_scope spaces) n))

  deeper_ors : (n : ℕ) (text : List ℕ) (p : Predicate) → Forms Predicate (TakesOrs (Factor n)) text p
      → Forms Predicate (TakesOrs (Factor (suc n))) text p
  deeper_ors n =
      forms_within Predicate (TakesOrs (Factor n)) (TakesOrs (Factor (suc n)))
      (ors_within (Factor n) (Factor (suc n)) (deeper (numbered_scope spaces) n))

  -- in parentheses one level more is open
  group_stands : (n : ℕ) (p : Predicate) → OrPart n p → Stands (suc n) p
  group_stands n p (inl (inl s)) = record {
    alone = deeper_ors n (predicate_text spaces p).alone p s.alone;
    in_or = deeper_ands n (predicate_text spaces p).in_or p s.in_or;
    in_and = deeper_factor n (predicate_text spaces p).in_and p s.in_and;
  }
  group_stands n p (inl (inr a)) =
      let text = parts_text spaces Ands a.parts in
      stands_by (suc n) p (ands_text text) (ap (predicate_text spaces) a.is ∙ prints_and spaces a.parts)
      (one_or (suc n) text p (deeper_ands n text p a.forms)) (deeper_ands n text p a.forms) (group_forms n text p (one_or n text p a.forms))
  group_stands n p (inr o) =
      let text = parts_text spaces Ors o.parts in
      let group = group_forms n text p o.forms in
      stands_by (suc n) p (ors_text text) (ap (predicate_text spaces) o.is ∙ prints_or spaces o.parts) (deeper_ors n text p o.forms)
      (one_and (suc n) (group_text text) p group) group

  in_or_of : (n : ℕ) (p : Predicate) → AndPart n p → Forms Predicate (TakesAnds (Factor n)) (predicate_text spaces p).in_or p
  in_or_of n p (inl s) = s.in_or
  in_or_of n p (inr a) =
      subst (λ (t : PredicateText). Forms Predicate (TakesAnds (Factor n)) t.in_or p)
      (sym (ap (predicate_text spaces) a.is ∙ prints_and spaces a.parts)) a.forms

  alone_of : (n : ℕ) (p : Predicate) → OrPart n p → Forms Predicate (TakesOrs (Factor n)) (predicate_text spaces p).alone p
  alone_of n p (inl (inl s)) = s.alone
  alone_of n p (inl (inr a)) =
      subst (λ (t : PredicateText). Forms Predicate (TakesOrs (Factor n)) t.alone p)
      (sym (ap (predicate_text spaces) a.is ∙ prints_and spaces a.parts))
      (one_or n (parts_text spaces Ands a.parts) p a.forms)
  alone_of n p (inr o) =
      subst (λ (t : PredicateText). Forms Predicate (TakesOrs (Factor n)) t.alone p)
      (sym (ap (predicate_text spaces) o.is ∙ prints_or spaces o.parts)) o.forms

  module _ (scope : Scope) where
    abbrev Known : (n : ℕ) → Rule Predicate → (Predicate → Type 0) → Type 0
    Known n R Q = Gives Predicate R (has_spaces spaces) Q

    comparison_back : (n : ℕ) → Known n (TakesComparison scope) (Stands n)
    comparison_back n ts p rest (inl a) v has =
        let w : AreTokens (At ∷ (Name (unprefixed_name a.local) ∷ (EqualsSign ∷ (Literal a.value ∷ rest)))) = subst AreTokens
        a.tokens_are v in (
          comparison_stands n p (attribute_text a.local a.value) (ap (predicate_text spaces) a.means ∙ prints_attr spaces a.local a.value)
              (subst (Forms Predicate (TakesComparison (numbered_scope spaces)) (attribute_text a.local a.value)) (sym a.means)
              (attribute_back (numbered_scope spaces) a.local a.value w.1.0 w.1.1.1.0)),
          w.1.1.1.1,
        )
    comparison_back n ts p rest (inr c) v has =
        let w : AreTokens (Name c.written ∷ (EqualsSign ∷ (Literal c.value ∷ rest))) = subst AreTokens c.tokens_are v in
        let part : IsPart c.name.local = subst IsPart (sym c.named.local_is) w.0 in
        let space : has_space spaces c.name.space ≡ true = sym (had_child spaces c.name c.value) ∙ ap (has_spaces spaces) (sym c.means)
        ∙ has in (
          comparison_stands n p (child_text spaces c.name c.value) (ap (predicate_text spaces) c.means ∙ prints_child spaces c.name c.value)
              (subst (Forms Predicate (TakesComparison (numbered_scope spaces)) (child_text spaces c.name c.value)) (sym c.means)
              (child_back spaces c.name c.value (name_back spaces c.name part space) w.1.1.0)),
          w.1.1.1,
        )

    module _ (n : ℕ) (factor : Known n (TakesFactor scope n) (Stands n)) where
      ands_parts : (first : Predicate) (others : List Predicate) (p : Predicate) → p ≡ join_of And first others → Stands n first
          → Each (Stands n) others → AndPart n p
      ands_parts first [] p e s h = inl (subst (Stands n) (sym e) s)
      ands_parts first (q ∷ qs) p e s h = inr (record {
        parts = first ∷ (q ∷ qs);
        is = e;
        forms = subst (Forms Predicate (TakesAnds (Factor n)) (parts_text spaces Ands (first ∷ (q ∷ qs)))) (sym e)
            (forms_joined And and_word (Factor n) (codes " and ") and_is (λ x. (predicate_text spaces x).in_and) first q qs
            (each_from (Stands n) (λ x. Forms Predicate (Factor n) (predicate_text spaces x).in_and x) (λ x k. k.in_and) (first ∷ (q ∷ qs))
            (s, h)));
      })

      ors_parts : (first : Predicate) (others : List Predicate) (p : Predicate) → p ≡ join_of Or first others → AndPart n first
          → Each (AndPart n) others → OrPart n p
      ors_parts first [] p e s h = inl (subst (AndPart n) (sym e) s)
      ors_parts first (q ∷ qs) p e s h = inr (record {
        parts = first ∷ (q ∷ qs);
        is = e;
        forms = subst (Forms Predicate (TakesOrs (Factor n)) (parts_text spaces Ors (first ∷ (q ∷ qs)))) (sym e)
            (forms_joined Or or_word (TakesAnds (Factor n)) (codes " or ") or_is (λ x. (predicate_text spaces x).in_or) first q qs
            (each_from (AndPart n) (λ x. Forms Predicate (TakesAnds (Factor n)) (predicate_text spaces x).in_or x) (in_or_of n)
            (first ∷ (q ∷ qs)) (s, h)));
      })

      and_spaces : (first : Predicate) (others : List Predicate) → has_spaces spaces (join_of And first others) ≡ true
          → list_all (has_spaces spaces) (first ∷ others) ≡ true
      and_spaces first [] e = rw e refl
      and_spaces first (q ∷ qs) e = sym (had_and spaces (first ∷ (q ∷ qs))) ∙ e

      or_spaces : (first : Predicate) (others : List Predicate) → has_spaces spaces (join_of Or first others) ≡ true
          → list_all (has_spaces spaces) (first ∷ others) ≡ true
      or_spaces first [] e = rw e refl
      or_spaces first (q ∷ qs) e = sym (had_or spaces (first ∷ (q ∷ qs))) ∙ e

      and_back : Known n (TakesAnds (TakesFactor scope n)) (AndPart n)
      and_back ts p rest d v has =
          let all = and_parts (has_spaces spaces d.first) (list_all (has_spaces spaces) d.others)
          (and_spaces d.first d.others (ap (has_spaces spaces) (sym d.means) ∙ has)) in
          let one = factor ts d.first d.mid d.one v all.0 in
          let more = more_given Predicate (TakesFactor scope n) (has_spaces spaces) (Stands n) and_word factor d.mid d.others rest d.more
          one.1 all.1 in
          (ands_parts d.first d.others p d.means one.0 more.0, more.1)

      or_back : Known n (TakesOrs (TakesFactor scope n)) (OrPart n)
      or_back ts p rest d v has =
          let all = and_parts (has_spaces spaces d.first) (list_all (has_spaces spaces) d.others)
          (or_spaces d.first d.others (ap (has_spaces spaces) (sym d.means) ∙ has)) in
          let one = and_back ts d.first d.mid d.one v all.0 in
          let more = more_given Predicate (TakesAnds (TakesFactor scope n)) (has_spaces spaces) (AndPart n) or_word and_back d.mid d.others
          rest d.more
          one.1 all.1 in
          (ors_parts d.first d.others p d.means one.0 more.0, more.1)

    factor_back : (n : ℕ) → Known n (TakesFactor scope n) (Stands n)
    factor_back zero ts p rest h v has = comparison_back zero ts p rest h v has
    factor_back (suc n) ts p rest (inl c) v has = comparison_back (suc n) ts p rest c v has
    factor_back (suc n) ts p rest (inr (inner, e, g)) v has =
        let w : AreTokens (OpenParenthesis ∷ inner) = subst AreTokens e v in
        let part = or_back n (factor_back n) inner p (CloseParenthesis ∷ rest) g w.1 has in
        (group_stands n p part.0, part.1.1)

  -- (5) tests, where parentheses nest at most so deep

  module _ (scope : Scope) (depth : ℕ) where
    abbrev printed_scope : Scope
    printed_scope = numbered_scope spaces

    record PrintsTest (test : Test) : Type 0 where
      pub forms : Forms Test (TakesTest printed_scope depth) (test_text spaces test) test

    record Head (name : Option element.Name) : Type 0 where
      pub token : FilterToken
      pub asks : AsksFor printed_scope token name
      pub lexed : Lexes (test_name_text spaces name) (token ∷ [])

    head_back : (t : FilterToken) (name : Option element.Name) → AsksFor scope t name → IsToken t
        → has_each spaces (name_spaces name) ≡ true
        → Head name
    head_back t None e v has = record { token = Any; asks = refl; lexed = symbol_alone (byte "*") Any any_is }
    head_back t (Some name) (q, e, s) v has =
        let w : IsToken (Name q) = subst IsToken e v in
        let n = name_back spaces name (subst IsPart (sym s.local_is) w) (sym (and_true (has_space spaces name.space)) ∙ has) in
        record { token = Name n.written; asks = (n.written, refl, n.stands); lexed = n.lexed }

    record Tail (predicate : Option Predicate) : Type 0 where
      pub tokens : List FilterToken
      pub lexed : Lexes (brackets_text spaces predicate) tokens
      pub ends : EndsName (brackets_text spaces predicate)
      pub takes : (rest : List FilterToken) → TakesPredicate printed_scope depth (tokens ++ rest) predicate rest

    in_brackets : (p : Predicate) → Forms Predicate (TakesOrPart printed_scope depth) (predicate_text spaces p).alone p → Tail (Some p)
    in_brackets p f =
        let text = (predicate_text spaces p).alone in
        record {
          tokens = OpenBracket ∷ (f.head ∷ (f.others ++ (CloseBracket ∷ [])));
          lexed = lexes_before (byte "[") OpenBracket open_bracket_is (text ++ codes "]") (f.head ∷ (f.others ++ (CloseBracket ∷ [])))
              (lexes_both text (codes "]") (f.head ∷ f.others) (CloseBracket ∷ []) f.lexed (symbol_alone (byte "]") CloseBracket
              close_bracket_is)
              (symbol_ends (byte "]") CloseBracket close_bracket_is []));
          ends = symbol_ends (byte "[") OpenBracket open_bracket_is (text ++ codes "]");
          takes = λ rest. (
            f.head ∷ ((f.others ++ (CloseBracket ∷ [])) ++ rest),
            refl,
            subst (λ ts. TakesOrPart printed_scope depth (f.head ∷ ts) p (CloseBracket ∷ rest))
                (sym (append_assoc f.others (CloseBracket ∷ []) rest))
                (f.takes (CloseBracket ∷ rest)),
          );
        }

    tail_back : (ts : List FilterToken) (predicate : Option Predicate) (rest : List FilterToken)
        → TakesPredicate scope depth ts predicate rest
        → AreTokens ts
        → has_each spaces (brackets_spaces predicate) ≡ true → Tail predicate × AreTokens rest
    tail_back ts None rest e v has =
        (record { tokens = []; lexed = lexes_nothing; ends = nothing_ends; takes = λ rest. refl }, subst AreTokens e v)
    tail_back ts (Some p) rest (inner, e, g) v has =
        let w : AreTokens (OpenBracket ∷ inner) = subst AreTokens e v in
        let part = or_back scope depth (factor_back scope depth) inner p (CloseBracket ∷ rest) g w.1 has in
        (in_brackets p (alone_of depth p part.0), part.1.1)

    test_forms : (test : Test) → Head test.name → Tail test.predicate
        → Forms Test (TakesTest printed_scope depth) (test_text spaces test) test
    test_forms test h t = record {
      head = h.token;
      others = t.tokens;
      lexed = lexes_both (test_name_text spaces test.name) (brackets_text spaces test.predicate) (h.token ∷ []) t.tokens h.lexed
          t.lexed t.ends;
      takes = λ rest. record { head = h.token; after = t.tokens ++ rest; tokens_are = refl; asks = h.asks; holds = t.takes rest };
    }

    test_back : Gives Test (TakesTest scope depth) (has_test_spaces spaces)
        (λ test. Forms Test (TakesTest printed_scope depth) (test_text spaces test) test)
    test_back ts test rest d v has =
        let w : AreTokens (d.head ∷ d.after) = subst AreTokens d.tokens_are v in
        let have = and_parts (has_each spaces (name_spaces test.name)) (has_each spaces (brackets_spaces test.predicate))
        (sym (list_all-append (has_space spaces) (name_spaces test.name) (brackets_spaces test.predicate)) ∙ has) in
        let tail = tail_back d.after test.predicate rest d.holds w.1 have.1 in
        (test_forms test (head_back d.head test.name d.asks w.0 have.0) tail.0, tail.1)

    tests_written : (test : Test) (tests : List Test) (filter : Filter) → filter.tests ≡ test ∷ tests
        → FormsAll Test (codes " or ") or_word or_is (TakesTest printed_scope depth) (test_text spaces) test tests
        → WritesFilterWithin depth (filter_text spaces filter) printed_scope filter
    tests_written test tests filter is f =
        let t = f.takes [] in
        let text = joined_texts (codes " or ") (test_text spaces) (test ∷ tests) in
        record {
          tokens = f.head ∷ f.others;
          rest = [];
          lexed = subst (λ x. To Takes x (f.head ∷ f.others) [])
              (append-nil (chars text) ∙ ap (λ l. chars (joined_texts (codes " or ") (test_text spaces) l)) (sym is))
              (f.lexed.to [] tt);
          is_end = refl;
          filter_is = subst (AreTests printed_scope depth (f.head ∷ f.others)) (sym is)
              (t.0, subst (λ ts. TakesTest printed_scope depth (f.head ∷ ts) test t.0) (append-nil f.others) t.1, t.2);
        }

    tests_back : (ts : List FilterToken) (tests : List Test) (filter : Filter) → filter.tests ≡ tests → AreTests scope depth ts tests
        → AreTokens ts
        → list_all (has_test_spaces spaces) tests ≡ true → WritesFilterWithin depth (filter_text spaces filter) printed_scope filter
    tests_back ts [] filter is e v has = record {
      tokens = [];
      rest = [];
      lexed = ap (λ l. chars (joined_texts (codes " or ") (test_text spaces) l)) is ∙ chars-nil;
      is_end = refl;
      filter_is = subst (AreTests printed_scope depth []) (sym is) refl;
    }
    tests_back ts (test ∷ tests) filter is (mid, one, more) v has =
        let have = and_parts (has_test_spaces spaces test) (list_all (has_test_spaces spaces) tests) has in
        let first = test_back ts test mid one v have.0 in
        let others = more_given Test (TakesTest scope depth) (has_test_spaces spaces)
        (λ test. Forms Test (TakesTest printed_scope depth) (test_text spaces test) test) or_word test_back mid tests [] more first.1
        have.1 in
        tests_written test tests filter is
        (forms_all Test (codes " or ") or_word or_is (TakesTest printed_scope depth) (test_text spaces) test tests first.0 others.0)

pub nests_no_deeper : (spaces : List (List ℕ)) (filter : Filter) → HasSpaces spaces filter
    → NestsNoDeeper (filter_text spaces filter) spaces filter
nests_no_deeper spaces filter has depth can =
    tests_back spaces can.scope depth can.writes.tokens filter.tests filter refl can.writes.filter_is
    (are_tokens (chars can.text) can.writes.tokens can.writes.rest (scalars-chars can.text can.is_text) can.writes.lexed)
    (sym (all_joined (has_space spaces) test_spaces filter.tests) ∙ has)

pub printed_back : (spaces : List (List ℕ)) (filter : Filter) → HasSpaces spaces filter
    → WritesBack (filter_text spaces filter) spaces filter
printed_back spaces filter has = nests_no_deeper spaces filter has depth_limit

pub answered_back : (spaces : List (List ℕ)) (filter : Filter) → HasSpaces spaces filter → CanBeParsed filter
    → IsAnsweredBack (filter_text spaces filter) spaces filter
answered_back spaces filter has can (Ok parsed) h =
    one_filter (filter_text spaces filter) (numbered_scope spaces) parsed filter h (printed_back spaces filter has can)
answered_back spaces filter has can (Err (NotAFilter at)) h =
    absurd (stops_where_no_filter (filter_text spaces filter) (numbered_scope spaces) at h filter (printed_back spaces filter has can))
answered_back spaces filter has can (Err NoMemory) h = refl
