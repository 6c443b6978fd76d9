-- A filter that a text of a document's characters writes, where the namespaces in scope are those of a document, is fit. Plan:
-- (1) each token of such a text is fit: the local part of a name is a name part, and a literal is of characters;
-- (2) what is in scope, and the names that stand for something there; (3) the comparisons in a predicate, by what it is;
-- (4) what a rule takes of fit tokens is fit, and so are the tokens that are left: comparisons, groups, joined parts, tests;
-- (5) the filter.
use Rattle.std.proofs.Common.{◌≡◌, ◌∙◌, ℕ, zero, suc, Bool, true, false, cond, List, [], ◌∷◌, ◌++◌, Option, None, Some, IfSome, codes}
use Rattle.std.proofs.Common.{map, reverse, inl, inr, refl, ap, subst, sym}
use Rattle.std.proofs.lemmas.Bool.Decides.{not_from_Decides}
use Rattle.std.proofs.lemmas.Slice.Eq.{bytes_eq-Decides}
use Rattle.std.specs.Prelude.{◌==◌, encode_utf8_all, if◌then◌else◌}
use Rattle.std.specs.List.{AllByRecursion, filter, flat_map, starts_with}
use Rattle.std.specs.Map.{lookup}
use Rattle.std.specs.Str.{byte, bytes_eq, chars}
use Rattle.std.proofs.lemmas.List.Folds.{flat_map-map}
use Rattle.ifmap_lemmas.specs.Items.{To}
use Rattle.ifmap_lemmas.specs.Filters.{all_filter}
use Rattle.ifmap_lemmas.specs.Members.{all_of_test, both_all, map_of_all}
use Rattle.ifmap_lemmas.specs.Texts.{ascii_encoded, is_ascii}
use Rattle.ifmap_lemmas.specs.Joined.{all_reversed}
use Rattle.ifmap_lemmas.specs.Branches.{if_either}
use Rattle.ifmap_elem.specs.Chars.{AllAre, IsCharacters, colon, equals_sign, is_character, is_white}
use Rattle.ifmap_elem.specs.Fit.{IsFitName, IsNamespace}
use Rattle.ifmap_elem.specs.Names.{IsNamePart, is_name_character, is_name_start}
use Rattle.ifmap_elem.specs.InScope.{binding_told}
use Rattle.ifmap_elem.specs.Scopes.{Binding, xml_space, xmlns_space, row_of_binding}
use Rattle.ifmap_elem.specs.declared.elements.Name as element
use Rattle.ifmap_elem.specs.declared.readings.Declared.{Declared}
use Rattle.ifmap_elem.specs.declared.tokens.Qualified.{Qualified}
use Rattle.ifmap_ident.specs.ifmap_reader.declared.scoping.Scope.{Scope}
use Rattle.ifmap_forms.specs.ifmap_filter.declared.filters.Predicate.{Predicate, Attr, Child, And, Or, fold-roll-Predicate}
use Rattle.ifmap_forms.specs.ifmap_filter.declared.filters.Predicate.TheVariants.{rolls-Attr, rolls-Child, rolls-And, rolls-Or}
use Rattle.ifmap_forms.specs.ifmap_filter.declared.filters.Predicate.TheOpen.{Predicate-F}
use Rattle.ifmap_forms.specs.ifmap_filter.declared.filters.Test.{Test}
use Rattle.ifmap_forms.specs.ifmap_filter.declared.filters.Filter.{Filter}
use Rattle.ifmap_forms.specs.ifmap_filter.declared.tokens.FilterToken.{FilterToken}
use Rattle.ifmap_forms.specs.ifmap_filter.declared.tokens.FilterToken.TheVariants.{Any, OpenBracket, CloseBracket, OpenParenthesis, CloseParenthesis}
use Rattle.ifmap_forms.specs.ifmap_filter.declared.tokens.FilterToken.TheVariants.{EqualsSign, At, Name, Literal}
use Rattle.ifmap_forms.specs.ifmap_filter.FrontLaws.{front_passes}
use Rattle.ifmap_forms.specs.ifmap_filter.Grammar.{AreTests, AsksFor, Rule, StandsFor, TakesAnds, TakesComparison, TakesFactor, TakesGroup, TakesJoined}
use Rattle.ifmap_forms.specs.ifmap_filter.Grammar.{TakesMore, TakesOrs, TakesPredicate, TakesTest, and_word, join_of, or_word, space_of}
use Rattle.ifmap_forms.specs.ifmap_filter.Texts.{WritesFilter}
use Rattle.ifmap_forms.specs.ifmap_filter.Tokens.{FrontToken, Takes, after_while, closed_literal, front_token, front_while}
use Rattle.ifmap_forms.specs.ifmap_filter.Tokens.{literal_at, name_at, name_from, name_token, part_bytes, prefixed_name_at, symbol_of, token_at}
use Rattle.ifmap_forms.specs.ifmap_filter.Tokens.{with_symbol, without_white}
use Rattle.ifmap_forms.specs.Scopes.{scopes_by}
use Rattle.ifmap_requests.specs.FitFilters.{Comparison, IsFitComparison, IsFitFilter, IsFitPredicate, IsFitTest, comparison, comparisons}
use Rattle.ifmap_requests.specs.FitFilters.{comparisons_of}
use Rattle.ifmap_requests.proofs.Characters.{are_characters}
use Rattle.ifmap_elem.specs.laws.CharacterLaws.{characters_are_utf8}
use Rattle.ifmap_elem.specs.laws.NameBytes.{starts_are_characters}
use Rattle.ifmap_elem.specs.laws.FitLaws.{no_namespace}
use Rattle.ifmap_ident.specs.ifmap_lexer.Cutting.{is_but}
use Rattle.ifmap_ident.specs.ifmap_lexer.There.{is_quote}

-- ---- (1) tokens

abbrev IsFitToken : FilterToken → Type 0
IsFitToken (Name q) = IsNamePart q.local
IsFitToken (Literal value) = IsCharacters value
IsFitToken _ = Unit {0}

abbrev AreFitTokens : List FilterToken → Type 0
AreFitTokens ts = AllByRecursion IsFitToken ts

abbrev AreCharacters : List ℕ → Type 0
AreCharacters cs = AllAre is_character cs

-- a token at the front is fit, and what is left is characters
abbrev IsFitFront : Option FrontToken → Type 0
IsFitFront None = Unit {0}
IsFitFront (Some k) = IsFitToken k.token × AreCharacters k.rest

module _ (p : ℕ → Bool) where
  front_fit : (cs : List ℕ) → AreCharacters cs → AreCharacters (front_while p cs)
  front_fit [] f = tt
  front_fit (c ∷ cs) f =
      if_either AreCharacters (p c) (c ∷ front_while p cs) [] (λ e. (f.0, front_fit cs f.1)) (λ e. tt)

  after_fit : (cs : List ℕ) → AreCharacters cs → AreCharacters (after_while p cs)
  after_fit [] f = tt
  after_fit (c ∷ cs) f = if_either AreCharacters (p c) (after_while p cs) (c ∷ cs) (λ e. after_fit cs f.1) (λ e. f)

part_fit : (c : ℕ) (cs : List ℕ) → is_name_start c ≡ true → IsNamePart (part_bytes (c ∷ cs))
part_fit c cs starts =
    let front : front_while is_name_character (c ∷ cs) ≡ c ∷ front_while is_name_character cs = rw (starts_are_characters c starts) refl in
    record {
      first = c;
      others = front_while is_name_character cs;
      bytes_are = ap encode_utf8_all (sym front);
      begins = starts;
      goes_on = front_passes is_name_character cs;
    }

closed_fit : (own closed : List ℕ) → AreCharacters own → AreCharacters closed → IsFitFront (closed_literal own closed)
closed_fit own [] f g = tt
closed_fit own (quote ∷ rest) f g = ((own, refl, f), g.1)

literal_fit : (quote : ℕ) (cs : List ℕ) → AreCharacters cs → IsFitFront (literal_at quote cs)
literal_fit quote cs f =
    closed_fit (front_while (is_but quote) cs) (after_while (is_but quote) cs) (front_fit (is_but quote) cs f)
    (after_fit (is_but quote) cs f)

prefixed_fit : (prefix cs : List ℕ) → AreCharacters cs → IsFitFront (prefixed_name_at prefix cs)
prefixed_fit prefix [] f = tt
prefixed_fit prefix (c ∷ cs) f =
    if_either IsFitFront (is_name_start c)
    (Some (front_token (name_token prefix (part_bytes (c ∷ cs))) (after_while is_name_character (c ∷ cs)))) None
    (λ starts. (part_fit c cs starts, after_fit is_name_character (c ∷ cs) f)) (λ e. tt)

from_fit : (part cs : List ℕ) → IsNamePart part → AreCharacters cs → IsFitFront (name_from part cs)
from_fit part [] p f = (p, tt)
from_fit part (c ∷ cs) p f =
    if_either IsFitFront (c == colon) (prefixed_name_at part cs) (Some (front_token (name_token [] part) (c ∷ cs)))
    (λ e. prefixed_fit part cs f.1) (λ e. (p, f))

name_fit : (c : ℕ) (cs : List ℕ) → is_name_start c ≡ true → AreCharacters (c ∷ cs) → IsFitFront (name_at (c ∷ cs))
name_fit c cs starts f =
    from_fit (part_bytes (c ∷ cs)) (after_while is_name_character (c ∷ cs)) (part_fit c cs starts)
    (after_fit is_name_character (c ∷ cs) f)

-- a token of one character has nothing that need be fit
abbrev MayBeFitToken : Option FilterToken → Type 0
MayBeFitToken t = IfSome t IsFitToken

symbol_or : (b : Bool) (t : FilterToken) (others : Option FilterToken) → IsFitToken t → MayBeFitToken others
    → MayBeFitToken (if b then Some t else others)
symbol_or true t others f g = f
symbol_or false t others f g = g

symbol_fit : (c : ℕ) → MayBeFitToken (symbol_of c)
symbol_fit c =
    symbol_or (c == byte "*") Any _ tt (symbol_or (c == byte "[") OpenBracket _ tt (symbol_or (c == byte "]") CloseBracket _ tt
    (symbol_or (c == byte "(") OpenParenthesis _ tt (symbol_or (c == byte ")") CloseParenthesis _ tt
    (symbol_or (c == equals_sign) EqualsSign _ tt (symbol_or (c == byte "@") At None tt tt))))))

with_symbol_fit : (cs : List ℕ) (t : Option FilterToken) → MayBeFitToken t → AreCharacters cs → IsFitFront (with_symbol cs t)
with_symbol_fit cs None s f = tt
with_symbol_fit cs (Some t) s f = (s, f)

token_fit : (cs : List ℕ) → AreCharacters cs → IsFitFront (token_at cs)
token_fit [] f = tt
token_fit (c ∷ cs) f =
    if_either IsFitFront (is_quote c) (literal_at c cs) (if is_name_start c then name_at (c ∷ cs) else with_symbol cs (symbol_of c))
    (λ e. literal_fit c cs f.1)
    (λ e. if_either IsFitFront (is_name_start c) (name_at (c ∷ cs)) (with_symbol cs (symbol_of c)) (λ starts. name_fit c cs starts f)
    (λ other. with_symbol_fit cs (symbol_of c) (symbol_fit c) f.1))

taken_fit : (cs : List ℕ) (t : FilterToken) (rest : List ℕ) → AreCharacters cs → Takes cs t rest → IsFitToken t × AreCharacters rest
taken_fit cs t rest f takes = subst IsFitFront takes (token_fit (without_white cs) (after_fit is_white cs f))

tokens_fit : (cs : List ℕ) (ts : List FilterToken) (rest : List ℕ) → AreCharacters cs → To Takes cs ts rest → AreFitTokens ts
tokens_fit cs [] rest f l = tt
tokens_fit cs (t ∷ ts) rest f l =
    let first = taken_fit cs t l.0 f l.1 in
    (first.0, tokens_fit l.0 ts rest first.1 l.2)

-- ---- (2) names in a scope

abbrev IsFitRow : List ℕ × List ℕ → Type 0
IsFitRow row = IsNamespace row.1

-- each namespace in scope is one that a document can have
abbrev pub IsFitScope : Scope → Type 0
IsFitScope scope = AllByRecursion IsFitRow scope.rows

-- and each that is declared
abbrev pub AreFitDeclared : List Declared → Type 0
AreFitDeclared declared = AllByRecursion (λ d. IsNamespace d.space) declared

abbrev IsFitBinding : Binding → Type 0
IsFitBinding b = IsNamespace b.space

pub scopes_fit : (declared : List Declared) → AreFitDeclared declared → (path inner : List ℕ)
    → IsFitScope (scopes_by declared path inner)
scopes_fit declared f path inner =
    let here = filter (λ (d : Declared). starts_with ◌==◌ (path ++ inner) d.path) declared in
    let left = all_filter (λ (d : Declared). IsNamespace d.space) (λ d. starts_with ◌==◌ (path ++ inner) d.path) declared f in
    map_of_all IsFitRow row_of_binding (reverse (map binding_told here))
    (all_reversed IsFitBinding (map binding_told here) (map_of_all IsFitBinding binding_told here left))

xml_namespace : IsNamespace xml_space
xml_namespace = record {
  characters = (xml_space, ascii_encoded xml_space (all_of_test is_ascii xml_space refl), all_of_test is_character xml_space refl);
  not_reserved = not_from_Decides _ (bytes_eq-Decides xml_space xmlns_space) refl;
}

abbrev MayBeNamespace : Option (List ℕ) → Type 0
MayBeNamespace space = IfSome space IsNamespace

row_or : (b : Bool) (space : List ℕ) (others : Option (List ℕ)) → IsNamespace space → MayBeNamespace others
    → MayBeNamespace (cond b (Some space) others)
row_or true space others f g = f
row_or false space others f g = g

lookup_fit : (test : List ℕ → Bool) (rows : List (List ℕ × List ℕ)) → AllByRecursion IsFitRow rows → MayBeNamespace (lookup test rows)
lookup_fit test [] f = tt
lookup_fit test (row ∷ rows) f = row_or (test row.0) row.1 (lookup test rows) f.0 (lookup_fit test rows f.1)

module _ (scope : Scope) (f : IsFitScope scope) where
  space_fit : (prefix : List ℕ) → MayBeNamespace (space_of scope prefix)
  space_fit [] = no_namespace
  space_fit (b ∷ bs) =
      if_either MayBeNamespace (bytes_eq (b ∷ bs) (codes "xml")) (Some xml_space) (lookup (bytes_eq (b ∷ bs)) scope.rows)
      (λ e. xml_namespace) (λ e. lookup_fit (bytes_eq (b ∷ bs)) scope.rows f)

  named_fit : (q : Qualified) (name : element.Name) → IsNamePart q.local → StandsFor scope q name → IsFitName name
  named_fit q name part is = record {
    space = subst MayBeNamespace is.space_is (space_fit q.prefix);
    local = subst IsNamePart (sym is.local_is) part;
  }

-- ---- (3) the comparisons in a predicate

attribute_is : (local value : List ℕ) → comparisons (Attr local value) ≡ comparison (record { space = []; local = local }) value ∷ []
attribute_is local value =
    ap comparisons (sym (rolls-Attr local value)) ∙ fold-roll-Predicate (List Comparison) comparisons_of (Predicate-F.Attr local value)

child_is : (name : element.Name) (value : List ℕ) → comparisons (Child name value) ≡ comparison name value ∷ []
child_is name value =
    ap comparisons (sym (rolls-Child name value)) ∙ fold-roll-Predicate (List Comparison) comparisons_of (Predicate-F.Child name value)

and_is : (parts : List Predicate) → comparisons (And parts) ≡ flat_map comparisons parts
and_is parts =
    ap comparisons (sym (rolls-And parts)) ∙ fold-roll-Predicate (List Comparison) comparisons_of (Predicate-F.And parts)
    ∙ flat_map-map (λ part. part) comparisons parts

or_is : (parts : List Predicate) → comparisons (Or parts) ≡ flat_map comparisons parts
or_is parts =
    ap comparisons (sym (rolls-Or parts)) ∙ fold-roll-Predicate (List Comparison) comparisons_of (Predicate-F.Or parts)
    ∙ flat_map-map (λ part. part) comparisons parts

abbrev AreFitParts : List Predicate → Type 0
AreFitParts parts = AllByRecursion IsFitPredicate parts

parts_fit : (parts : List Predicate) → AreFitParts parts → AllByRecursion IsFitComparison (flat_map comparisons parts)
parts_fit [] f = tt
parts_fit (p ∷ parts) f = both_all IsFitComparison (comparisons p) (flat_map comparisons parts) f.0 (parts_fit parts f.1)

and_fit : (parts : List Predicate) → AreFitParts parts → IsFitPredicate (And parts)
and_fit parts f = subst (AllByRecursion IsFitComparison) (sym (and_is parts)) (parts_fit parts f)

or_fit : (parts : List Predicate) → AreFitParts parts → IsFitPredicate (Or parts)
or_fit parts f = subst (AllByRecursion IsFitComparison) (sym (or_is parts)) (parts_fit parts f)

-- ---- (4) rules

module _ {X : Type 0} where
  -- what the rule takes of fit tokens is such, and the tokens that are left are fit
  abbrev Keeps : Rule X → (X → Type 0) → Type 0
  Keeps R P = (ts : List FilterToken) (x : X) (rest : List FilterToken) → AreFitTokens ts → R ts x rest → P x × AreFitTokens rest

  more_fit : (word : FilterToken) (Part : Rule X) (P : X → Type 0) → Keeps Part P
      → (ts : List FilterToken) (xs : List X) (rest : List FilterToken)
      → AreFitTokens ts → TakesMore word Part ts xs rest → AllByRecursion P xs × AreFitTokens rest
  more_fit word Part P keeps ts [] rest f m = (tt, subst AreFitTokens m f)
  more_fit word Part P keeps ts (x ∷ xs) rest f m =
      let after = (subst AreFitTokens m.2 f).1 in
      let one = keeps m.0 x m.1 after m.3 in
      let others = more_fit word Part P keeps m.1 xs rest one.1 m.4 in
      ((one.0, others.0), others.1)

module _ (join : List Predicate → Predicate) (joins : (parts : List Predicate) → AreFitParts parts → IsFitPredicate (join parts)) where
  join_fit : (first : Predicate) (others : List Predicate) → IsFitPredicate first → AreFitParts others
      → IsFitPredicate (join_of join first others)
  join_fit first [] f g = f
  join_fit first (p ∷ ps) f g = joins (first ∷ (p ∷ ps)) (f, g)

  joined_fit : (word : FilterToken) (Part : Rule Predicate) → Keeps Part IsFitPredicate → Keeps (TakesJoined join word Part) IsFitPredicate
  joined_fit word Part keeps ts p rest f t =
      let one = keeps ts t.first t.mid f t.one in
      let others = more_fit word Part IsFitPredicate keeps t.mid t.others rest one.1 t.more in
      (subst IsFitPredicate (sym t.means) (join_fit t.first t.others one.0 others.0), others.1)

group_fit : (Inner : Rule Predicate) → Keeps Inner IsFitPredicate → Keeps (TakesGroup Inner) IsFitPredicate
group_fit Inner keeps ts p rest f g =
    let inside = keeps g.0 p (CloseParenthesis ∷ rest) (subst AreFitTokens g.1 f).1 g.2 in
    (inside.0, inside.1.1)

module _ (scope : Scope) (s : IsFitScope scope) where
  comparison_fit : Keeps (TakesComparison scope) IsFitPredicate
  comparison_fit ts p rest f (inl a) =
      let tokens = subst AreFitTokens a.tokens_are f in
      let name : IsFitName (record { space = []; local = a.local }) = record { space = no_namespace; local = tokens.1.0 } in
      let one : IsFitComparison (comparison (record { space = []; local = a.local }) a.value) =
      record { name = name; value = tokens.1.1.1.0 } in
      let all : IsFitPredicate (Attr a.local a.value) =
      subst (AllByRecursion IsFitComparison) (sym (attribute_is a.local a.value)) (one, tt) in
      (subst IsFitPredicate (sym a.means) all, tokens.1.1.1.1)
  comparison_fit ts p rest f (inr c) =
      let tokens = subst AreFitTokens c.tokens_are f in
      let one : IsFitComparison (comparison c.name c.value) =
      record { name = named_fit scope s c.written c.name tokens.0 c.named; value = tokens.1.1.0 } in
      let all : IsFitPredicate (Child c.name c.value) =
      subst (AllByRecursion IsFitComparison) (sym (child_is c.name c.value)) (one, tt) in
      (subst IsFitPredicate (sym c.means) all, tokens.1.1.1)

  ors_fit : (Factor : Rule Predicate) → Keeps Factor IsFitPredicate → Keeps (TakesOrs Factor) IsFitPredicate
  ors_fit Factor keeps = joined_fit Or or_fit or_word (TakesAnds Factor) (joined_fit And and_fit and_word Factor keeps)

  factor_fit : (depth : ℕ) → Keeps (TakesFactor scope depth) IsFitPredicate
  factor_fit zero ts p rest f t = comparison_fit ts p rest f t
  factor_fit (suc n) ts p rest f (inl t) = comparison_fit ts p rest f t
  factor_fit (suc n) ts p rest f (inr t) =
      group_fit (TakesOrs (TakesFactor scope n)) (ors_fit (TakesFactor scope n) (factor_fit n)) ts p rest f t

  asked_fit : (head : FilterToken) (name : Option element.Name) → IsFitToken head → AsksFor scope head name → IfSome name IsFitName
  asked_fit head None f a = tt
  asked_fit head (Some name) f a = named_fit scope s a.0 name (subst IsFitToken a.1 f) a.2

  module _ (depth : ℕ) where
    brackets_fit : (ts : List FilterToken) (p : Option Predicate) (rest : List FilterToken) → AreFitTokens ts
        → TakesPredicate scope depth ts p rest
        → IfSome p IsFitPredicate × AreFitTokens rest
    brackets_fit ts None rest f t = (tt, subst AreFitTokens t f)
    brackets_fit ts (Some p) rest f t =
        let inside = ors_fit (TakesFactor scope depth) (factor_fit depth) t.0 p (CloseBracket ∷ rest) (subst AreFitTokens t.1 f).1 t.2 in
        (inside.0, inside.1.1)

    test_fit : Keeps (TakesTest scope depth) IsFitTest
    test_fit ts test rest f t =
        let tokens = subst AreFitTokens t.tokens_are f in
        let brackets = brackets_fit t.after test.predicate rest tokens.1 t.holds in
        (record { name = asked_fit t.head test.name tokens.0 t.asks; predicate = brackets.0 }, brackets.1)

    tests_fit : (ts : List FilterToken) (tests : List Test) → AreFitTokens ts → AreTests scope depth ts tests
        → AllByRecursion IsFitTest tests
    tests_fit ts [] f t = tt
    tests_fit ts (test ∷ tests) f t =
        let one = test_fit ts test t.0 f t.1 in
        (one.0, (more_fit or_word (TakesTest scope depth) IsFitTest test_fit t.0 tests [] one.1 t.2).0)

  -- ---- (5) the filter

  pub filter_fit : (text : List ℕ) (filter : Filter) → IsCharacters text → WritesFilter text scope filter → IsFitFilter filter
  filter_fit text filter is w = record {
    tests = tests_fit _ w.tokens filter.tests (tokens_fit (chars text) w.tokens w.rest (are_characters text is) w.lexed) w.filter_is;
    written = record { text = text; scope = scope; is_text = characters_are_utf8 text is; writes = w };
  }
