-- What a text writes in one scope it writes in each scope in which names that stand for something stand for the same: rule by rule.
use Rattle.std.proofs.Common.{ℕ, zero, suc, List, [], ◌∷◌, Option, None, Some, inl, inr}
use Rattle.ifmap_elem.specs.declared.elements.Name as element
use Rattle.ifmap_elem.specs.declared.tokens.Qualified.{Qualified}
use Rattle.ifmap_ident.specs.ifmap_reader.declared.scoping.Scope.{Scope}
use Rattle.ifmap_filter.specs.declared.filters.Predicate.{Predicate, And, Or}
use Rattle.ifmap_filter.specs.declared.filters.Test.{Test}
use Rattle.ifmap_filter.specs.declared.filters.Filter.{Filter}
use Rattle.ifmap_filter.specs.declared.tokens.FilterToken.{FilterToken}
use Rattle.ifmap_filter.specs.declared.tokens.FilterToken.TheVariants.{CloseBracket, CloseParenthesis}
use Rattle.ifmap_filter.specs.Grammar.{AreTests, AsksFor, Rule, StandsFor, TakesAnds, TakesComparison, TakesFactor, TakesJoined, TakesMore}
use Rattle.ifmap_filter.specs.Grammar.{TakesOrs, TakesPredicate, TakesTest, and_word, depth_limit, or_word}
use Rattle.ifmap_filter.specs.Texts.{WritesFilter}

more_in : {X : Type 0} (word : FilterToken) (Part Other : Rule X) → ((ts : List FilterToken) (x : X) (rest : List FilterToken)
    → Part ts x rest
    → Other ts x rest) → (ts : List FilterToken) (xs : List X) (rest : List FilterToken) → TakesMore word Part ts xs rest
    → TakesMore word Other ts xs rest
more_in word Part Other f ts [] rest m = m
more_in word Part Other f ts (x ∷ xs) rest m =
    (m.0, m.1, m.2, f m.0 x m.1 m.3, more_in word Part Other f m.1 xs rest m.4)

joined_in : (join : List Predicate → Predicate) (word : FilterToken) (Part Other : Rule Predicate)
    → ((ts : List FilterToken) (p : Predicate) (rest : List FilterToken) → Part ts p rest → Other ts p rest)
    → (ts : List FilterToken) (p : Predicate)
    (rest : List FilterToken) → TakesJoined join word Part ts p rest → TakesJoined join word Other ts p rest
joined_in join word Part Other f ts p rest j = record {
  first = j.first;
  others = j.others;
  mid = j.mid;
  one = f ts j.first j.mid j.one;
  more = more_in word Part Other f j.mid j.others rest j.more;
  means = j.means;
}

ors_in : (Factor Other : Rule Predicate) → ((ts : List FilterToken) (p : Predicate) (rest : List FilterToken) → Factor ts p rest
    → Other ts p rest)
    → (ts : List FilterToken) (p : Predicate) (rest : List FilterToken) → TakesOrs Factor ts p rest → TakesOrs Other ts p rest
ors_in Factor Other f =
    joined_in Or or_word (TakesAnds Factor) (TakesAnds Other) (joined_in And and_word Factor Other f)

module _ (one other : Scope) (wider : (q : Qualified) (name : element.Name) → StandsFor one q name → StandsFor other q name) where
  comparison_in : (ts : List FilterToken) (p : Predicate) (rest : List FilterToken) → TakesComparison one ts p rest
      → TakesComparison other ts p rest
  comparison_in ts p rest (inl a) = inl a
  comparison_in ts p rest (inr c) = inr (record {
    written = c.written;
    name = c.name;
    value = c.value;
    tokens_are = c.tokens_are;
    named = wider c.written c.name c.named;
    means = c.means;
  })

  factor_in : (depth : ℕ) (ts : List FilterToken) (p : Predicate) (rest : List FilterToken) → TakesFactor one depth ts p rest
      → TakesFactor other depth ts p rest
  factor_in zero ts p rest c = comparison_in ts p rest c
  factor_in (suc n) ts p rest (inl c) = inl (comparison_in ts p rest c)
  factor_in (suc n) ts p rest (inr g) =
      inr (g.0, g.1, ors_in (TakesFactor one n) (TakesFactor other n) (factor_in n) g.0 p (CloseParenthesis ∷ rest) g.2)

  predicate_in : (depth : ℕ) (ts : List FilterToken) (o : Option Predicate) (rest : List FilterToken) → TakesPredicate one depth ts o rest
      → TakesPredicate other depth ts o rest
  predicate_in depth ts None rest m = m
  predicate_in depth ts (Some p) rest m =
      (m.0, m.1, ors_in (TakesFactor one depth) (TakesFactor other depth) (factor_in depth) m.0 p (CloseBracket ∷ rest) m.2)

  asks_in : (t : FilterToken) (o : Option element.Name) → AsksFor one t o → AsksFor other t o
  asks_in t None h = h
  asks_in t (Some name) h = (h.0, h.1, wider h.0 name h.2)

  test_in : (depth : ℕ) (ts : List FilterToken) (test : Test) (rest : List FilterToken) → TakesTest one depth ts test rest
      → TakesTest other depth ts test rest
  test_in depth ts test rest t = record {
    head = t.head;
    after = t.after;
    tokens_are = t.tokens_are;
    asks = asks_in t.head test.name t.asks;
    holds = predicate_in depth t.after test.predicate rest t.holds;
  }

  tests_in : (depth : ℕ) (ts : List FilterToken) (tests : List Test) → AreTests one depth ts tests → AreTests other depth ts tests
  tests_in depth ts [] h = h
  tests_in depth ts (test ∷ tests) h = (
    h.0,
    test_in depth ts test h.0 h.1,
    more_in or_word (TakesTest one depth) (TakesTest other depth) (test_in depth) h.0 tests [] h.2,
  )

  pub writes_in : (text : List ℕ) (filter : Filter) → WritesFilter text one filter → WritesFilter text other filter
  writes_in text filter w = record {
    tokens = w.tokens;
    rest = w.rest;
    lexed = w.lexed;
    is_end = w.is_end;
    filter_is = tests_in depth_limit w.tokens filter.tests w.filter_is;
  }
