-- (1) What ends at a place, and (2) that from each place some filter goes on.
use Rattle.std.proofs.Common.{◌≡◌, ℕ, zero, suc, List, [], ◌∷◌, ◌++◌, refl, ap, sym, ◌∙◌, subst, inl, inr, Option, Some, None}
use Rattle.std.specs.Prelude.{◌↔◌}
use Rattle.std.proofs.lemmas.List.{append-nil}
use Rattle.ifmap_elem.specs.declared.elements.Name as element
use Rattle.ifmap_prefixes.specs.ifmap_reader.declared.scoping.Scope.{Scope}
use Rattle.ifmap_filter.specs.declared.filters.Predicate.{Predicate, And, Attr, Or}
use Rattle.ifmap_filter.specs.declared.filters.Test.{Test}
use Rattle.ifmap_filter.specs.declared.filters.Filter.{Filter}
use Rattle.ifmap_filter.specs.declared.progress.OuterPart.{OuterPart}
use Rattle.ifmap_filter.specs.declared.progress.Operand.{Operand}
use Rattle.ifmap_filter.specs.declared.progress.Operand.TheVariants as operand
use Rattle.ifmap_filter.specs.declared.tokens.FilterToken.{FilterToken}
use Rattle.ifmap_filter.specs.declared.tokens.FilterToken.TheVariants.{Any, CloseBracket, CloseParenthesis, EqualsSign, At, Name, Literal}
use Rattle.ifmap_filter.specs.Grammar.{AreTests, IsFilter, TakesAnds, TakesFactor, TakesMore, TakesPredicate, TakesTest, and_word, unprefixed_name, depth_limit, or_word}
use Rattle.ifmap_filter.specs.Progress.{ClosesOpenParts, Context, FilterState, Start, TestDue, Named, Tested, FactorDue, LocalDue, EqualsDue, LiteralDue, FactorDone, AfterFactor, IsFilterFrom, MoreTests, PredicateFirst, TestFirst, comparison_of, done_part, join_parts, test_of, filter_at, with_factor}
use Rattle.ifmap_filter.proofs.Continuing.{no_more}

module _ (scope : Scope) where
  -- (1) what ends

  -- the filter that ends at a place, or none does
  abbrev pub EndsAt : ℕ → FilterState → Option Filter → Type 0
  EndsAt n w None = (filter : Filter) → IsFilterFrom scope filter n w [] → ⊥
  EndsAt n w (Some f) = (filter : Filter) → IsFilterFrom scope filter n w [] ↔ (filter ≡ f)

  nothing_more : (filter : Filter) (done : List Test) → MoreTests scope filter done [] ↔ (filter ≡ record { tests = done })
  nothing_more filter done = (
    (λ (tests, takes, is). from tests takes is),
    (λ e. ([], refl, ap (λ (f : Filter). f.tests) e ∙ sym (append-nil done))),
  )
    where
      from : (tests : List Test) → TakesMore or_word (TakesTest scope depth_limit) [] tests [] → filter.tests ≡ done ++ tests
          → filter ≡ record { tests = done }
      from [] e is = let same : filter.tests ≡ done = is ∙ append-nil done in (λ i. record { tests = same i })
      from (test ∷ tests) (after, mid, e, takes, others) is = cc

  no_test : (filter : Filter) (done : List Test) → TestFirst scope filter done [] → ⊥
  no_test filter done (test, mid, takes, rest) = let e : [] ≡ takes.head ∷ takes.after = takes.tokens_are in cc

  nothing_named : (filter : Filter) (done : List Test) (name : Option element.Name)
      → PredicateFirst scope filter done name [] ↔ (filter ≡ record { tests = done ++ test_of name None ∷ [] })
  nothing_named filter done name = (
    (λ (p, mid, takes, rest). from p mid takes rest),
    (λ e. (None, [], refl, (nothing_more filter (done ++ test_of name None ∷ [])).1 e)),
  )
    where
      from : (p : Option Predicate) (mid : List FilterToken) → TakesPredicate scope depth_limit [] p mid
          → MoreTests scope filter (done ++ test_of name p ∷ []) mid
          → filter ≡ record { tests = done ++ test_of name None ∷ [] }
      from None mid e rest =
          (nothing_more filter (done ++ test_of name None ∷ [])).0
          (subst (MoreTests scope filter (done ++ test_of name None ∷ [])) (sym e) rest)
      from (Some p) mid (inner, e, takes) rest = cc

  nothing_started : (filter : Filter) → IsFilter scope [] filter ↔ (filter ≡ record { tests = [] })
  nothing_started filter = (
    (λ is. from filter.tests is refl),
    (λ e. subst (AreTests scope depth_limit []) (sym (ap (λ (f : Filter). f.tests) e)) refl),
  )
    where
      from : (tests : List Test) → AreTests scope depth_limit [] tests → filter.tests ≡ tests → filter ≡ record { tests = [] }
      from [] e is = (λ i. record { tests = is i })
      from (test ∷ tests) (mid, takes, others) is = let e : [] ≡ takes.head ∷ takes.after = takes.tokens_are in cc

  no_factor : (m : ℕ) (p : Predicate) (mid : List FilterToken) → TakesFactor scope m [] p mid → ⊥
  no_factor zero p mid (inl a) = let e : [] ≡ At ∷ _ = a.tokens_are in cc
  no_factor zero p mid (inr ch) = let e : [] ≡ Name ch.written ∷ _ = ch.tokens_are in cc
  no_factor (suc m) p mid (inl (inl a)) = let e : [] ≡ At ∷ _ = a.tokens_are in cc
  no_factor (suc m) p mid (inl (inr ch)) = let e : [] ≡ Name ch.written ∷ _ = ch.tokens_are in cc
  no_factor (suc m) p mid (inr (inner, e, takes)) = cc

  no_close : (filter : Filter) (tests : List Test) (name : Option element.Name) (n : ℕ) (outer : List OuterPart) (p : Predicate)
      → ClosesOpenParts scope filter tests name n outer p [] → ⊥
  no_close filter tests name n [] p (after, e, rest) = cc
  no_close filter tests name n (outer_part ∷ outer) p (after, e, rest) = cc

  no_end : (n : ℕ) (filter : Filter) (c : Context) → AfterFactor scope filter n c [] → ⊥
  no_end n filter c m = from m.more_ands m.more_ors m.mid m.rest m.takes_ands m.takes_ors m.followed
    where
      inner : (os : List Predicate) (mid rest : List FilterToken) → [] ≡ mid
          → TakesMore or_word (TakesAnds (TakesFactor scope n)) mid os rest
          → (p : Predicate) → ClosesOpenParts scope filter c.tests c.name n c.outer p rest → ⊥
      inner [] mid rest e f p close =
          no_close filter c.tests c.name n c.outer p (subst (ClosesOpenParts scope filter c.tests c.name n c.outer p) (sym (e ∙ f)) close)
      inner (o ∷ os) mid rest e (after, m, f, takes, others) p close = let wrong : [] ≡ or_word ∷ after = e ∙ f in cc

      from : (as' os : List Predicate) (mid rest : List FilterToken) → TakesMore and_word (TakesFactor scope n) [] as' mid
          → TakesMore or_word (TakesAnds (TakesFactor scope n)) mid os rest
          → ClosesOpenParts scope filter c.tests c.name n c.outer (join_parts Or (c.ors ++ (join_parts And (c.ands ++ as') ∷ os))) rest → ⊥
      from [] os mid rest e takes_ors close = inner os mid rest e takes_ors _ close
      from (a ∷ as') os mid rest (after, m, e, takes, others) takes_ors close = cc

  pub ends : (n : ℕ) (w : FilterState) → EndsAt n w (filter_at w)
  ends n Start = nothing_started
  ends n (TestDue done) = λ filter goes. no_test filter done goes
  ends n (Named done name) = λ filter. nothing_named filter done name
  ends n (Tested done) = λ filter. nothing_more filter done
  ends n (FactorDue c) = λ filter goes. no_factor n goes.0 goes.1 goes.2
  ends n (LocalDue c) = λ filter goes. let e : [] ≡ Name (unprefixed_name goes.0) ∷ goes.1 = goes.2 in cc
  ends n (EqualsDue c a) = λ filter goes. let e : [] ≡ EqualsSign ∷ goes.0 = goes.1 in cc
  ends n (LiteralDue c a) = λ filter goes. let e : [] ≡ Literal goes.0 ∷ goes.1 = goes.2 in cc
  ends n (FactorDone c) = λ filter goes. no_end n filter c goes

  -- (2) some filter goes on

  abbrev SomeFilter : (Filter → List FilterToken → Type 0) → Type 0
  SomeFilter Goes = (filter : Filter) × (ts : List FilterToken) × Goes filter ts

  closable : (tests : List Test) (name : Option element.Name) (n : ℕ) (outer : List OuterPart) (p : Predicate)
      → SomeFilter (λ filter ts. ClosesOpenParts scope filter tests name n outer p ts)
  closable tests name n [] p = (
    record { tests = tests ++ test_of name (Some p) ∷ [] },
    CloseBracket ∷ [],
    ([], refl, ([], refl, sym (append-nil (tests ++ test_of name (Some p) ∷ [])))),
  )
  closable tests name n (outer_part ∷ outer) p =
      let c = closable tests name (suc n) outer (done_part outer_part.ors (outer_part.ands ++ p ∷ [])) in (
        c.0,
        CloseParenthesis ∷ c.1,
        (
          c.1,
          refl,
          no_more scope (suc n) (ClosesOpenParts scope c.0 tests name (suc n) outer) outer_part.ors (outer_part.ands ++ p ∷ [])
              c.1 c.2,
        ),
      )

  after_factor : (n : ℕ) (c : Context) → SomeFilter (λ filter ts. AfterFactor scope filter n c ts)
  after_factor n c =
      let closed = closable c.tests c.name n c.outer (done_part c.ors c.ands) in
      (closed.0, closed.1, no_more scope n (ClosesOpenParts scope closed.0 c.tests c.name n c.outer) c.ors c.ands closed.1 closed.2)

  literal : (n : ℕ) (c : Context) (a : Operand) → SomeFilter (λ filter ts. IsFilterFrom scope filter n (LiteralDue c a) ts)
  literal n c a = let f = after_factor n (with_factor c (comparison_of a [])) in (f.0, Literal [] ∷ f.1, ([], f.1, refl, f.2))

  equals : (n : ℕ) (c : Context) (a : Operand) → SomeFilter (λ filter ts. IsFilterFrom scope filter n (EqualsDue c a) ts)
  equals n c a = let f = literal n c a in (f.0, EqualsSign ∷ f.1, (f.1, refl, f.2))

  attribute_first : (n : ℕ) (ts mid : List FilterToken) → ts ≡ At ∷ (Name (unprefixed_name []) ∷ (EqualsSign ∷ (Literal [] ∷ mid)))
      → TakesFactor scope n ts (Attr [] []) mid
  attribute_first zero ts mid e = inl (record { local = []; value = []; tokens_are = e; means = refl })
  attribute_first (suc n) ts mid e = inl (inl (record { local = []; value = []; tokens_are = e; means = refl }))

  test_first : (done : List Test) → SomeFilter (λ filter ts. TestFirst scope filter done ts)
  test_first done = (
    record { tests = done ++ test_of None None ∷ [] },
    Any ∷ [],
    (
      test_of None None,
      [],
      record { head = Any; after = []; tokens_are = refl; asks = refl; holds = refl },
      ([], refl, sym (append-nil (done ++ test_of None None ∷ []))),
    ),
  )

  pub goes_on : (n : ℕ) (w : FilterState) → SomeFilter (λ filter ts. IsFilterFrom scope filter n w ts)
  goes_on n Start = (record { tests = [] }, [], refl)
  goes_on n (TestDue done) = test_first done
  goes_on n (Named done name) = (
    record { tests = done ++ test_of name None ∷ [] },
    [],
    (None, [], refl, ([], refl, sym (append-nil (done ++ test_of name None ∷ [])))),
  )
  goes_on n (Tested done) = (record { tests = done }, [], ([], refl, sym (append-nil done)))
  goes_on n (FactorDue c) =
      let f = after_factor n (with_factor c (Attr [] [])) in
      (f.0, At ∷ (Name (unprefixed_name []) ∷ (EqualsSign ∷ (Literal [] ∷ f.1))), (Attr [] [], f.1, attribute_first n _ f.1 refl, f.2))
  goes_on n (LocalDue c) =
      let f = equals n c (operand.Attribute []) in (f.0, Name (unprefixed_name []) ∷ f.1, ([], f.1, refl, f.2))
  goes_on n (EqualsDue c a) = equals n c a
  goes_on n (LiteralDue c a) = literal n c a
  goes_on n (FactorDone c) = after_factor n c
