-- Each place that a token leads to is right: what goes on with the token from the place before goes on from the next, or nothing does.
-- Plan, by where the reader stands: (1) between tests, by whether the token is a name or a word that joins;
-- (2) where a factor is due, by its first token: a parenthesis, `@`, or the name of a child;
-- (3) within a comparison: the local name, the equals sign and the literal; (4) after a factor: `and`, `or`, and what closes;
-- (5) all together, by the place; (6) what ends at a place; (7) from each place some filter goes on.
use Rattle.std.proofs.Common.{◌≡◌, ◌≢◌, ℕ, ◌+◌, zero, suc, Bool, true, false, List, [], ◌∷◌, ◌++◌, length, refl, ap, sym, ◌∙◌, subst, arith, inl, inr, Option, Some, None, codes, add-zero}
use Rattle.std.specs.Prelude.{◌↔◌, nat_lt, if◌then◌else◌}
use Rattle.std.specs.Str.{bytes_eq}
use Rattle.std.proofs.lemmas.Bool.Decides.{nat_tests}
use Rattle.ifmap_lemmas.specs.Texts.{eq_tells}
use Rattle.ifmap_lemmas.specs.Joined.{same_parts}
use Rattle.ifmap_elem.specs.declared.elements.Name as element
use Rattle.ifmap_elem.specs.declared.tokens.Qualified.{Qualified}
use Rattle.ifmap_prefixes.specs.ifmap_reader.declared.scoping.Scope.{Scope}
use Rattle.ifmap_filter.specs.declared.filters.Predicate.{Predicate, Attr, Child}
use Rattle.ifmap_filter.specs.declared.filters.Test.{Test}
use Rattle.ifmap_filter.specs.declared.filters.Filter.{Filter}
use Rattle.ifmap_filter.specs.declared.tokens.FilterToken.{FilterToken}
use Rattle.ifmap_filter.specs.declared.tokens.FilterToken.TheVariants.{Any, OpenBracket, CloseBracket, OpenParenthesis, CloseParenthesis, EqualsSign, At, Name, Literal}
use Rattle.ifmap_filter.specs.declared.progress.OuterPart.{OuterPart}
use Rattle.ifmap_filter.specs.declared.progress.Operand.{Operand}
use Rattle.ifmap_filter.specs.declared.progress.Operand.TheVariants as operand
use Rattle.ifmap_filter.specs.Grammar.{AsksFor, StandsFor, TakesComparison, TakesFactor, TakesOrPart, TakesOrs, and_word, unprefixed_name, depth_limit, or_word, space_of}
use Rattle.ifmap_filter.specs.Progress.{ClosesOpenParts, Context, FilterState, Start, TestDue, Named, Tested, FactorDue, LocalDue, EqualsDue, LiteralDue, FactorDone, AfterFactor, EqualsFirst, FactorFirst, IsFilterFrom, LiteralFirst, LocalFirst, MoreFactors, MoreTests, PredicateFirst, TestFirst, asks_named, child_named, close_group, close_test, comparison_of, done_part, inner_context, is_word, name_in, open_parts, next_part, follow_token, follow_done, follow_equals, follow_factor, follow_literal, follow_local, follow_named, follow_test, follow_tested, test_of, with_factor}
use Rattle.ifmap_filter.proofs.Continuing.{Refuses, and_more, any_asks, bare_named, filter_starts, name_asks, name_goes_on, no_name_no_test, none_asks, not_that_word, or_more, or_part, other_more, tested_or, tested_other, word_is}

module _ (scope : Scope) where
  -- what a token leads to from a place is right: the next place, where so much deeper, or none
  abbrev pub IsRight : ℕ → FilterState → FilterToken → Option FilterState → Type 0
  IsRight n w t None = (filter : Filter) (more : List FilterToken) → IsFilterFrom scope filter n w (t ∷ more) → ⊥
  IsRight n w t (Some next) =
      (m : ℕ) × (m + open_parts next ≡ depth_limit)
      × ((filter : Filter) (more : List FilterToken) → IsFilterFrom scope filter n w (t ∷ more) ↔ IsFilterFrom scope filter m next more)

  -- what goes on from one place as from another
  through : (n : ℕ) (w v : FilterState) (t : FilterToken)
      → ((filter : Filter) (more : List FilterToken) → IsFilterFrom scope filter n w (t ∷ more) ↔ IsFilterFrom scope filter n v (t ∷ more))
      → (o : Option FilterState) → IsRight n v t o → IsRight n w t o
  through n w v t same None right = λ filter more goes. right filter more ((same filter more).0 goes)
  through n w v t same (Some next) (m, e, right) = (
    m,
    e,
    (λ filter more. (
      (λ g. (right filter more).0 ((same filter more).0 g)),
      (λ g. (same filter more).1 ((right filter more).1 g)),
    )),
  )

  -- (1) between tests

  no_asks : (t : FilterToken) → t ≢ Any → ((q : Qualified) → t ≢ Name q) → (name : Option element.Name) → AsksFor scope t name → ⊥
  no_asks t no_any no_name None e = no_any e
  no_asks t no_any no_name (Some name) (q, e, s) = no_name q e

  test_named : (n : ℕ) (done : List Test) (q : Qualified) → n + 0 ≡ depth_limit → (o : Option (List ℕ)) → space_of scope q.prefix ≡ o
      → IsRight n (TestDue done) (Name q) (asks_named done (name_in o q.local))
  test_named n done q e None is = λ filter more. no_name_no_test scope filter done (Name q) (none_asks scope filter q is) more
  test_named n done q e (Some space) is = (
    n,
    e,
    (λ filter more. name_goes_on scope filter done (Name q) (Some (record { space = space; local = q.local }))
        (q, refl, record { space_is = is; local_is = refl })
        (name_asks scope filter q space is) more),
  )

  no_test : (n : ℕ) (done : List Test) (t : FilterToken) → t ≢ Any → ((q : Qualified) → t ≢ Name q) → IsRight n (TestDue done) t None
  no_test n done t no_any no_name = λ filter more. no_name_no_test scope filter done t (no_asks t no_any no_name) more

  right_test : (n : ℕ) (done : List Test) → n + 0 ≡ depth_limit → (t : FilterToken) → IsRight n (TestDue done) t (follow_test scope done t)
  right_test n done e Any = (n, e, (λ filter more. name_goes_on scope filter done Any None refl (any_asks scope filter) more))
  right_test n done e (Name q) = test_named n done q e (space_of scope q.prefix) refl
  right_test n done e OpenBracket = no_test n done OpenBracket (λ e. cc) (λ q e. cc)
  right_test n done e CloseBracket = no_test n done CloseBracket (λ e. cc) (λ q e. cc)
  right_test n done e OpenParenthesis = no_test n done OpenParenthesis (λ e. cc) (λ q e. cc)
  right_test n done e CloseParenthesis = no_test n done CloseParenthesis (λ e. cc) (λ q e. cc)
  right_test n done e EqualsSign = no_test n done EqualsSign (λ e. cc) (λ q e. cc)
  right_test n done e At = no_test n done At (λ e. cc) (λ q e. cc)
  right_test n done e (Literal v) = no_test n done (Literal v) (λ e. cc) (λ q e. cc)

  tested_name : (n : ℕ) (done : List Test) (q : Qualified) → n + 0 ≡ depth_limit → (b : Bool) → is_word (codes "or") q ≡ b
      → IsRight n (Tested done) (Name q) (if b then Some (TestDue done) else None)
  tested_name n done q e true is = (
    n,
    e,
    (λ filter more. subst (λ (v : Qualified). MoreTests scope filter done (Name v ∷ more) ↔ TestFirst scope filter done more)
        (sym (word_is (codes "or") q is))
        (tested_or scope filter done more)),
  )
  tested_name n done q e false is = λ filter more. tested_other scope filter done (Name q) (not_that_word (codes "or") q is) more

  right_tested : (n : ℕ) (done : List Test) → n + 0 ≡ depth_limit → (t : FilterToken) → IsRight n (Tested done) t (follow_tested done t)
  right_tested n done e (Name q) = tested_name n done q e (is_word (codes "or") q) refl
  right_tested n done e Any = λ filter more. tested_other scope filter done Any (λ e. cc) more
  right_tested n done e OpenBracket = λ filter more. tested_other scope filter done OpenBracket (λ e. cc) more
  right_tested n done e CloseBracket = λ filter more. tested_other scope filter done CloseBracket (λ e. cc) more
  right_tested n done e OpenParenthesis = λ filter more. tested_other scope filter done OpenParenthesis (λ e. cc) more
  right_tested n done e CloseParenthesis = λ filter more. tested_other scope filter done CloseParenthesis (λ e. cc) more
  right_tested n done e EqualsSign = λ filter more. tested_other scope filter done EqualsSign (λ e. cc) more
  right_tested n done e At = λ filter more. tested_other scope filter done At (λ e. cc) more
  right_tested n done e (Literal v) = λ filter more. tested_other scope filter done (Literal v) (λ e. cc) more

  module _ (filter : Filter) (done : List Test) (name : Option element.Name) (more : List FilterToken) where
    opens : PredicateFirst scope filter done name (OpenBracket ∷ more)
        → FactorFirst scope filter depth_limit (record { tests = done; name = name; outer = []; ors = []; ands = [] }) more
    opens (None, mid, e, rest) =
        absurd (tested_other scope filter (done ++ test_of name None ∷ []) OpenBracket (λ e. cc) more
        (subst (MoreTests scope filter (done ++ test_of name None ∷ [])) (sym e) rest))
    opens (Some p, mid, (inner, e, takes), rest) =
        let tail : inner ≡ more = cc in
        (or_part scope depth_limit (ClosesOpenParts scope filter done name depth_limit []) more).0 (
          p,
          CloseBracket ∷ mid,
          subst (λ (ts : List FilterToken). TakesOrPart scope depth_limit ts p (CloseBracket ∷ mid)) tail takes,
          (mid, refl, rest),
        )

    opened : FactorFirst scope filter depth_limit (record { tests = done; name = name; outer = []; ors = []; ands = [] }) more
        → PredicateFirst scope filter done name (OpenBracket ∷ more)
    opened first =
        let part = (or_part scope depth_limit (ClosesOpenParts scope filter done name depth_limit []) more).1 first in
        let e = part.3.1 in (
          Some part.0,
          part.3.0,
          (more, refl, subst (λ (ts : List FilterToken). TakesOrPart scope depth_limit more part.0 ts) e part.2),
          part.3.2,
        )

  named_without : (n : ℕ) (done : List Test) (name : Option element.Name) → n + 0 ≡ depth_limit → (t : FilterToken) → t ≢ OpenBracket
      → IsRight n (Named done name) t (follow_tested (done ++ test_of name None ∷ []) t)
  named_without n done name e t other =
      through n (Named done name) (Tested (done ++ test_of name None ∷ [])) t
      (λ filter more. bare_named scope filter done name t other more)
      (follow_tested (done ++ test_of name None ∷ []) t) (right_tested n (done ++ test_of name None ∷ []) e t)

  right_named : (n : ℕ) (done : List Test) (name : Option element.Name) → n + 0 ≡ depth_limit → (t : FilterToken)
      → IsRight n (Named done name) t (follow_named done name t)
  right_named n done name e OpenBracket =
      (depth_limit, add-zero depth_limit, (λ filter more. (opens filter done name more, opened filter done name more)))
  right_named n done name e Any = named_without n done name e Any (λ e. cc)
  right_named n done name e CloseBracket = named_without n done name e CloseBracket (λ e. cc)
  right_named n done name e OpenParenthesis = named_without n done name e OpenParenthesis (λ e. cc)
  right_named n done name e CloseParenthesis = named_without n done name e CloseParenthesis (λ e. cc)
  right_named n done name e EqualsSign = named_without n done name e EqualsSign (λ e. cc)
  right_named n done name e At = named_without n done name e At (λ e. cc)
  right_named n done name e (Name q) = named_without n done name e (Name q) (λ e. cc)
  right_named n done name e (Literal v) = named_without n done name e (Literal v) (λ e. cc)

  -- (2) at a factor

  module _ (n : ℕ) (c : Context) where
    comparison_only : (t : FilterToken) → t ≢ OpenParenthesis → (m : ℕ) (more : List FilterToken) (p : Predicate) (mid : List FilterToken)
        → TakesFactor scope m (t ∷ more) p mid → TakesComparison scope (t ∷ more) p mid
    comparison_only t other zero more p mid takes = takes
    comparison_only t other (suc m) more p mid (inl takes) = takes
    comparison_only t other (suc m) more p mid (inr group) = absurd (other (same_parts t OpenParenthesis more group.0 group.1).0)

    as_factor : (m : ℕ) (ts : List FilterToken) (p : Predicate) (mid : List FilterToken) → TakesComparison scope ts p mid
        → TakesFactor scope m ts p mid
    as_factor zero ts p mid takes = takes
    as_factor (suc m) ts p mid takes = inl takes

    module _ (filter : Filter) (more : List FilterToken) where
      at_local : FactorFirst scope filter n c (At ∷ more) → LocalFirst scope filter n c more
      at_local (p, mid, takes, rest) = elim (comparison_only At (λ e. cc) n more p mid takes) [
        | inl a ↦
            let tail : more ≡ Name (unprefixed_name a.local) ∷ (EqualsSign ∷ (Literal a.value ∷ mid)) = (same_parts At At more _
            a.tokens_are).1 in
            let after : AfterFactor scope filter n (with_factor c (Attr a.local a.value)) mid =
            subst (λ f. AfterFactor scope filter n (with_factor c f) mid) a.means rest in
            (a.local, EqualsSign ∷ (Literal a.value ∷ mid), tail, (Literal a.value ∷ mid, refl, (a.value, mid, refl, after)))
        | inr ch ↦ let wrong : At ≡ Name ch.written = (same_parts At (Name ch.written) more _ ch.tokens_are).0 in cc
      ]

      local_at : LocalFirst scope filter n c more → FactorFirst scope filter n c (At ∷ more)
      local_at (local, rest, e, (others, f, (value, end, g, after))) =
          let all : more ≡ Name (unprefixed_name local) ∷ (EqualsSign ∷ (Literal value ∷ end)) =
          e ∙ ap (λ ts. Name (unprefixed_name local) ∷ ts) (f ∙ ap (λ ts. EqualsSign ∷ ts) g) in (
            Attr local value,
            end,
            as_factor n (At ∷ more) (Attr local value) end
                (inl (record { local = local; value = value; tokens_are = ap (λ ts. At ∷ ts) all; means = refl })),
            after,
          )

      child_equals : (q : Qualified) (name : element.Name) → ((other : element.Name) → StandsFor scope q other → other ≡ name)
          → FactorFirst scope filter n c (Name q ∷ more) → EqualsFirst scope filter n c (operand.Child name) more
      child_equals q name only (p, mid, takes, rest) = elim (comparison_only (Name q) (λ e. cc) n more p mid takes) [
        | inl a ↦ let wrong : Name q ≡ At = (same_parts (Name q) At more _ a.tokens_are).0 in cc
        | inr ch ↦
            let both = same_parts (Name q) (Name ch.written) more (EqualsSign ∷ (Literal ch.value ∷ mid)) ch.tokens_are in
            let first : Name q ≡ Name ch.written = both.0 in
            let same : q ≡ ch.written = cc in
            let is : ch.name ≡ name = only ch.name (subst (λ (v : Qualified). StandsFor scope v ch.name) (sym same) ch.named) in
            let after : AfterFactor scope filter n (with_factor c (Child name ch.value)) mid =
            subst (λ f. AfterFactor scope filter n (with_factor c f) mid) (ch.means ∙ ap (λ m. Child m ch.value) is) rest in
            (Literal ch.value ∷ mid, both.1, (ch.value, mid, refl, after))
      ]

      equals_child : (q : Qualified) (name : element.Name) → StandsFor scope q name
          → EqualsFirst scope filter n c (operand.Child name) more → FactorFirst scope filter n c (Name q ∷ more)
      equals_child q name stands (rest, e, (value, end, f, after)) = (
        Child name value,
        end,
        as_factor n (Name q ∷ more) (Child name value) end (inr (record {
          written = q;
          name = name;
          value = value;
          tokens_are = ap (λ ts. Name q ∷ ts) (e ∙ ap (λ ts. EqualsSign ∷ ts) f);
          named = stands;
          means = refl;
        })),
        after,
      )

      no_child : (q : Qualified) → ((name : element.Name) → StandsFor scope q name → ⊥) → FactorFirst scope filter n c (Name q ∷ more) → ⊥
      no_child q none (p, mid, takes, rest) = elim (comparison_only (Name q) (λ e. cc) n more p mid takes) [
        | inl a ↦ let wrong : Name q ≡ At = (same_parts (Name q) At more _ a.tokens_are).0 in cc
        | inr ch ↦
            let first : Name q ≡ Name ch.written = (same_parts (Name q) (Name ch.written) more _ ch.tokens_are).0 in
            let same : q ≡ ch.written = cc in
            none ch.name (subst (λ (v : Qualified). StandsFor scope v ch.name) (sym same) ch.named)
      ]

      no_factor : (t : FilterToken) → t ≢ OpenParenthesis → t ≢ At → ((q : Qualified) → t ≢ Name q)
          → FactorFirst scope filter n c (t ∷ more) → ⊥
      no_factor t no_open no_at no_name (p, mid, takes, rest) = elim (comparison_only t no_open n more p mid takes) [
        | inl a ↦ no_at (same_parts t At more _ a.tokens_are).0
        | inr ch ↦ no_name ch.written (same_parts t (Name ch.written) more _ ch.tokens_are).0
      ]

    factor_name : (q : Qualified) → n + length c.outer ≡ depth_limit → (o : Option (List ℕ)) → space_of scope q.prefix ≡ o
        → IsRight n (FactorDue c) (Name q) (child_named c (name_in o q.local))
    factor_name q e None is =
        λ filter more. no_child filter more q (λ name stands. let wrong : None ≡ Some name.space = sym is ∙ stands.space_is in cc)
    factor_name q e (Some space) is = (
      n,
      e,
      (λ filter more. (
        child_equals filter more q (record { space = space; local = q.local }) (λ other stands.
            let spaces : Some other.space ≡ Some space = sym stands.space_is ∙ is in
            let same : other.space ≡ space = cc in
            (λ i. record { space = same i; local = stands.local_is i })),
        equals_child filter more q (record { space = space; local = q.local }) (record { space_is = is; local_is = refl }),
      )),
    )

  abbrev InnerThen : ℕ → Context → Filter → Predicate → List FilterToken → Type 0
  InnerThen m c filter = ClosesOpenParts scope filter c.tests c.name m (record { ors = c.ors; ands = c.ands } ∷ c.outer)

  open_inner : (m : ℕ) (c : Context) (filter : Filter) (more : List FilterToken)
      → FactorFirst scope filter (suc m) c (OpenParenthesis ∷ more) ↔ FactorFirst scope filter m (inner_context c) more
  open_inner m c filter more = (
    (λ (p, mid, takes, rest). elim takes [
      | inl one ↦ elim one [
        | inl a ↦ let wrong : OpenParenthesis ≡ At = (same_parts OpenParenthesis At more _ a.tokens_are).0 in cc
        | inr ch ↦
            let wrong : OpenParenthesis ≡ Name ch.written = (same_parts OpenParenthesis (Name ch.written) more _ ch.tokens_are).0 in cc
      ]
      | inr group ↦
          let tail : group.0 ≡ more = sym (same_parts OpenParenthesis OpenParenthesis more group.0 group.1).1 in
          (or_part scope m (InnerThen m c filter) more).0 (
            p,
            CloseParenthesis ∷ mid,
            subst (λ (ts : List FilterToken). TakesOrs (TakesFactor scope m) ts p (CloseParenthesis ∷ mid)) tail group.2,
            (mid, refl, rest),
          )
    ]),
    (λ first.
        let part = (or_part scope m (InnerThen m c filter) more).1 first in
        let e = part.3.1 in (
          part.0,
          part.3.0,
          inr (more, refl, subst (λ (ts : List FilterToken). TakesOrs (TakesFactor scope m) more part.0 ts) e part.2),
          part.3.2,
        )),
  )

  room : (n k : ℕ) → suc n + k ≡ depth_limit → nat_lt k depth_limit ≡ true
  room n k e = grind (arith, nat_tests)

  no_room : (k : ℕ) → 0 + k ≡ depth_limit → nat_lt k depth_limit ≡ false
  no_room k e = grind (arith, nat_tests)

  right_open : (n : ℕ) (c : Context) → n + length c.outer ≡ depth_limit
      → IsRight n (FactorDue c) OpenParenthesis (follow_factor scope c OpenParenthesis)
  right_open zero c e =
      subst (λ b. IsRight zero (FactorDue c) OpenParenthesis (if b then Some (FactorDue (inner_context c)) else None))
      (sym (no_room (length c.outer) e))
      (λ filter more first. none filter more first)
    where
      none : (filter : Filter) (more : List FilterToken) → FactorFirst scope filter zero c (OpenParenthesis ∷ more) → ⊥
      none filter more (p, mid, inl a, rest) =
          let wrong : OpenParenthesis ≡ At = (same_parts OpenParenthesis At more _ a.tokens_are).0 in cc
      none filter more (p, mid, inr ch, rest) =
          let wrong : OpenParenthesis ≡ Name ch.written = (same_parts OpenParenthesis (Name ch.written) more _ ch.tokens_are).0 in cc
  right_open (suc m) c e =
      subst (λ b. IsRight (suc m) (FactorDue c) OpenParenthesis (if b then Some (FactorDue (inner_context c)) else None))
      (sym (room m (length c.outer) e))
      (m, omega (arith, e), (λ filter more. open_inner m c filter more))

  right_factor : (n : ℕ) (c : Context) → n + length c.outer ≡ depth_limit → (t : FilterToken)
      → IsRight n (FactorDue c) t (follow_factor scope c t)
  right_factor n c e OpenParenthesis = right_open n c e
  right_factor n c e At = (n, e, (λ filter more. (at_local n c filter more, local_at n c filter more)))
  right_factor n c e (Name q) = factor_name n c q e (space_of scope q.prefix) refl
  right_factor n c e Any = λ filter more. no_factor n c filter more Any (λ e. cc) (λ e. cc) (λ q e. cc)
  right_factor n c e OpenBracket = λ filter more. no_factor n c filter more OpenBracket (λ e. cc) (λ e. cc) (λ q e. cc)
  right_factor n c e CloseBracket = λ filter more. no_factor n c filter more CloseBracket (λ e. cc) (λ e. cc) (λ q e. cc)
  right_factor n c e CloseParenthesis = λ filter more. no_factor n c filter more CloseParenthesis (λ e. cc) (λ e. cc) (λ q e. cc)
  right_factor n c e EqualsSign = λ filter more. no_factor n c filter more EqualsSign (λ e. cc) (λ e. cc) (λ q e. cc)
  right_factor n c e (Literal v) = λ filter more. no_factor n c filter more (Literal v) (λ e. cc) (λ e. cc) (λ q e. cc)

  -- (3) within a comparison

  local_name : (n : ℕ) (c : Context) (q : Qualified) → n + length c.outer ≡ depth_limit → (b : Bool) → bytes_eq q.prefix [] ≡ b
      → IsRight n (LocalDue c) (Name q) (if b then Some (EqualsDue c (operand.Attribute q.local)) else None)
  local_name n c q e true is = (n, e, (λ filter more. (to filter more, back filter more)))
    where
      same : q ≡ unprefixed_name q.local
      same = let p : q.prefix ≡ [] = eq_tells q.prefix [] is in (λ i. record { prefix = p i; local = q.local })

      to : (filter : Filter) (more : List FilterToken) → LocalFirst scope filter n c (Name q ∷ more)
          → EqualsFirst scope filter n c (operand.Attribute q.local) more
      to filter more (local, rest, f, equals) =
          let both = same_parts (Name q) (Name (unprefixed_name local)) more rest f in
          let first : Name q ≡ Name (unprefixed_name local) = both.0 in
          let is : q ≡ unprefixed_name local = cc in
          let locals : local ≡ q.local = sym (ap (λ (v : Qualified). v.local) is) in
          subst (λ l. EqualsFirst scope filter n c (operand.Attribute l) more) locals
          (subst (EqualsFirst scope filter n c (operand.Attribute local)) (sym both.1) equals)

      back : (filter : Filter) (more : List FilterToken) → EqualsFirst scope filter n c (operand.Attribute q.local) more
          → LocalFirst scope filter n c (Name q ∷ more)
      back filter more equals = (q.local, more, ap (λ (v : Qualified). Name v ∷ more) same, equals)
  local_name n c q e false is = λ filter more first. none filter more first
    where
      none : (filter : Filter) (more : List FilterToken) → LocalFirst scope filter n c (Name q ∷ more) → ⊥
      none filter more (local, rest, f, equals) =
          let first : Name q ≡ Name (unprefixed_name local) = (same_parts (Name q) (Name (unprefixed_name local)) more rest f).0 in
          let same : q ≡ unprefixed_name local = cc in
          let wrong : false ≡ true = sym is ∙ ap (λ (v : Qualified). bytes_eq v.prefix []) same in
          cc

  no_local : (n : ℕ) (c : Context) (t : FilterToken) → ((q : Qualified) → t ≢ Name q) → (filter : Filter) (more : List FilterToken)
      → LocalFirst scope filter n c (t ∷ more) → ⊥
  no_local n c t other filter more (local, rest, e, equals) = other (unprefixed_name local) (same_parts t (Name (unprefixed_name local))
      more rest e).0

  right_local : (n : ℕ) (c : Context) → n + length c.outer ≡ depth_limit → (t : FilterToken) → IsRight n (LocalDue c) t (follow_local c t)
  right_local n c e (Name q) = local_name n c q e (bytes_eq q.prefix []) refl
  right_local n c e Any = no_local n c Any (λ q e. cc)
  right_local n c e OpenBracket = no_local n c OpenBracket (λ q e. cc)
  right_local n c e CloseBracket = no_local n c CloseBracket (λ q e. cc)
  right_local n c e OpenParenthesis = no_local n c OpenParenthesis (λ q e. cc)
  right_local n c e CloseParenthesis = no_local n c CloseParenthesis (λ q e. cc)
  right_local n c e EqualsSign = no_local n c EqualsSign (λ q e. cc)
  right_local n c e At = no_local n c At (λ q e. cc)
  right_local n c e (Literal v) = no_local n c (Literal v) (λ q e. cc)

  no_equals : (n : ℕ) (c : Context) (a : Operand) (t : FilterToken) → t ≢ EqualsSign → (filter : Filter) (more : List FilterToken)
      → EqualsFirst scope filter n c a (t ∷ more) → ⊥
  no_equals n c a t other filter more (rest, e, literal) = other (same_parts t EqualsSign more rest e).0

  equals : (n : ℕ) (c : Context) (a : Operand) (filter : Filter) (more : List FilterToken)
      → EqualsFirst scope filter n c a (EqualsSign ∷ more) ↔ LiteralFirst scope filter n c a more
  equals n c a filter more = (
    (λ (rest, e, literal). subst (LiteralFirst scope filter n c a) (sym (same_parts EqualsSign EqualsSign more rest e).1) literal),
    (λ literal. (more, refl, literal)),
  )

  right_equals : (n : ℕ) (c : Context) (a : Operand) → n + length c.outer ≡ depth_limit → (t : FilterToken)
      → IsRight n (EqualsDue c a) t (follow_equals c a t)
  right_equals n c a e EqualsSign = (n, e, equals n c a)
  right_equals n c a e Any = no_equals n c a Any (λ e. cc)
  right_equals n c a e OpenBracket = no_equals n c a OpenBracket (λ e. cc)
  right_equals n c a e CloseBracket = no_equals n c a CloseBracket (λ e. cc)
  right_equals n c a e OpenParenthesis = no_equals n c a OpenParenthesis (λ e. cc)
  right_equals n c a e CloseParenthesis = no_equals n c a CloseParenthesis (λ e. cc)
  right_equals n c a e (Name q) = no_equals n c a (Name q) (λ e. cc)
  right_equals n c a e At = no_equals n c a At (λ e. cc)
  right_equals n c a e (Literal v) = no_equals n c a (Literal v) (λ e. cc)

  no_literal : (n : ℕ) (c : Context) (a : Operand) (t : FilterToken) → ((v : List ℕ) → t ≢ Literal v)
      → (filter : Filter) (more : List FilterToken)
      → LiteralFirst scope filter n c a (t ∷ more) → ⊥
  no_literal n c a t other filter more (value, rest, e, after) = other value (same_parts t (Literal value) more rest e).0

  literal : (n : ℕ) (c : Context) (a : Operand) (v : List ℕ) (filter : Filter) (more : List FilterToken)
      → LiteralFirst scope filter n c a (Literal v ∷ more) ↔ AfterFactor scope filter n (with_factor c (comparison_of a v)) more
  literal n c a v filter more = (
    (λ (value, rest, e, after).
        let both = same_parts (Literal v) (Literal value) more rest e in
        let first : Literal v ≡ Literal value = both.0 in
        let same : value ≡ v = cc in
        subst (λ x. AfterFactor scope filter n (with_factor c (comparison_of a x)) more) same
        (subst (AfterFactor scope filter n (with_factor c (comparison_of a value))) (sym both.1) after)),
    (λ after. (v, more, refl, after)),
  )

  right_literal : (n : ℕ) (c : Context) (a : Operand) → n + length c.outer ≡ depth_limit → (t : FilterToken)
      → IsRight n (LiteralDue c a) t (follow_literal c a t)
  right_literal n c a e (Literal v) = (n, e, literal n c a v)
  right_literal n c a e Any = no_literal n c a Any (λ v e. cc)
  right_literal n c a e OpenBracket = no_literal n c a OpenBracket (λ v e. cc)
  right_literal n c a e CloseBracket = no_literal n c a CloseBracket (λ v e. cc)
  right_literal n c a e OpenParenthesis = no_literal n c a OpenParenthesis (λ v e. cc)
  right_literal n c a e CloseParenthesis = no_literal n c a CloseParenthesis (λ v e. cc)
  right_literal n c a e (Name q) = no_literal n c a (Name q) (λ v e. cc)
  right_literal n c a e EqualsSign = no_literal n c a EqualsSign (λ v e. cc)
  right_literal n c a e At = no_literal n c a At (λ v e. cc)

  -- (4) after a factor

  no_close : (filter : Filter) (tests : List Test) (name : Option element.Name) (n : ℕ) (outer : List OuterPart) (t : FilterToken)
      → t ≢ CloseBracket
      → t ≢ CloseParenthesis → Refuses scope n (ClosesOpenParts scope filter tests name n outer) t
  no_close filter tests name n [] t no_bracket no_parenthesis p more (after, e, rest) =
      no_bracket (same_parts t CloseBracket more after e).0
  no_close filter tests name n (outer_part ∷ outer) t no_bracket no_parenthesis p more (after, e, rest) =
      no_parenthesis (same_parts t CloseParenthesis more after e).0

  after_or : (n : ℕ) (c : Context) (q : Qualified) → n + length c.outer ≡ depth_limit → is_word (codes "and") q ≡ false → (b : Bool)
      → is_word (codes "or") q ≡ b → IsRight n (FactorDone c) (Name q) (if b then Some (FactorDue (next_part c)) else None)
  after_or n c q e no_and true is = (
    n,
    e,
    (λ filter more.
        subst (λ (v : Qualified). AfterFactor scope filter n c (Name v ∷ more) ↔ FactorFirst scope filter n (next_part c) more)
        (sym (word_is (codes "or") q is))
        (or_more scope n (ClosesOpenParts scope filter c.tests c.name n c.outer) c.ors c.ands more
        (no_close filter c.tests c.name n c.outer or_word (λ e. cc) (λ e. cc)))),
  )
  after_or n c q e no_and false is = λ filter more after.
      no_close filter c.tests c.name n c.outer (Name q) (λ e. cc) (λ e. cc) (done_part c.ors c.ands) more
      ((other_more scope n (ClosesOpenParts scope filter c.tests c.name n c.outer) c.ors c.ands (Name q) more
      (not_that_word (codes "and") q no_and) (not_that_word (codes "or") q is)).0 after)

  after_name : (n : ℕ) (c : Context) (q : Qualified) → n + length c.outer ≡ depth_limit → (b : Bool) → is_word (codes "and") q ≡ b
      → IsRight n (FactorDone c) (Name q)
      (if b then Some (FactorDue c) else (if is_word (codes "or") q then Some (FactorDue (next_part c)) else None))
  after_name n c q e true is = (
    n,
    e,
    (λ filter more.
        subst (λ (v : Qualified). AfterFactor scope filter n c (Name v ∷ more) ↔ FactorFirst scope filter n c more)
        (sym (word_is (codes "and") q is))
        (and_more scope n (ClosesOpenParts scope filter c.tests c.name n c.outer) c.ors c.ands more
        (no_close filter c.tests c.name n c.outer and_word (λ e. cc) (λ e. cc)))),
  )
  after_name n c q e false is = after_or n c q e is (is_word (codes "or") q) refl

  closing : (n : ℕ) (c : Context) (t : FilterToken) → ((q : Qualified) → t ≢ Name q) → (filter : Filter) (more : List FilterToken)
      → AfterFactor scope filter n c (t ∷ more) ↔ ClosesOpenParts scope filter c.tests c.name n c.outer (done_part c.ors c.ands) (t ∷ more)
  closing n c t other filter more =
      other_more scope n (ClosesOpenParts scope filter c.tests c.name n c.outer) c.ors c.ands t more (other (unprefixed_name (codes "and")))
      (other (unprefixed_name (codes "or")))

  module _ (n : ℕ) (tests : List Test) (name : Option element.Name) (ors ands : List Predicate) where
    abbrev within : List OuterPart → Context
    within outer = record { tests = tests; name = name; outer = outer; ors = ors; ands = ands }

    closes_group : (outer : List OuterPart) → n + length outer ≡ depth_limit
        → IsRight n (FactorDone (within outer)) CloseParenthesis (close_group (within outer) outer)
    closes_group [] e = λ filter more after. none filter more ((closing n (within []) CloseParenthesis (λ q e. cc) filter more).0 after)
      where
        none : (filter : Filter) (more : List FilterToken)
            → ClosesOpenParts scope filter tests name n [] (done_part ors ands) (CloseParenthesis ∷ more) → ⊥
        none filter more (after, f, rest) =
            let wrong : CloseParenthesis ≡ CloseBracket = (same_parts CloseParenthesis CloseBracket more after f).0 in cc
    closes_group (outer_part ∷ outer) e = (
      suc n,
      omega (arith, e),
      (λ filter more. (
        (λ after. to filter more ((closing n (within (outer_part ∷ outer)) CloseParenthesis (λ q e. cc) filter more).0 after)),
        (λ after. (closing n (within (outer_part ∷ outer)) CloseParenthesis (λ q e. cc) filter more).1 (more, refl, after)),
      )),
    )
      where
        to : (filter : Filter) (more : List FilterToken)
            → ClosesOpenParts scope filter tests name n (outer_part ∷ outer) (done_part ors ands) (CloseParenthesis ∷ more)
            → MoreFactors scope (suc n) (ClosesOpenParts scope filter tests name (suc n) outer) outer_part.ors
            (outer_part.ands ++ done_part ors ands ∷ []) more
        to filter more (after, f, rest) =
            subst (MoreFactors scope (suc n) (ClosesOpenParts scope filter tests name (suc n) outer) outer_part.ors
            (outer_part.ands ++ done_part ors ands ∷ []))
            (sym (same_parts CloseParenthesis CloseParenthesis more after f).1) rest

    closes_test : (outer : List OuterPart) → n + length outer ≡ depth_limit
        → IsRight n (FactorDone (within outer)) CloseBracket (close_test (within outer) outer)
    closes_test [] e = (
      n,
      e,
      (λ filter more. (
        (λ after. to filter more ((closing n (within []) CloseBracket (λ q e. cc) filter more).0 after)),
        (λ after. (closing n (within []) CloseBracket (λ q e. cc) filter more).1 (more, refl, after)),
      )),
    )
      where
        to : (filter : Filter) (more : List FilterToken)
            → ClosesOpenParts scope filter tests name n [] (done_part ors ands) (CloseBracket ∷ more)
            → MoreTests scope filter (tests ++ test_of name (Some (done_part ors ands)) ∷ []) more
        to filter more (after, f, rest) =
            subst (MoreTests scope filter (tests ++ test_of name (Some (done_part ors ands)) ∷ []))
            (sym (same_parts CloseBracket CloseBracket more after f).1) rest
    closes_test (outer_part ∷ outer) e =
        λ filter more after. none filter more ((closing n (within (outer_part ∷ outer)) CloseBracket (λ q e. cc) filter more).0 after)
      where
        none : (filter : Filter) (more : List FilterToken)
            → ClosesOpenParts scope filter tests name n (outer_part ∷ outer) (done_part ors ands) (CloseBracket ∷ more) → ⊥
        none filter more (after, f, rest) =
            let wrong : CloseBracket ≡ CloseParenthesis = (same_parts CloseBracket CloseParenthesis more after f).0 in cc

  nothing_closes : (n : ℕ) (c : Context) (t : FilterToken) → ((q : Qualified) → t ≢ Name q) → t ≢ CloseBracket → t ≢ CloseParenthesis
      → (filter : Filter) (more : List FilterToken) → AfterFactor scope filter n c (t ∷ more) → ⊥
  nothing_closes n c t other no_bracket no_parenthesis filter more after =
      no_close filter c.tests c.name n c.outer t no_bracket no_parenthesis (done_part c.ors c.ands) more
      ((closing n c t other filter more).0 after)

  right_done : (n : ℕ) (c : Context) → n + length c.outer ≡ depth_limit → (t : FilterToken) → IsRight n (FactorDone c) t (follow_done c t)
  right_done n c e (Name q) = after_name n c q e (is_word (codes "and") q) refl
  right_done n c e CloseParenthesis = closes_group n c.tests c.name c.ors c.ands c.outer e
  right_done n c e CloseBracket = closes_test n c.tests c.name c.ors c.ands c.outer e
  right_done n c e Any = nothing_closes n c Any (λ q e. cc) (λ e. cc) (λ e. cc)
  right_done n c e OpenBracket = nothing_closes n c OpenBracket (λ q e. cc) (λ e. cc) (λ e. cc)
  right_done n c e OpenParenthesis = nothing_closes n c OpenParenthesis (λ q e. cc) (λ e. cc) (λ e. cc)
  right_done n c e EqualsSign = nothing_closes n c EqualsSign (λ q e. cc) (λ e. cc) (λ e. cc)
  right_done n c e At = nothing_closes n c At (λ q e. cc) (λ e. cc) (λ e. cc)
  right_done n c e (Literal v) = nothing_closes n c (Literal v) (λ q e. cc) (λ e. cc) (λ e. cc)

  -- (5) all together

  pub follows_right : (n : ℕ) (w : FilterState) → n + open_parts w ≡ depth_limit → (t : FilterToken)
      → IsRight n w t (follow_token scope w t)
  follows_right n Start e t =
      through n Start (TestDue []) t (λ filter more. filter_starts scope filter t more) (follow_test scope [] t) (right_test n [] e t)
  follows_right n (TestDue done) e t = right_test n done e t
  follows_right n (Named done name) e t = right_named n done name e t
  follows_right n (Tested done) e t = right_tested n done e t
  follows_right n (FactorDue c) e t = right_factor n c e t
  follows_right n (LocalDue c) e t = right_local n c e t
  follows_right n (EqualsDue c a) e t = right_equals n c a e t
  follows_right n (LiteralDue c a) e t = right_literal n c a e t
  follows_right n (FactorDone c) e t = right_done n c e t
