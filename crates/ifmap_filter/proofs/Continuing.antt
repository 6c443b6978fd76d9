-- How a filter goes on, by one more token. Plan:
-- (1) words that join are told by their parts, and are not one another;
-- (2) tests: what names ask for, and what is after a test: the end, `or`, or a bracket after its name;
-- (3) an or-part is its first factor and what is after it;
-- (4) what is after a factor, by `and`, by `or` and by any other token.
use Rattle.std.proofs.Common.{◌≡◌, ◌≢◌, ℕ, true, false, List, [], ◌∷◌, ◌++◌, refl, ap, sym, ◌∙◌, subst, Option, Some, None, codes}
use Rattle.std.specs.Prelude.{◌↔◌}
use Rattle.std.specs.Str.{bytes_eq}
use Rattle.std.proofs.lemmas.Bool.{and_from, and_parts}
use Rattle.std.proofs.lemmas.List.{append-nil}
use Rattle.ifmap_lemmas.specs.Texts.{eq_itself, eq_tells}
use Rattle.ifmap_lemmas.specs.Joined.{same_parts, push_append}
use Rattle.ifmap_elem.specs.declared.elements.Name as element
use Rattle.ifmap_elem.specs.declared.tokens.Qualified.{Qualified}
use Rattle.ifmap_prefixes.specs.ifmap_reader.declared.scoping.Scope.{Scope}
use Rattle.ifmap_filter.specs.declared.filters.Predicate.{Predicate, And, Or}
use Rattle.ifmap_filter.specs.declared.filters.Test.{Test}
use Rattle.ifmap_filter.specs.declared.filters.Filter.{Filter}
use Rattle.ifmap_filter.specs.declared.tokens.FilterToken.{FilterToken}
use Rattle.ifmap_filter.specs.declared.tokens.FilterToken.TheVariants.{Any, OpenBracket, Name}
use Rattle.ifmap_filter.specs.Grammar.{AreTests, AsksFor, IsFilter, TakesAnds, TakesFactor, TakesMore, TakesOrs, TakesPredicate, TakesTest, and_word, unprefixed_name, depth_limit, join_of, or_word, space_of}
use Rattle.ifmap_filter.specs.Progress.{MoreFactors, MoreTests, PredicateFirst, TestFirst, done_part, join_parts, is_word, test_of}

-- (1) words

pub word_is : (word : List ℕ) (q : Qualified) → is_word word q ≡ true → q ≡ unprefixed_name word
word_is word q h =
    let both = and_parts (bytes_eq q.prefix []) (bytes_eq q.local word) h in
    let p : q.prefix ≡ [] = eq_tells q.prefix [] both.0 in
    let l : q.local ≡ word = eq_tells q.local word both.1 in
    (λ i. record { prefix = p i; local = l i })

pub is_that_word : (word : List ℕ) (q : Qualified) → q ≡ unprefixed_name word → is_word word q ≡ true
is_that_word word q e = ap (is_word word) e ∙ and_from (bytes_eq [] []) (bytes_eq word word) refl (eq_itself word)

pub not_that_word : (word : List ℕ) (q : Qualified) → is_word word q ≡ false → Name q ≢ Name (unprefixed_name word)
not_that_word word q h e = let s : q ≡ unprefixed_name word = cc in let wrong : false ≡ true = sym h ∙ is_that_word word q s in cc

pub and_not_or : and_word ≢ or_word
and_not_or e =
    let q : unprefixed_name (codes "and") ≡ unprefixed_name (codes "or") = cc in
    let wrong : true ≡ false = ap (is_word (codes "and")) q in cc

module _ (scope : Scope) where
  -- (2) tests

  module _ (filter : Filter) where
    pub any_asks : (name : Option element.Name) → AsksFor scope Any name → name ≡ None
    any_asks None e = refl
    any_asks (Some n) a = let e : Any ≡ Name a.0 = a.1 in cc

    pub name_asks : (q : Qualified) (space : List ℕ) → space_of scope q.prefix ≡ Some space → (name : Option element.Name)
        → AsksFor scope (Name q) name
        → name ≡ Some (record { space = space; local = q.local })
    name_asks q space is None e = cc
    name_asks q space is (Some n) (w, e, s) =
        let same : q ≡ w = cc in
        let there : space_of scope q.prefix ≡ Some n.space = ap (λ (v : Qualified). space_of scope v.prefix) same ∙ s.space_is in
        let spaces : n.space ≡ space = cc in
        let locals : n.local ≡ q.local = s.local_is ∙ ap (λ (v : Qualified). v.local) (sym same) in
        (λ i. Some (record { space = spaces i; local = locals i }))

    pub none_asks : (q : Qualified) → space_of scope q.prefix ≡ None → (name : Option element.Name) → AsksFor scope (Name q) name → ⊥
    none_asks q is None e = cc
    none_asks q is (Some n) (w, e, s) =
        let same : q ≡ w = cc in
        let there : space_of scope q.prefix ≡ Some n.space = ap (λ (v : Qualified). space_of scope v.prefix) same ∙ s.space_is in
        cc

    pub name_goes_on : (done : List Test) (t : FilterToken) (name : Option element.Name) → AsksFor scope t name
        → ((other : Option element.Name) → AsksFor scope t other → other ≡ name)
        → (more : List FilterToken) → TestFirst scope filter done (t ∷ more) ↔ PredicateFirst scope filter done name more
    name_goes_on done t name asks only more = (
      (λ (test, mid, takes, rest).
          let same = same_parts t takes.head more takes.after takes.tokens_are in
          let is = only test.name (subst (λ (h : FilterToken). AsksFor scope h test.name) (sym same.0) takes.asks) in (
            test.predicate,
            mid,
            subst (λ (ts : List FilterToken). TakesPredicate scope depth_limit ts test.predicate mid) (sym same.1) takes.holds,
            subst (λ (n : Option element.Name). MoreTests scope filter (done ++ test_of n test.predicate ∷ []) mid) is rest,
          )),
      (λ (p, mid, takes, rest).
          (test_of name p, mid, record { head = t; after = more; tokens_are = refl; asks = asks; holds = takes }, rest)),
    )

    pub no_name_no_test : (done : List Test) (t : FilterToken) → ((name : Option element.Name) → AsksFor scope t name → ⊥)
        → (more : List FilterToken)
        → TestFirst scope filter done (t ∷ more) → ⊥
    no_name_no_test done t none more (test, mid, takes, rest) =
        let same = same_parts t takes.head more takes.after takes.tokens_are in
        none test.name (subst (λ (h : FilterToken). AsksFor scope h test.name) (sym same.0) takes.asks)

    pub filter_starts : (t : FilterToken) (more : List FilterToken)
        → IsFilter scope (t ∷ more) filter ↔ TestFirst scope filter [] (t ∷ more)
    filter_starts t more = (
      (λ is. from filter.tests is refl),
      (λ (test, mid, takes, (tests, others, is)). subst (AreTests scope depth_limit (t ∷ more)) (sym is) (mid, takes, others)),
    )
      where
        from : (tests : List Test) → AreTests scope depth_limit (t ∷ more) tests → filter.tests ≡ tests
            → TestFirst scope filter [] (t ∷ more)
        from [] e is = cc
        from (test ∷ tests) (mid, takes, others) is = (test, mid, takes, (tests, others, is))

    pub tested_or : (done : List Test) (more : List FilterToken)
        → MoreTests scope filter done (or_word ∷ more) ↔ TestFirst scope filter done more
    tested_or done more = (
      (λ (tests, takes, is). from tests takes is),
      (λ (test, mid, takes, (tests, others, is)). (test ∷ tests, (more, mid, refl, takes, others), is ∙ push_append done test tests)),
    )
      where
        from : (tests : List Test) → TakesMore or_word (TakesTest scope depth_limit) (or_word ∷ more) tests []
            → filter.tests ≡ done ++ tests → TestFirst scope filter done more
        from [] e is = cc
        from (test ∷ tests) (after, mid, e, takes, others) is =
            let tail : after ≡ more = cc in (
              test,
              mid,
              subst (λ (ts : List FilterToken). TakesTest scope depth_limit ts test mid) tail takes,
              (tests, others, is ∙ sym (push_append done test tests)),
            )

    pub tested_other : (done : List Test) (t : FilterToken) → t ≢ or_word → (more : List FilterToken)
        → MoreTests scope filter done (t ∷ more) → ⊥
    tested_other done t other more (tests, takes, is) = from tests takes
      where
        from : (tests : List Test) → TakesMore or_word (TakesTest scope depth_limit) (t ∷ more) tests [] → ⊥
        from [] e = cc
        from (test ∷ tests) (after, mid, e, takes, others) = let h : t ≡ or_word = cc in other h

    pub bare_named : (done : List Test) (name : Option element.Name) (t : FilterToken) → t ≢ OpenBracket → (more : List FilterToken)
        → PredicateFirst scope filter done name (t ∷ more) ↔ MoreTests scope filter (done ++ test_of name None ∷ []) (t ∷ more)
    bare_named done name t other more = ((λ (p, mid, takes, rest). from p mid takes rest), (λ rest. (None, t ∷ more, refl, rest)))
      where
        from : (p : Option Predicate) (mid : List FilterToken) → TakesPredicate scope depth_limit (t ∷ more) p mid
            → MoreTests scope filter (done ++ test_of name p ∷ []) mid
            → MoreTests scope filter (done ++ test_of name None ∷ []) (t ∷ more)
        from None mid e rest = subst (MoreTests scope filter (done ++ test_of name None ∷ [])) (sym e) rest
        from (Some p) mid (inner, e, takes) rest = let h : t ≡ OpenBracket = cc in absurd (other h)

  -- (3) an or-part, as its first factor and what is after it

  module _ (n : ℕ) (Then : Predicate → List FilterToken → Type 0) where
    abbrev pub First : List Predicate → List Predicate → List FilterToken → Type 0
    First ors ands ts =
        (q : Predicate) × (mid : List FilterToken) × TakesFactor scope n ts q mid × MoreFactors scope n Then ors (ands ++ q ∷ []) mid

    pub or_part : (ts : List FilterToken) → ((p : Predicate) × (rest : List FilterToken) × TakesOrs (TakesFactor scope n) ts p rest
        × Then p rest) ↔
        First [] [] ts
    or_part ts = (
      (λ (p, rest, takes, follow).
          let one = takes.one in
          let is : p ≡ join_of Or (join_of And one.first one.others) takes.others =
          takes.means ∙ ap (λ f. join_of Or f takes.others) one.means in (
            one.first,
            one.mid,
            one.one,
            record {
              more_ands = one.others;
              more_ors = takes.others;
              mid = takes.mid;
              rest = rest;
              takes_ands = one.more;
              takes_ors = takes.more;
              followed = subst (λ f. Then f rest) is follow;
            },
          )),
      (λ (q, mid, takes, more). (
        join_of Or (join_of And q more.more_ands) more.more_ors,
        more.rest,
        record {
          first = join_of And q more.more_ands;
          others = more.more_ors;
          mid = more.mid;
          one = record { first = q; others = more.more_ands; mid = mid; one = takes; more = more.takes_ands; means = refl };
          more = more.takes_ors;
          means = refl;
        },
        more.followed,
      )),
    )

    -- (4) after a factor

    abbrev pub Refuses : FilterToken → Type 0
    Refuses t = (p : Predicate) (more : List FilterToken) → Then p (t ∷ more) → ⊥

    module _ (ors ands : List Predicate) where
      pub no_more : (ts : List FilterToken) → Then (done_part ors ands) ts → MoreFactors scope n Then ors ands ts
      no_more ts follow = record {
        more_ands = [];
        more_ors = [];
        mid = ts;
        rest = ts;
        takes_ands = refl;
        takes_ors = refl;
        followed = subst (λ as'. Then (join_parts Or (ors ++ (join_parts And as' ∷ []))) ts) (sym (append-nil ands)) follow;
      }

      pub and_more : (more : List FilterToken) → Refuses and_word
          → MoreFactors scope n Then ors ands (and_word ∷ more) ↔ First ors ands more
      and_more more refused = (
        (λ m. from m.more_ands m.more_ors m.mid m.rest m.takes_ands m.takes_ors m.followed),
        (λ (q, mid, takes, m). record {
          more_ands = q ∷ m.more_ands;
          more_ors = m.more_ors;
          mid = m.mid;
          rest = m.rest;
          takes_ands = (more, mid, refl, takes, m.takes_ands);
          takes_ors = m.takes_ors;
          followed = subst (λ as'. Then (join_parts Or (ors ++ (join_parts And as' ∷ m.more_ors))) m.rest) (push_append ands q m.more_ands)
              m.followed;
        }),
      )
        where
          none : (xs : List Predicate) (mid rest : List FilterToken) → and_word ∷ more ≡ mid
              → TakesMore or_word (TakesAnds (TakesFactor scope n)) mid xs rest
              → (p : Predicate) → Then p rest → ⊥
          none [] mid rest e f p follow = refused p more (subst (Then p) (sym (e ∙ f)) follow)
          none (x ∷ xs) mid rest e (after, m, f, takes, others) p follow =
              and_not_or (same_parts and_word or_word more after (e ∙ f)).0

          from : (as' os : List Predicate) (mid rest : List FilterToken)
              → TakesMore and_word (TakesFactor scope n) (and_word ∷ more) as' mid
              → TakesMore or_word (TakesAnds (TakesFactor scope n)) mid os rest
              → Then (join_parts Or (ors ++ (join_parts And (ands ++ as') ∷ os))) rest
              → First ors ands more
          from [] os mid rest e takes_ors follow = absurd (none os mid rest e takes_ors _ follow)
          from (q ∷ as') os mid rest (after, m, e, takes, others) takes_ors follow =
              let tail = (same_parts and_word and_word more after e).1 in (
                q,
                m,
                subst (λ (ts : List FilterToken). TakesFactor scope n ts q m) (sym tail) takes,
                record {
                  more_ands = as';
                  more_ors = os;
                  mid = mid;
                  rest = rest;
                  takes_ands = others;
                  takes_ors = takes_ors;
                  followed = subst (λ bs. Then (join_parts Or (ors ++ (join_parts And bs ∷ os))) rest)
                      (sym (push_append ands q as')) follow;
                },
              )

      pub or_more : (more : List FilterToken) → Refuses or_word
          → MoreFactors scope n Then ors ands (or_word ∷ more) ↔ First (ors ++ join_parts And ands ∷ []) [] more
      or_more more refused = (
        (λ m. from m.more_ands m.more_ors m.mid m.rest m.takes_ands m.takes_ors m.followed),
        (λ (q, mid, takes, m). record {
          more_ands = [];
          more_ors = join_of And q m.more_ands ∷ m.more_ors;
          mid = or_word ∷ more;
          rest = m.rest;
          takes_ands = refl;
          takes_ors = (
            more,
            m.mid,
            refl,
            record {
              first = q;
              others = m.more_ands;
              mid = mid;
              one = takes;
              more = m.takes_ands;
              means =
                  refl;
            },
            m.takes_ors,
          );
          followed =
              subst (λ as'. Then (join_parts Or (ors ++ (join_parts And as' ∷ (join_of And q m.more_ands ∷ m.more_ors)))) m.rest)
              (sym (append-nil ands))
              (subst (λ os. Then (join_parts Or os) m.rest) (push_append ors (join_parts And ands) (join_of And q m.more_ands ∷ m.more_ors))
              m.followed);
        }),
      )
        where
          inner : (xs : List Predicate) (mid rest : List FilterToken) → or_word ∷ more ≡ mid
              → TakesMore or_word (TakesAnds (TakesFactor scope n)) mid xs rest
              → Then (join_parts Or (ors ++ (join_parts And (ands ++ []) ∷ xs))) rest → First (ors ++ join_parts And ands ∷ []) [] more
          inner [] mid rest e f follow = absurd (refused _ more (subst (Then _) (sym (e ∙ f)) follow))
          inner (x ∷ xs) mid rest e (after, m, f, takes, others) follow =
              let tail = (same_parts or_word or_word more after (e ∙ f)).1 in (
                takes.first,
                takes.mid,
                subst (λ (ts : List FilterToken). TakesFactor scope n ts takes.first takes.mid) (sym tail) takes.one,
                record {
                  more_ands = takes.others;
                  more_ors = xs;
                  mid = m;
                  rest = rest;
                  takes_ands = takes.more;
                  takes_ors = others;
                  followed =
                      subst (λ os. Then (join_parts Or os) rest) (sym (push_append ors (join_parts And ands)
                      (join_of And takes.first takes.others ∷ xs)))
                      (subst (λ y. Then (join_parts Or (ors ++ (join_parts And ands ∷ (y ∷ xs)))) rest) takes.means
                      (subst (λ as'. Then (join_parts Or (ors ++ (join_parts And as' ∷ (x ∷ xs)))) rest) (append-nil ands) follow));
                },
              )

          from : (as' os : List Predicate) (mid rest : List FilterToken) → TakesMore and_word (TakesFactor scope n) (or_word ∷ more) as' mid
              → TakesMore or_word (TakesAnds (TakesFactor scope n)) mid os rest
              → Then (join_parts Or (ors ++ (join_parts And (ands ++ as') ∷ os))) rest
              → First (ors ++ join_parts And ands ∷ []) [] more
          from [] os mid rest e takes_ors follow = inner os mid rest e takes_ors follow
          from (q ∷ as') os mid rest (after, m, e, takes, others) takes_ors follow =
              absurd (and_not_or (sym (same_parts or_word and_word more after e).0))

      pub other_more : (t : FilterToken) (more : List FilterToken) → t ≢ and_word → t ≢ or_word
          → MoreFactors scope n Then ors ands (t ∷ more) ↔ Then (done_part ors ands) (t ∷ more)
      other_more t more no_and no_or = (
        (λ m. from m.more_ands m.more_ors m.mid m.rest m.takes_ands m.takes_ors m.followed),
        no_more (t ∷ more),
      )
        where
          inner : (xs : List Predicate) (mid rest : List FilterToken) → t ∷ more ≡ mid
              → TakesMore or_word (TakesAnds (TakesFactor scope n)) mid xs rest
              → Then (join_parts Or (ors ++ (join_parts And (ands ++ []) ∷ xs))) rest → Then (done_part ors ands) (t ∷ more)
          inner [] mid rest e f follow =
              subst (λ as'. Then (join_parts Or (ors ++ (join_parts And as' ∷ []))) (t ∷ more)) (append-nil ands)
              (subst (Then (join_parts Or (ors ++ (join_parts And (ands ++ []) ∷ [])))) (sym (e ∙ f)) follow)
          inner (x ∷ xs) mid rest e (after, m, f, takes, others) follow = absurd (no_or (same_parts t or_word more after (e ∙ f)).0)

          from : (as' os : List Predicate) (mid rest : List FilterToken) → TakesMore and_word (TakesFactor scope n) (t ∷ more) as' mid
              → TakesMore or_word (TakesAnds (TakesFactor scope n)) mid os rest
              → Then (join_parts Or (ors ++ (join_parts And (ands ++ as') ∷ os))) rest
              → Then (done_part ors ands) (t ∷ more)
          from [] os mid rest e takes_ors follow = inner os mid rest e takes_ors follow
          from (q ∷ as') os mid rest (after, m, e, takes, others) takes_ors follow = absurd (no_and (same_parts t and_word more after e).0)
