-- Where a reader of filters stands, how a filter goes on from there, and what one more token makes of it.
-- 1. The place (`FilterState`), with the open or-part and what is round it (`Context`), and what the code keeps of both.
-- 2. What is made of parts that are done: joined parts, a comparison, a test.
-- 3. How a whole filter goes on from each place, over the tokens that are left (`IsFilterFrom`), and how deep a place is.
-- 4. One more token, place by place (`follow_test` to `follow_done`), with what opens and closes parentheses and brackets.
-- 5. All together, by the place (`follow_token`), and where a filter may end.
use Rattle.std.specs.Prelude.{◌≡◌, ◌&&◌, ℕ, suc, Bool, true, false, if◌then◌else◌, nat_lt, List, [], ◌∷◌, ◌++◌, codes, length, reverse, Option, Some, None}
use Rattle.std.specs.Str.{bytes_eq}
use Rattle.ifmap_elem.specs.declared.elements.Name as element
use Rattle.ifmap_elem.specs.declared.tokens.Qualified.{Qualified}
use Rattle.ifmap_prefixes.specs.ifmap_reader.declared.scoping.Scope.{Scope}
use Rattle.ifmap_filter.specs.declared.filters.Predicate.{Predicate, Attr, Child, And, Or}
use Rattle.ifmap_filter.specs.declared.filters.Test.{Test}
use Rattle.ifmap_filter.specs.declared.filters.Filter.{Filter}
use Rattle.ifmap_filter.specs.declared.tokens.FilterToken.{FilterToken}
use Rattle.ifmap_filter.specs.declared.tokens.FilterToken.TheVariants.{Any, OpenBracket, CloseBracket, OpenParenthesis, CloseParenthesis, EqualsSign, At, Name, Literal}
use Rattle.ifmap_filter.specs.declared.progress.OuterPart.{OuterPart}
use Rattle.ifmap_filter.specs.declared.progress.OpenPart.{OpenPart}
use Rattle.ifmap_filter.specs.declared.progress.Operand.{Operand}
use Rattle.ifmap_filter.specs.declared.progress.Operand.TheVariants as operand
use Rattle.ifmap_filter.specs.declared.progress.FilterPlace.{FilterPlace}
use Rattle.ifmap_filter.specs.declared.progress.FilterPlace.TheVariants as place
use Rattle.ifmap_filter.specs.declared.progress.FilterProgress.{FilterProgress}
use Rattle.ifmap_filter.specs.Grammar.{IsFilter, TakesAnds, TakesFactor, TakesMore, TakesPredicate, TakesTest, and_word, unprefixed_name, depth_limit, join_of, or_word, space_of}

-- the open or-part in a test's brackets, or in parentheses there: the tests before it, the name of its own, the or-parts round it, the
-- innermost first, its and-parts that are done, and the factors that are done of the one that is not
pub record Context : Type 0 where
  pub tests : List Test
  pub name : Option element.Name
  pub outer : List OuterPart
  pub ors : List Predicate
  pub ands : List Predicate

-- where a reader stands
pub data FilterState : Type 0 where
  Start : FilterState
  TestDue : List Test → FilterState
  Named : List Test → Option element.Name → FilterState
  Tested : List Test → FilterState
  FactorDue : Context → FilterState
  LocalDue : Context → FilterState
  EqualsDue : Context → Operand → FilterState
  LiteralDue : Context → Operand → FilterState
  FactorDone : Context → FilterState

abbrev pub context : OpenPart → Context
context i = record { tests = i.tests; name = i.name; outer = reverse i.outer; ors = i.ors; ands = i.ands }

abbrev pub where_at : FilterPlace → OpenPart → Operand → FilterState
where_at place.Start i a = Start
where_at place.TestDue i a = TestDue i.tests
where_at place.Named i a = Named i.tests i.name
where_at place.Tested i a = Tested i.tests
where_at place.FactorDue i a = FactorDue (context i)
where_at place.LocalDue i a = LocalDue (context i)
where_at place.EqualsDue i a = EqualsDue (context i) a
where_at place.LiteralDue i a = LiteralDue (context i) a
where_at place.FactorDone i a = FactorDone (context i)

abbrev pub filter_state : FilterProgress → FilterState
filter_state s = where_at s.place s.open_part s.operand

-- the reader stands at this place where the token is allowed; where it is not there is none
abbrev pub StandsAt : Bool → FilterProgress → Option FilterState → Type 0
StandsAt true standing place = Some (filter_state standing) ≡ place
StandsAt false standing place = None ≡ place

-- parts that are joined, of which there is one at least
abbrev pub join_parts : (List Predicate → Predicate) → List Predicate → Predicate
join_parts join [] = join []
join_parts join (p ∷ ps) = join_of join p ps

-- the parts are not one alone
abbrev pub IsNotSingle : List Predicate → Type 0
IsNotSingle parts = (p : Predicate) → parts ≡ p ∷ [] → ⊥

-- the predicate of an or-part by what is done of it
abbrev pub done_part : List Predicate → List Predicate → Predicate
done_part ors ands = join_parts Or (ors ++ join_parts And ands ∷ [])

abbrev pub comparison_of : Operand → List ℕ → Predicate
comparison_of (operand.Attribute local) value = Attr local value
comparison_of (operand.Child name) value = Child name value

abbrev pub test_of : Option element.Name → Option Predicate → Test
test_of name predicate = record { name = name; predicate = predicate }

abbrev pub with_factor : Context → Predicate → Context
with_factor c p = record c { ands = c.ands ++ p ∷ [] }

-- after a factor, where parentheses may nest so much deeper, and then as the whole or-part does
pub record MoreFactors (scope : Scope) (n : ℕ) (Then : Predicate → List FilterToken → Type 0) (ors ands : List Predicate)
    (ts : List FilterToken) : Type 0 where
  pub more_ands : List Predicate
  pub more_ors : List Predicate
  pub mid : List FilterToken
  pub rest : List FilterToken
  pub takes_ands : TakesMore and_word (TakesFactor scope n) ts more_ands mid
  pub takes_ors : TakesMore or_word (TakesAnds (TakesFactor scope n)) mid more_ors rest
  pub followed : Then (join_parts Or (ors ++ (join_parts And (ands ++ more_ands) ∷ more_ors))) rest

-- how a filter goes on, in a scope
module _ (scope : Scope) (filter : Filter) where
  -- after these tests
  abbrev pub MoreTests : List Test → List FilterToken → Type 0
  MoreTests done ts = (tests : List Test) × TakesMore or_word (TakesTest scope depth_limit) ts tests [] × (filter.tests ≡ done ++ tests)

  abbrev pub TestFirst : List Test → List FilterToken → Type 0
  TestFirst done ts = (test : Test) × (mid : List FilterToken) × TakesTest scope depth_limit ts test mid × MoreTests (done ++ test ∷ []) mid

  abbrev pub PredicateFirst : List Test → Option element.Name → List FilterToken → Type 0
  PredicateFirst done name ts =
      (p : Option Predicate) × (mid : List FilterToken) × TakesPredicate scope depth_limit ts p mid
      × MoreTests (done ++ test_of name p ∷ []) mid

  -- after an or-part, whose own parentheses may nest so deep
  abbrev pub ClosesOpenParts : List Test → Option element.Name → ℕ → List OuterPart → Predicate → List FilterToken → Type 0
  ClosesOpenParts done name n [] p ts = (after : List FilterToken) × (ts ≡ CloseBracket ∷ after)
      × MoreTests (done ++ test_of name (Some p) ∷ []) after
  ClosesOpenParts done name n (outer_part ∷ outer) p ts =
      (after : List FilterToken) × (ts ≡ CloseParenthesis ∷ after)
      × MoreFactors scope (suc n) (ClosesOpenParts done name (suc n) outer) outer_part.ors (outer_part.ands ++ p ∷ []) after

  -- after a factor in this context, of which parentheses may nest n deep
  abbrev pub AfterFactor : ℕ → Context → List FilterToken → Type 0
  AfterFactor n c ts = MoreFactors scope n (ClosesOpenParts c.tests c.name n c.outer) c.ors c.ands ts

  abbrev pub FactorFirst : ℕ → Context → List FilterToken → Type 0
  FactorFirst n c ts = (p : Predicate) × (mid : List FilterToken) × TakesFactor scope n ts p mid × AfterFactor n (with_factor c p) mid

  abbrev pub LiteralFirst : ℕ → Context → Operand → List FilterToken → Type 0
  LiteralFirst n c a ts =
      (value : List ℕ) × (rest : List FilterToken) × (ts ≡ Literal value ∷ rest)
      × AfterFactor n (with_factor c (comparison_of a value)) rest

  abbrev pub EqualsFirst : ℕ → Context → Operand → List FilterToken → Type 0
  EqualsFirst n c a ts = (rest : List FilterToken) × (ts ≡ EqualsSign ∷ rest) × LiteralFirst n c a rest

  abbrev pub LocalFirst : ℕ → Context → List FilterToken → Type 0
  LocalFirst n c ts =
      (local : List ℕ) × (rest : List FilterToken) × (ts ≡ Name (unprefixed_name local) ∷ rest)
      × EqualsFirst n c (operand.Attribute local) rest

  -- from where a reader stands, where in the innermost or-part parentheses may nest n deep
  abbrev pub IsFilterFrom : ℕ → FilterState → List FilterToken → Type 0
  IsFilterFrom n Start ts = IsFilter scope ts filter
  IsFilterFrom n (TestDue done) ts = TestFirst done ts
  IsFilterFrom n (Named done name) ts = PredicateFirst done name ts
  IsFilterFrom n (Tested done) ts = MoreTests done ts
  IsFilterFrom n (FactorDue c) ts = FactorFirst n c ts
  IsFilterFrom n (LocalDue c) ts = LocalFirst n c ts
  IsFilterFrom n (EqualsDue c a) ts = EqualsFirst n c a ts
  IsFilterFrom n (LiteralDue c a) ts = LiteralFirst n c a ts
  IsFilterFrom n (FactorDone c) ts = AfterFactor n c ts

-- how many or-parts are round the open one
abbrev pub open_parts : FilterState → ℕ
open_parts Start = 0
open_parts (TestDue done) = 0
open_parts (Named done name) = 0
open_parts (Tested done) = 0
open_parts (FactorDue c) = length c.outer
open_parts (LocalDue c) = length c.outer
open_parts (EqualsDue c a) = length c.outer
open_parts (LiteralDue c a) = length c.outer
open_parts (FactorDone c) = length c.outer

-- what one more token makes of it

abbrev pub is_word : List ℕ → Qualified → Bool
is_word word q = bytes_eq q.prefix [] && bytes_eq q.local word

-- the name that a qualified name stands for, where there is one
abbrev pub name_in : Option (List ℕ) → List ℕ → Option element.Name
name_in None local = None
name_in (Some space) local = Some (record { space = space; local = local })

abbrev pub resolved_name : Scope → Qualified → Option element.Name
resolved_name scope q = name_in (space_of scope q.prefix) q.local

abbrev pub asks_named : List Test → Option element.Name → Option FilterState
asks_named done None = None
asks_named done (Some name) = Some (Named done (Some name))

abbrev pub follow_test : Scope → List Test → FilterToken → Option FilterState
follow_test scope done Any = Some (Named done None)
follow_test scope done (Name q) = asks_named done (resolved_name scope q)
follow_test scope done _ = None

abbrev pub follow_tested : List Test → FilterToken → Option FilterState
follow_tested done (Name q) = if is_word (codes "or") q then Some (TestDue done) else None
follow_tested done _ = None

abbrev pub follow_named : List Test → Option element.Name → FilterToken → Option FilterState
follow_named done name OpenBracket = Some (FactorDue (record { tests = done; name = name; outer = []; ors = []; ands = [] }))
follow_named done name t = follow_tested (done ++ test_of name None ∷ []) t

abbrev pub inner_context : Context → Context
inner_context c = record c { outer = record { ors = c.ors; ands = c.ands } ∷ c.outer; ors = []; ands = [] }

abbrev pub inner_place : Context → Option FilterState
inner_place c = if nat_lt (length c.outer) depth_limit then Some (FactorDue (inner_context c)) else None

abbrev pub child_named : Context → Option element.Name → Option FilterState
child_named c None = None
child_named c (Some name) = Some (EqualsDue c (operand.Child name))

abbrev pub follow_factor : Scope → Context → FilterToken → Option FilterState
follow_factor scope c OpenParenthesis = inner_place c
follow_factor scope c At = Some (LocalDue c)
follow_factor scope c (Name q) = child_named c (resolved_name scope q)
follow_factor scope c _ = None

abbrev pub follow_local : Context → FilterToken → Option FilterState
follow_local c (Name q) = if bytes_eq q.prefix [] then Some (EqualsDue c (operand.Attribute q.local)) else None
follow_local c _ = None

abbrev pub follow_equals : Context → Operand → FilterToken → Option FilterState
follow_equals c a EqualsSign = Some (LiteralDue c a)
follow_equals c a _ = None

abbrev pub follow_literal : Context → Operand → FilterToken → Option FilterState
follow_literal c a (Literal value) = Some (FactorDone (with_factor c (comparison_of a value)))
follow_literal c a _ = None

-- the next and-part of the or-part
abbrev pub next_part : Context → Context
next_part c = record c { ors = c.ors ++ join_parts And c.ands ∷ []; ands = [] }

abbrev pub close_group : Context → List OuterPart → Option FilterState
close_group c [] = None
close_group c (outer_part ∷ outer) =
    Some (FactorDone (record c { outer = outer; ors = outer_part.ors; ands = outer_part.ands ++ done_part c.ors c.ands ∷ [] }))

abbrev pub close_test : Context → List OuterPart → Option FilterState
close_test c [] = Some (Tested (c.tests ++ test_of c.name (Some (done_part c.ors c.ands)) ∷ []))
close_test c (outer_part ∷ outer) = None

-- `and`, or `or`, with which the next and-part begins
abbrev pub follow_joining : Context → Qualified → Option FilterState
follow_joining c q =
    if is_word (codes "and") q then Some (FactorDue c) else if is_word (codes "or") q then Some (FactorDue (next_part c)) else None

abbrev pub follow_done : Context → FilterToken → Option FilterState
follow_done c (Name q) = follow_joining c q
follow_done c CloseParenthesis = close_group c c.outer
follow_done c CloseBracket = close_test c c.outer
follow_done c _ = None

abbrev pub follow_token : Scope → FilterState → FilterToken → Option FilterState
follow_token scope Start t = follow_test scope [] t
follow_token scope (TestDue done) t = follow_test scope done t
follow_token scope (Named done name) t = follow_named done name t
follow_token scope (Tested done) t = follow_tested done t
follow_token scope (FactorDue c) t = follow_factor scope c t
follow_token scope (LocalDue c) t = follow_local c t
follow_token scope (EqualsDue c a) t = follow_equals c a t
follow_token scope (LiteralDue c a) t = follow_literal c a t
follow_token scope (FactorDone c) t = follow_done c t

-- the filter, where the text may end here
abbrev pub filter_at : FilterState → Option Filter
filter_at Start = Some (record { tests = [] })
filter_at (Named done name) = Some (record { tests = done ++ test_of name None ∷ [] })
filter_at (Tested done) = Some (record { tests = done })
filter_at _ = None
