-- Which tokens are which filter in a scope of prefixes: a grammar made after the filters of the IF-MAP binding for SOAP, version 2.2.
use Rattle.std.specs.Prelude.{◌≡◌, ◌⊎◌, ℕ, zero, suc, if◌then◌else◌, List, [], ◌∷◌, codes, Option, Some, None}
use Rattle.std.specs.Map.{lookup}
use Rattle.std.specs.Str.{bytes_eq}
use Rattle.ifmap_elem.specs.Scopes.{xml_space}
use Rattle.ifmap_elem.specs.declared.elements.Name as element
use Rattle.ifmap_elem.specs.declared.tokens.Qualified.{Qualified}
use Rattle.ifmap_prefixes.specs.ifmap_reader.declared.scoping.Scope.{Scope}
use Rattle.ifmap_filter.specs.declared.filters.Predicate.{Predicate, Attr, Child, And, Or}
use Rattle.ifmap_filter.specs.declared.filters.Test.{Test}
use Rattle.ifmap_filter.specs.declared.filters.Filter.{Filter}
use Rattle.ifmap_filter.specs.declared.tokens.FilterToken.{FilterToken}
use Rattle.ifmap_filter.specs.declared.tokens.FilterToken.TheVariants.{Any, OpenBracket, CloseBracket, OpenParenthesis, CloseParenthesis, EqualsSign, At, Name, Literal}

-- what a grammar rule takes from the front of tokens, and what is left
abbrev pub Rule : Type 0 → Type 1
Rule X = List FilterToken → X → List FilterToken → Type 0

abbrev pub unprefixed_name : List ℕ → Qualified
unprefixed_name local = record { prefix = []; local = local }

-- the two names that join
abbrev pub or_word : FilterToken
or_word = Name (unprefixed_name (codes "or"))

abbrev pub and_word : FilterToken
and_word = Name (unprefixed_name (codes "and"))

-- the namespace of a prefix: none without a prefix, its own for `xml` in every scope (Namespaces in XML 1.0, section 3), and else what the
-- first row with it says
abbrev pub space_of : Scope → List ℕ → Option (List ℕ)
space_of scope [] = Some []
space_of scope (b ∷ bs) = if bytes_eq (b ∷ bs) (codes "xml") then Some xml_space else lookup (bytes_eq (b ∷ bs)) scope.rows

-- the name that a qualified name stands for
pub record StandsFor (scope : Scope) (q : Qualified) (name : element.Name) : Type 0 where
  pub space_is : space_of scope q.prefix ≡ Some name.space
  pub local_is : name.local ≡ q.local

-- `@`, a name without a prefix, `=`, and a literal
pub record TakesAttribute (ts : List FilterToken) (p : Predicate) (rest : List FilterToken) : Type 0 where
  pub local : List ℕ
  pub value : List ℕ
  pub tokens_are : ts ≡ At ∷ (Name (unprefixed_name local) ∷ (EqualsSign ∷ (Literal value ∷ rest)))
  pub means : p ≡ Attr local value

-- a name, `=`, and a literal
pub record TakesChild (scope : Scope) (ts : List FilterToken) (p : Predicate) (rest : List FilterToken) : Type 0 where
  pub written : Qualified
  pub name : element.Name
  pub value : List ℕ
  pub tokens_are : ts ≡ Name written ∷ (EqualsSign ∷ (Literal value ∷ rest))
  pub named : StandsFor scope written name
  pub means : p ≡ Child name value

abbrev pub TakesComparison : Scope → Rule Predicate
TakesComparison scope ts p rest = TakesAttribute ts p rest ⊎ TakesChild scope ts p rest

-- parentheses round what this rule takes
abbrev pub TakesGroup : Rule Predicate → Rule Predicate
TakesGroup Inner ts p rest = (inner : List FilterToken) × (ts ≡ OpenParenthesis ∷ inner) × Inner inner p (CloseParenthesis ∷ rest)

-- further parts, each after the word that joins them
abbrev pub TakesMore : {X : Type 0} → FilterToken → Rule X → List FilterToken → List X → List FilterToken → Type 0
TakesMore word Part ts [] rest = ts ≡ rest
TakesMore word Part ts (x ∷ xs) rest =
    (after mid : List FilterToken) × (ts ≡ word ∷ after) × Part after x mid × TakesMore word Part mid xs rest

-- one part is that part; two or more are joined
abbrev pub join_of : (List Predicate → Predicate) → Predicate → List Predicate → Predicate
join_of join first [] = first
join_of join first (p ∷ ps) = join (first ∷ (p ∷ ps))

-- parts that a word joins
pub record TakesJoined (join : List Predicate → Predicate) (word : FilterToken) (Part : Rule Predicate) (ts : List FilterToken) (p :
    Predicate)
    (rest : List FilterToken) : Type 0 where
  pub first : Predicate
  pub others : List Predicate
  pub mid : List FilterToken
  pub one : Part ts first mid
  pub more : TakesMore word Part mid others rest
  pub means : p ≡ join_of join first others

-- factors joined by `and`; such parts joined by `or`
abbrev pub TakesAnds : Rule Predicate → Rule Predicate
TakesAnds Factor = TakesJoined And and_word Factor

abbrev pub TakesOrs : Rule Predicate → Rule Predicate
TakesOrs Factor = TakesJoined Or or_word (TakesAnds Factor)

-- a factor in which parentheses nest at most so deep: a comparison, or parentheses in which they nest less deep
abbrev pub TakesFactor : Scope → ℕ → Rule Predicate
TakesFactor scope zero ts p rest = TakesComparison scope ts p rest
TakesFactor scope (suc n) ts p rest = TakesComparison scope ts p rest ⊎ TakesGroup (TakesOrs (TakesFactor scope n)) ts p rest

-- how deep parentheses may nest in a filter
unfoldable pub depth_limit : ℕ
depth_limit = 64

-- what stands in brackets, where parentheses nest at most so deep
abbrev pub TakesOrPart : Scope → ℕ → Rule Predicate
TakesOrPart scope depth = TakesOrs (TakesFactor scope depth)

-- the name that a test asks for: `*` for any
abbrev pub AsksFor : Scope → FilterToken → Option element.Name → Type 0
AsksFor scope t None = t ≡ Any
AsksFor scope t (Some name) = (q : Qualified) × (t ≡ Name q) × StandsFor scope q name

-- a predicate in brackets, or none
abbrev pub TakesPredicate : Scope → ℕ → Rule (Option Predicate)
TakesPredicate scope depth ts None rest = ts ≡ rest
TakesPredicate scope depth ts (Some p) rest =
    (inner : List FilterToken) × (ts ≡ OpenBracket ∷ inner) × TakesOrPart scope depth inner p (CloseBracket ∷ rest)

pub record TakesTest (scope : Scope) (depth : ℕ) (ts : List FilterToken) (test : Test) (rest : List FilterToken) : Type 0 where
  pub head : FilterToken
  pub after : List FilterToken
  pub tokens_are : ts ≡ head ∷ after
  pub asks : AsksFor scope head test.name
  pub holds : TakesPredicate scope depth after test.predicate rest

-- no tests, or tests joined by `or`
abbrev pub AreTests : Scope → ℕ → List FilterToken → List Test → Type 0
AreTests scope depth ts [] = ts ≡ []
AreTests scope depth ts (test ∷ tests) =
    (mid : List FilterToken) × TakesTest scope depth ts test mid × TakesMore or_word (TakesTest scope depth) mid tests []

-- the tokens are this filter, with parentheses that nest at most so deep
abbrev pub IsFilterWithin : ℕ → Scope → List FilterToken → Filter → Type 0
IsFilterWithin depth scope ts filter = AreTests scope depth ts filter.tests

-- the tokens are this filter
abbrev pub IsFilter : Scope → List FilterToken → Filter → Type 0
IsFilter = IsFilterWithin depth_limit
