-- Which texts are which filter in a scope, and where a text stops to be one.
use Rattle.std.specs.Prelude.{◌≡◌, ℕ, ◌-◌, List, [], ◌∷◌, ◌++◌, length, chars, encode_utf8_all, Result, Ok, Err}
use Rattle.ifmap_lemmas.specs.Items.{To}
use Rattle.ifmap_prefixes.specs.ifmap_reader.declared.scoping.Scope.{Scope}
use Rattle.ifmap_filter.specs.declared.errors.FilterError.{FilterError}
use Rattle.ifmap_filter.specs.declared.errors.FilterError.TheVariants.{NotAFilter, NoMemory}
use Rattle.ifmap_filter.specs.declared.filters.Filter.{Filter}
use Rattle.ifmap_filter.specs.declared.tokens.FilterToken.{FilterToken}
use Rattle.ifmap_filter.specs.Grammar.{IsFilter, IsFilterWithin, depth_limit}
use Rattle.ifmap_filter.specs.Tokens.{HasNoToken, Takes, without_white}

-- the text is tokens, and the tokens are this filter, with parentheses that nest at most so deep
pub record WritesFilterWithin (depth : ℕ) (text : List ℕ) (scope : Scope) (filter : Filter) : Type 0 where
  pub tokens : List FilterToken
  pub rest : List ℕ
  pub lexed : To Takes (chars text) tokens rest
  pub is_end : HasNoToken rest
  pub filter_is : IsFilterWithin depth scope tokens filter

-- the text writes this filter
abbrev pub WritesFilter : List ℕ → Scope → Filter → Type 0
WritesFilter = WritesFilterWithin depth_limit

-- some filter begins with these tokens
pub record BeginsFilter (scope : Scope) (ts : List FilterToken) : Type 0 where
  pub more : List FilterToken
  pub filter : Filter
  pub filter_is : IsFilter scope (ts ++ more) filter

-- the offset of the next token, or of the text's end, where these characters are left
abbrev pub token_offset : List ℕ → List ℕ → ℕ
token_offset text rest = length text - length (encode_utf8_all (without_white rest))

-- the place of the first token that is not allowed after the tokens before it or is malformed, or of the text's end where the tokens
-- are no filter yet
pub record StopsAt (text : List ℕ) (scope : Scope) (at : ℕ) : Type 0 where
  pub tokens : List FilterToken
  pub rest : List ℕ
  pub lexed : To Takes (chars text) tokens rest
  pub begins : BeginsFilter scope tokens
  pub no_further : (t : FilterToken) (after : List ℕ) → Takes rest t after → BeginsFilter scope (tokens ++ t ∷ []) → ⊥
  pub unfinished : (filter : Filter) → HasNoToken rest → IsFilter scope tokens filter → ⊥
  pub at_is : at ≡ token_offset text rest

-- what reading the text answers
abbrev pub IsParsed : List ℕ → Scope → Result Filter FilterError → Type 0
IsParsed text scope (Ok filter) = WritesFilter text scope filter
IsParsed text scope (Err (NotAFilter at)) = StopsAt text scope at
IsParsed text scope (Err NoMemory) = Unit {0}
