-- What a reader of filters has reached.
use Rattle.std.specs.Prelude.{◌≡◌, ◌↔◌, ◌⊎◌, ◌≤◌, ℕ, ◌+◌, List, ◌++◌, IsUtf8, chars, length, Some, None, Result, Ok, Err}
use Rattle.ifmap_lemmas.specs.Items.{To}
use Rattle.ifmap_prefixes.specs.ifmap_reader.declared.scoping.Scope.{Scope}
use Rattle.ifmap_filter.specs.declared.errors.FilterError.{FilterError}
use Rattle.ifmap_filter.specs.declared.errors.FilterError.TheVariants.{NotAFilter, NoMemory}
use Rattle.ifmap_filter.specs.declared.filters.Filter.{Filter}
use Rattle.ifmap_filter.specs.declared.tokens.FilterToken.{FilterToken}
use Rattle.ifmap_filter.specs.Grammar.{IsFilter, depth_limit}
use Rattle.ifmap_filter.specs.Progress.{IsFilterFrom, FilterState, open_parts, follow_token, filter_at}
use Rattle.ifmap_filter.specs.Tokens.{Takes, front_token, token_at, without_white}

-- after the tokens before these characters a reader stands there: what is a filter after them is what goes on from there
pub record ReadsTo (text : List ℕ) (scope : Scope) (w : FilterState) (cs : List ℕ) : Type 0 where
  pub tokens : List FilterToken
  pub room : ℕ
  pub room_is : room + open_parts w ≡ depth_limit
  pub lexed : To Takes (chars text) tokens cs
  pub goes : (filter : Filter) (more : List FilterToken) → IsFilter scope (tokens ++ more) filter ↔ IsFilterFrom scope filter room w more

-- the same where this is left after white space, no longer than the text
pub record ReachesWhite (text : List ℕ) (scope : Scope) (w : FilterState) (rest : List ℕ) : Type 0 where
  pub cs : List ℕ
  pub reached : ReadsTo text scope w cs
  pub rest_is : chars rest ≡ without_white cs
  pub within : length rest ≤ length text

-- the token at the front leads to that place, and this is left after white space
pub record ReadsOnTo (scope : Scope) (w : FilterState) (rest : List ℕ) (next : FilterState) (left : List ℕ) : Type 0 where
  pub token : FilterToken
  pub after : List ℕ
  pub is_there : token_at (chars rest) ≡ Some (front_token token after)
  pub follows : follow_token scope w token ≡ Some next
  pub left_is : chars left ≡ without_white after
  pub is_text : IsUtf8 left

-- no token stands at the front, or one that is not allowed
abbrev pub IsStuck : Scope → FilterState → List ℕ → Type 0
IsStuck scope w rest =
    (token_at (chars rest) ≡ None)
    ⊎ ((t : FilterToken) × (after : List ℕ) × (token_at (chars rest) ≡ Some (front_token t after)) × (follow_token scope w t ≡ None))

abbrev pub IsRefused : Scope → FilterState → List ℕ → ℕ → FilterError → Type 0
IsRefused scope w rest at (NotAFilter place) = (place ≡ at) × IsStuck scope w rest
IsRefused scope w rest at NoMemory = Unit {0}

-- the filter, where the text may end, and else its end
abbrev pub IsEndAnswer : FilterState → ℕ → Result Filter FilterError → Type 0
IsEndAnswer w at (Ok filter) = filter_at w ≡ Some filter
IsEndAnswer w at (Err (NotAFilter place)) = (place ≡ at) × (filter_at w ≡ None)
IsEndAnswer w at (Err NoMemory) = Unit {0}
