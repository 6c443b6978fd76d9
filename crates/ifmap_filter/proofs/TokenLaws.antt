-- The token at the front by its first character.
use Rattle.std.proofs.Common.{◌≡◌, ℕ, true, false, List, [], ◌∷◌, refl, ap, sym, ◌∙◌, Some, None}
use Rattle.ifmap_elem.specs.Names.{is_name_start}
use Rattle.ifmap_filter.specs.declared.tokens.FilterToken.{FilterToken}
use Rattle.ifmap_filter.specs.Tokens.{literal_at, name_at, symbol_of, front_token, token_at, with_symbol}
use Rattle.ifmap_prefixes.specs.ifmap_lexer.There.{is_quote}

module _ (cs : List ℕ) (c : ℕ) (more : List ℕ) (is : cs ≡ c ∷ more) where
  pub quote_begins_literal : is_quote c ≡ true → token_at cs ≡ literal_at c more
  quote_begins_literal q = ap token_at is ∙ by
    where
      by : token_at (c ∷ more) ≡ literal_at c more
      by = rw q refl

  pub start_begins_name : is_quote c ≡ false → is_name_start c ≡ true → token_at cs ≡ name_at cs
  start_begins_name q n = ap token_at is ∙ by ∙ ap name_at (sym is)
    where
      by : token_at (c ∷ more) ≡ name_at (c ∷ more)
      by = rw (q, n) refl

  pub symbol : is_quote c ≡ false → is_name_start c ≡ false → token_at cs ≡ with_symbol more (symbol_of c)
  symbol q n = ap token_at is ∙ by
    where
      by : token_at (c ∷ more) ≡ with_symbol more (symbol_of c)
      by = rw (q, n) refl

  pub one_symbol : is_quote c ≡ false → is_name_start c ≡ false → (t : FilterToken) → symbol_of c ≡ Some t
      → token_at cs ≡ Some (front_token t more)
  one_symbol q n t e = symbol q n ∙ ap (with_symbol more) e

  pub no_symbol : is_quote c ≡ false → is_name_start c ≡ false → symbol_of c ≡ None → token_at cs ≡ None
  no_symbol q n e = symbol q n ∙ ap (with_symbol more) e

pub nothing_there : (cs : List ℕ) → cs ≡ [] → token_at cs ≡ None
nothing_there cs e = ap token_at e
