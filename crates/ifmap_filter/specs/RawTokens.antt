-- Which token a raw one is, which borrows from the text what is written there.
use Rattle.std.specs.Prelude.{◌≡◌, ℕ, List, chars, Option, Some}
use Rattle.ifmap_prefixes.specs.ifmap_lexer.There.{qualified_of}
use Rattle.ifmap_filter.specs.declared.raw_tokens.RawToken.{RawToken}
use Rattle.ifmap_filter.specs.declared.raw_tokens.RawToken.TheVariants as raw
use Rattle.ifmap_filter.specs.declared.tokens.FilterToken.{FilterToken}
use Rattle.ifmap_filter.specs.declared.tokens.FilterToken.TheVariants.{Any, OpenBracket, CloseBracket, OpenParenthesis, CloseParenthesis, EqualsSign, At, Name, Literal}
use Rattle.ifmap_filter.specs.Tokens.{FrontToken, front_token}

abbrev pub token_of_raw : RawToken → FilterToken
token_of_raw raw.Any = Any
token_of_raw raw.OpenBracket = OpenBracket
token_of_raw raw.CloseBracket = CloseBracket
token_of_raw raw.OpenParenthesis = OpenParenthesis
token_of_raw raw.CloseParenthesis = CloseParenthesis
token_of_raw raw.EqualsSign = EqualsSign
token_of_raw raw.At = At
token_of_raw (raw.Name prefix local) = Name (qualified_of prefix.now local.now)
token_of_raw (raw.Literal value) = Literal value.now

-- what stands at the front is this raw's token, and this text is left
abbrev pub IsFrontToken : Option FrontToken → RawToken → List ℕ → Type 0
IsFrontToken front m rest = front ≡ Some (front_token (token_of_raw m) (chars rest))
