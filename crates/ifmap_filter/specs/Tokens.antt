-- The tokens of a filter, by the characters of its text. Names are those of XML 1.0 (fifth edition), section 2.3, and of Namespaces in
-- XML 1.0, section 4; white space is that of XML 1.0, section 2.3.
use Rattle.std.specs.Prelude.{◌≡◌, ℕ, Bool, ◌==◌, if◌then◌else◌, List, [], ◌∷◌, encode_utf8_all, Option, Some, None}
use Rattle.std.specs.Str.{byte}
use Rattle.ifmap_elem.specs.Chars.{colon, equals_sign, is_white}
use Rattle.ifmap_elem.specs.Names.{is_name_character, is_name_start}
use Rattle.ifmap_filter.specs.declared.tokens.FilterToken.{FilterToken}
use Rattle.ifmap_filter.specs.declared.tokens.FilterToken.TheVariants.{Any, OpenBracket, CloseBracket, OpenParenthesis, CloseParenthesis, EqualsSign, At, Name, Literal}
use Rattle.ifmap_prefixes.specs.ifmap_lexer.Cutting.{is_but}
use Rattle.ifmap_prefixes.specs.ifmap_lexer.There.{is_quote}

-- a token at the front of characters, and what is left
pub record FrontToken : Type 0 where
  pub token : FilterToken
  pub rest : List ℕ

abbrev pub front_token : FilterToken → List ℕ → FrontToken
front_token t cs = record { token = t; rest = cs }

-- the characters at the front that pass, and what is left after them
abbrev pub front_while : (ℕ → Bool) → List ℕ → List ℕ
front_while p [] = []
front_while p (c ∷ cs) = if p c then c ∷ front_while p cs else []

abbrev pub after_while : (ℕ → Bool) → List ℕ → List ℕ
after_while p [] = []
after_while p (c ∷ cs) = if p c then after_while p cs else c ∷ cs

abbrev pub without_white : List ℕ → List ℕ
without_white cs = after_while is_white cs

-- the token that is one character
abbrev pub symbol_of : ℕ → Option FilterToken
symbol_of c =
    if c == byte "*" then Some Any else if c == byte "[" then Some OpenBracket else if c == byte "]" then Some CloseBracket
    else if c == byte "(" then Some OpenParenthesis else if c == byte ")" then Some CloseParenthesis
    else if c == equals_sign then Some EqualsSign else if c == byte "@" then Some At else None

abbrev pub with_symbol : List ℕ → Option FilterToken → Option FrontToken
with_symbol cs None = None
with_symbol cs (Some t) = Some (front_token t cs)

-- a literal of these characters, where a character ends it, which is its quote
abbrev pub closed_literal : List ℕ → List ℕ → Option FrontToken
closed_literal own [] = None
closed_literal own (quote ∷ rest) = Some (front_token (Literal (encode_utf8_all own)) rest)

-- the literal after its first quote: all up to the next quote of that kind
abbrev pub literal_at : ℕ → List ℕ → Option FrontToken
literal_at quote cs = closed_literal (front_while (is_but quote) cs) (after_while (is_but quote) cs)

-- the bytes of the name characters at the front
abbrev pub part_bytes : List ℕ → List ℕ
part_bytes cs = encode_utf8_all (front_while is_name_character cs)

abbrev pub name_token : List ℕ → List ℕ → FilterToken
name_token prefix local = Name (record { prefix = prefix; local = local })

-- the name of this prefix, after its colon: where no part begins there, none
abbrev pub prefixed_name_at : List ℕ → List ℕ → Option FrontToken
prefixed_name_at prefix [] = None
prefixed_name_at prefix (c ∷ cs) =
    if is_name_start c then Some (front_token (name_token prefix (part_bytes (c ∷ cs))) (after_while is_name_character (c ∷ cs))) else None

-- the name whose first part this is: a colon after it makes it a prefix
abbrev pub name_from : List ℕ → List ℕ → Option FrontToken
name_from part [] = Some (front_token (name_token [] part) [])
name_from part (c ∷ cs) = if c == colon then prefixed_name_at part cs else Some (front_token (name_token [] part) (c ∷ cs))

-- the name at the front, whose parts are as long as can be
abbrev pub name_at : List ℕ → Option FrontToken
name_at cs = name_from (part_bytes cs) (after_while is_name_character cs)

-- the token at the front, by its first character; none where it is malformed, or nothing is there
abbrev pub token_at : List ℕ → Option FrontToken
token_at [] = None
token_at (c ∷ cs) =
    if is_quote c then literal_at c cs else if is_name_start c then name_at (c ∷ cs) else with_symbol cs (symbol_of c)

-- the token stands at the front, after white space or none, and this is left
abbrev pub Takes : List ℕ → FilterToken → List ℕ → Type 0
Takes cs t rest = token_at (without_white cs) ≡ Some (front_token t rest)

-- no token is left
abbrev pub HasNoToken : List ℕ → Type 0
HasNoToken cs = without_white cs ≡ []
