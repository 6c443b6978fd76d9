-- Which kinds of tokens their first bytes tell apart.
use Rattle.std.specs.Prelude.{◌≡◌, ℕ, ◌==◌, if◌then◌else◌, List, [], ◌∷◌}
use Rattle.std.specs.Str.{byte}
use Rattle.ifmap_elem.specs.Chars.{less_than}
use Rattle.ifmap_elem.specs.Tokens.{TakesToken}
use Rattle.ifmap_elem.specs.declared.tokens.Token.{Token}
use Rattle.ifmap_elem.specs.declared.tokens.Token.TheVariants as tokens
use Rattle.ifmap_elem.specs.declared.tokens.TokenKind.{TokenKind}
use Rattle.ifmap_elem.specs.declared.tokens.TokenKind.TheVariants.{Nothing, Text, Declaration, End, Tag, Comment, Section}

-- the kind of a token
abbrev pub kind_of : Token → TokenKind
kind_of tokens.Declaration = Declaration
kind_of tokens.Comment = Comment
kind_of (tokens.Start tag) = Tag
kind_of (tokens.Empty tag) = Tag
kind_of (tokens.End name) = End
kind_of (tokens.Section text) = Section
kind_of (tokens.Characters blank text) = Text

-- the kind that begins with `<!` and then with these bytes
abbrev pub kind_of_section : List ℕ → TokenKind
kind_of_section [] = Nothing
kind_of_section (b ∷ bs) =
    if b == byte "-" then Comment else (if b == byte "[" then Section else Nothing)

-- the kind that begins with `<` and then with these bytes
abbrev pub kind_of_markup : List ℕ → TokenKind
kind_of_markup [] = Nothing
kind_of_markup (b ∷ bs) =
    if b == byte "?" then Declaration
    else (if b == byte "/" then End else (if b == byte "!" then kind_of_section bs else Tag))

-- the kind that begins with these bytes
abbrev pub kind_at : List ℕ → TokenKind
kind_at [] = Nothing
kind_at (b ∷ bs) = if b == less_than then kind_of_markup bs else Text

-- some token of the kind stands at the front
abbrev pub Stands : TokenKind → List ℕ → Type 0
Stands kind bytes = (t : Token) × (rest : List ℕ) × TakesToken bytes t rest × (kind_of t ≡ kind)
