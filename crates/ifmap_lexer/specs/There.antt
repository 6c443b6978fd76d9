-- What may stand at the front of bytes, or be written with them. A refusal says that it does not.
use Rattle.std.specs.Prelude.{◌≡◌, ℕ, Bool, true, ◌==◌, ◌||◌, List, ◌∷◌, ◌++◌}
use Rattle.ifmap_elem.specs.Chars.{AllAre, IsCharacters, double_quote, less_than, single_quote}
use Rattle.ifmap_elem.specs.Names.{IsQualified, name_bytes}
use Rattle.ifmap_elem.specs.Tokens.{TakesAssignment, TakesQuoted, TakesTag, TakesToken}
use Rattle.ifmap_elem.specs.Values.{SpellsOut, IsValue}
use Rattle.ifmap_elem.specs.declared.tokens.Assignment.{Assignment}
use Rattle.ifmap_elem.specs.declared.tokens.Qualified.{Qualified}
use Rattle.ifmap_elem.specs.declared.tokens.Tag.{Tag}
use Rattle.ifmap_elem.specs.declared.tokens.Token.{Token}
use Rattle.ifmap_elem.specs.declared.tokens.Token.TheVariants.{End}
use Rattle.ifmap_lemmas.specs.Cuts.{Stops}
use Rattle.ifmap_lexer.specs.Cutting.{is_but}
use Rattle.ifmap_elem.specs.laws.NameBytes.{is_name_byte}
use Rattle.ifmap_lexer.specs.Runs.{part_in}
use Rattle.ifmap_lexer.specs.Settings.{SetsTo}
use Rattle.ifmap_lexer.specs.Tags.{ClosesTag, TakesAssignments}
use Rattle.ifmap_elem.specs.declared.escaping.TextPlace.{TextPlace}

-- nothing is left by one that stands there
abbrev pub NoneLeaves : (List ℕ → Type 0) → Type 0
NoneLeaves Leaves = (rest : List ℕ) → Leaves rest → ⊥

-- a qualified name, up to the first byte that no name has
abbrev pub NameAt : List ℕ → Qualified → List ℕ → Type 0
NameAt bytes name rest = IsQualified name × (bytes ≡ name_bytes name ++ rest) × Stops is_name_byte rest

abbrev pub SomeName : List ℕ → Type 0
SomeName bytes = (name : Qualified) × (rest : List ℕ) × IsQualified name × (bytes ≡ name_bytes name ++ rest) × Stops is_name_byte rest

-- the bytes are a qualified name
abbrev pub AreQualifiedName : List ℕ → Type 0
AreQualifiedName bytes = (name : Qualified) × IsQualified name × (name_bytes name ≡ bytes)

-- a quote, and what is after it
abbrev pub is_quote : ℕ → Bool
is_quote b = b == double_quote || b == single_quote

abbrev pub BeginsQuoted : ℕ → List ℕ → List ℕ → Type 0
BeginsQuoted quote rest bytes = (bytes ≡ quote ∷ rest) × (is_quote quote ≡ true)

abbrev pub BeginsNoQuoted : List ℕ → Type 0
BeginsNoQuoted bytes = (quote : ℕ) (rest : List ℕ) → is_quote quote ≡ true → bytes ≡ quote ∷ rest → ⊥

-- no value in quotes, or none that a name is set to
abbrev pub NoQuoted : List ℕ → Type 0
NoQuoted bytes = (written rest : List ℕ) → TakesQuoted bytes written rest → ⊥

abbrev pub NotSet : List ℕ → List ℕ → Type 0
NotSet name bytes = (written rest : List ℕ) → SetsTo name bytes written rest → ⊥

-- what is written between quotes gives a value
abbrev pub IsGiven : List ℕ → List ℕ → Type 0
IsGiven written value = IsCharacters written × AllAre (is_but less_than) written × IsValue written value

abbrev pub SomeGiven : List ℕ → Type 0
SomeGiven written = (value : List ℕ) × IsCharacters written × AllAre (is_but less_than) written × IsValue written value

-- written characters mean something in their place
abbrev pub SomeExpansion : TextPlace → List ℕ → Type 0
SomeExpansion place written = (text : List ℕ) × SpellsOut (part_in place) written text

abbrev pub SomeAssignment : List ℕ → Type 0
SomeAssignment bytes = (a : Assignment) × (rest : List ℕ) × TakesAssignment bytes a rest

abbrev pub SomeAssignments : List ℕ → Type 0
SomeAssignments bytes = (assignments : List Assignment) × (end : List ℕ) × TakesAssignments bytes assignments end

abbrev pub SomeTag : List ℕ → Type 0
SomeTag bytes = (tag : Tag) × (end : List ℕ) × TakesTag bytes tag end × ClosesTag end

abbrev pub SomeToken : List ℕ → Type 0
SomeToken bytes = (t : Token) × (rest : List ℕ) × TakesToken bytes t rest

abbrev pub NoToken : List ℕ → Type 0
NoToken bytes = (t : Token) (rest : List ℕ) → TakesToken bytes t rest → ⊥

-- the token is the only one there, and what it leaves the only rest
abbrev pub IsAlone : List ℕ → Token → List ℕ → Type 0
IsAlone bytes token left = (t : Token) (rest : List ℕ) → TakesToken bytes t rest → (t ≡ token) × (rest ≡ left)

-- the name with these parts, and what is after it
abbrev pub qualified_of : List ℕ → List ℕ → Qualified
qualified_of prefix local = record { prefix = prefix; local = local }

abbrev pub BeginsNamed : List ℕ → List ℕ → List ℕ → List ℕ → Type 0
BeginsNamed prefix local bytes rest = IsQualified (qualified_of prefix local) × (bytes ≡ name_bytes (qualified_of prefix local) ++ rest)

-- the end tag of the name with these parts
abbrev pub end_token : List ℕ → List ℕ → Token
end_token prefix local = End (qualified_of prefix local)

-- the end tag stands at the front, as the only token there, and this is left
abbrev pub TakesEndTag : List ℕ → List ℕ → List ℕ → List ℕ → Type 0
TakesEndTag prefix local bytes rest = TakesToken bytes (end_token prefix local) rest × IsAlone bytes (end_token prefix local) rest
