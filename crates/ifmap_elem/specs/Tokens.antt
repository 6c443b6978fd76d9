-- The tokens of a document, each by the bytes that it takes from the front: XML 1.0 (fifth edition), section 2.4 for
-- text, 2.5 for comments, 2.7 for character sections, 2.8 for the declaration and 3.1 for tags.
use Rattle.std.specs.Prelude.{◌≡◌, ◌≢◌, ℕ, Bool, true, false, not, ◌==◌, ◌||◌, ◌⊎◌, List, [], ◌∷◌, ◌++◌, map, codes}
use Rattle.std.specs.Char.{to_ascii_uppercase}
use Rattle.std.specs.List.{list_all, starts_with}
use Rattle.ifmap_lemmas.specs.Items.{To}
use Rattle.ifmap_elem.specs.Chars.{AllAre, IsCharacters, IsWhite, double_quote, equals_sign, is_white, less_than, single_quote}
use Rattle.ifmap_elem.specs.declared.tokens.Assignment.{Assignment}
use Rattle.ifmap_elem.specs.declared.tokens.Qualified.{Qualified}
use Rattle.ifmap_elem.specs.declared.tokens.Tag.{Tag}
use Rattle.ifmap_elem.specs.declared.tokens.Token.{Token}
use Rattle.ifmap_elem.specs.declared.tokens.Token.TheVariants.{Declaration, Comment, Start, Empty, End, Section, Characters}
use Rattle.ifmap_elem.specs.Names.{IsQualified, name_bytes}
use Rattle.ifmap_elem.specs.Values.{IsText, IsValue, line_ends}

-- the word begins at no place in the bytes
abbrev pub Lacks : List ℕ → List ℕ → Type 0
Lacks word [] = Unit {0}
Lacks word (b ∷ bs) = (starts_with ◌==◌ (b ∷ bs) word ≡ false) × Lacks word bs

-- an equals sign, with white space round it or none, and a value in single or double quotes that does not hold its own quote
pub record TakesQuoted (bytes written rest : List ℕ) : Type 0 where
  pub before : List ℕ
  pub after : List ℕ
  pub quote : ℕ
  pub bytes_are : bytes ≡ before ++ (equals_sign ∷ (after ++ (quote ∷ (written ++ (quote ∷ rest)))))
  pub white_before : IsWhite before
  pub white_after : IsWhite after
  pub is_quote : (quote == double_quote || quote == single_quote) ≡ true
  pub unquoted : AllAre (λ b. not (b == quote)) written

-- white space, a name and a value without `<`
pub record TakesAssignment (bytes : List ℕ) (a : Assignment) (rest : List ℕ) : Type 0 where
  pub white : List ℕ
  pub after : List ℕ
  pub written : List ℕ
  pub bytes_are : bytes ≡ white ++ (name_bytes a.name ++ after)
  pub is_white : IsWhite white
  pub some_white : white ≢ []
  pub is_name : IsQualified a.name
  pub given : TakesQuoted after written rest
  pub characters : IsCharacters written
  pub no_tag : AllAre (λ b. not (b == less_than)) written
  pub means : IsValue written a.value

-- `<`, a name, assignments and white space, up to how the tag ends
pub record TakesTag (bytes : List ℕ) (tag : Tag) (end : List ℕ) : Type 0 where
  pub after : List ℕ
  pub white : List ℕ
  pub bytes_are : bytes ≡ less_than ∷ (name_bytes tag.name ++ after)
  pub is_name : IsQualified tag.name
  pub assigned : To TakesAssignment after tag.assignments (white ++ end)
  pub is_white : IsWhite white

-- white space, this name and a value that passes, in the declaration
pub record TakesSetting (name : List ℕ) (IsAllowed : List ℕ → Type 0) (bytes rest : List ℕ) : Type 0 where
  pub white : List ℕ
  pub after : List ℕ
  pub written : List ℕ
  pub bytes_are : bytes ≡ white ++ (name ++ after)
  pub is_white : IsWhite white
  pub some_white : white ≢ []
  pub given : TakesQuoted after written rest
  pub allowed : IsAllowed written

-- the setting, or nothing
abbrev pub TakesOptional : List ℕ → (List ℕ → Type 0) → List ℕ → List ℕ → Type 0
TakesOptional name IsAllowed bytes rest = (bytes ≡ rest) ⊎ TakesSetting name IsAllowed bytes rest

-- the declaration: the version 1.0, the encoding UTF-8 in any case, and whether the document stands alone
pub record TakesDeclaration (bytes rest : List ℕ) : Type 0 where
  pub first : List ℕ
  pub second : List ℕ
  pub third : List ℕ
  pub white : List ℕ
  pub bytes_are : bytes ≡ codes "<?xml" ++ first
  pub version : TakesSetting (codes "version") (λ v. v ≡ codes "1.0") first second
  pub encoding : TakesOptional (codes "encoding") (λ v. map to_ascii_uppercase v ≡ codes "UTF-8") second third
  pub standalone : TakesOptional (codes "standalone") (λ v. (v ≡ codes "yes") ⊎ (v ≡ codes "no")) third (white ++ (codes "?>" ++ rest))
  pub is_white : IsWhite white

-- the bytes between two delimiters are characters
pub record TakesBetween (start finish bytes between rest : List ℕ) : Type 0 where
  pub bytes_are : bytes ≡ start ++ (between ++ (finish ++ rest))
  pub characters : IsCharacters between

-- the end tag of a name
pub record TakesEnd (bytes : List ℕ) (name : Qualified) (rest : List ℕ) : Type 0 where
  pub white : List ℕ
  pub bytes_are : bytes ≡ codes "</" ++ (name_bytes name ++ (white ++ (codes ">" ++ rest)))
  pub is_name : IsQualified name
  pub is_white : IsWhite white

-- a text goes on up to a tag or the end of the input
abbrev pub EndsText : List ℕ → Type 0
EndsText [] = Unit {0}
EndsText (b ∷ bs) = b ≡ less_than

-- a text: one or more characters without `]]>`, and `&` only in references
pub record TakesText (bytes : List ℕ) (blank : Bool) (text rest : List ℕ) : Type 0 where
  pub own : List ℕ
  pub bytes_are : bytes ≡ own ++ rest
  pub some : own ≢ []
  pub no_tag : AllAre (λ b. not (b == less_than)) own
  pub ends : EndsText rest
  pub characters : IsCharacters own
  pub no_section_end : Lacks (codes "]]>") own
  pub blank_is : blank ≡ list_all is_white own
  pub means : IsText own text

-- the token stands at the front, and this is left
abbrev pub TakesToken : List ℕ → Token → List ℕ → Type 0
TakesToken bytes Declaration rest = TakesDeclaration bytes rest
TakesToken bytes Comment rest =
    (between : List ℕ) × TakesBetween (codes "<!--") (codes "-->") bytes between rest × Lacks (codes "--") (between ++ codes "-")
TakesToken bytes (Start tag) rest = TakesTag bytes tag (codes ">" ++ rest)
TakesToken bytes (Empty tag) rest = TakesTag bytes tag (codes "/>" ++ rest)
TakesToken bytes (End name) rest = TakesEnd bytes name rest
TakesToken bytes (Section text) rest =
    (between : List ℕ) × TakesBetween (codes "<![CDATA[") (codes "]]>") bytes between rest × Lacks (codes "]]>") between
    × (text ≡ line_ends between)
TakesToken bytes (Characters blank text) rest = TakesText bytes blank text rest
