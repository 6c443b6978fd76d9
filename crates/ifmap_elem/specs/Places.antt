-- Where a list of bytes stops to be the beginning of a document, and where it nests too deep.
use Rattle.std.specs.Prelude.{◌≡◌, ℕ, ◌-◌, ◌<◌, Bool, true, false, List, [], ◌∷◌, ◌++◌, length, count_by}
use Rattle.ifmap_lemmas.specs.Items.{To}
use Rattle.ifmap_elem.specs.declared.readings.Reading.{Reading}
use Rattle.ifmap_elem.specs.Document.{IsDocument}
use Rattle.ifmap_elem.specs.Spells.{without_byte_order_mark}
use Rattle.ifmap_elem.specs.declared.tokens.Token.{Token}
use Rattle.ifmap_elem.specs.declared.tokens.Token.TheVariants.{Declaration, Comment, Start, Empty, End, Section, Characters}
use Rattle.ifmap_elem.specs.Tokens.{TakesToken}

-- some document begins with these tokens
pub record BeginsDocument (ts : List Token) : Type 0 where
  pub more : List Token
  pub reading : Reading
  pub document : IsDocument (ts ++ more) reading

-- the tokens stand at the front of the bytes, each allowed after those before it, and this is left
pub record Reaches (bytes : List ℕ) (ts : List Token) (rest : List ℕ) : Type 0 where
  pub lexed : To TakesToken (without_byte_order_mark bytes) ts rest
  pub allowed : BeginsDocument ts

-- the offset of what is left
abbrev pub offset : List ℕ → List ℕ → ℕ
offset bytes rest = length bytes - length rest

-- the place of the first token that is not allowed after the tokens before it, or the length of the bytes
pub record Stop (bytes : List ℕ) (at : ℕ) : Type 0 where
  pub tokens : List Token
  pub rest : List ℕ
  pub reaches : Reaches bytes tokens rest
  pub no_further : (t : Token) (after : List ℕ) → TakesToken rest t after → BeginsDocument (tokens ++ t ∷ []) → ⊥
  pub at_is : at ≡ offset bytes rest

abbrev pub is_start : Token → Bool
is_start Declaration = false
is_start Comment = false
is_start (Start tag) = true
is_start (Empty tag) = false
is_start (End name) = false
is_start (Section text) = false
is_start (Characters blank text) = false

abbrev pub is_end : Token → Bool
is_end Declaration = false
is_end Comment = false
is_end (Start tag) = false
is_end (Empty tag) = false
is_end (End name) = true
is_end (Section text) = false
is_end (Characters blank text) = false

-- how many elements are open after these tokens
abbrev pub open_after : List Token → ℕ
open_after ts = count_by is_start ts - count_by is_end ts

-- a start or an empty tag, which opens a level
abbrev pub Opens : Token → Type 0
Opens Declaration = ⊥
Opens Comment = ⊥
Opens (Start tag) = Unit {0}
Opens (Empty tag) = Unit {0}
Opens (End name) = ⊥
Opens (Section text) = ⊥
Opens (Characters blank text) = ⊥

-- the place of the first allowed tag that opens level depth + 1, where every token before it is allowed too
pub record Deep (bytes : List ℕ) (depth at : ℕ) : Type 0 where
  pub tokens : List Token
  pub tag : Token
  pub rest : List ℕ
  pub after : List ℕ
  pub lexed : To TakesToken (without_byte_order_mark bytes) tokens rest
  pub taken : TakesToken rest tag after
  pub allowed : BeginsDocument (tokens ++ tag ∷ [])
  pub opens : Opens tag
  pub level_is : open_after tokens ≡ depth
  pub first : (before after : List Token) (t : Token) → tokens ≡ before ++ (t ∷ after) → Opens t → open_after before < depth
  pub at_is : at ≡ offset bytes rest
