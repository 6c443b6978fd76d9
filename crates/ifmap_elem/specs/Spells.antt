-- Which bytes spell which element.
use Rattle.std.specs.Prelude.{ℕ, ◌==◌, if◌then◌else◌, List, [], ◌∷◌, drop}
use Rattle.std.specs.List.{starts_with}
use Rattle.ifmap_lemmas.specs.Items.{To}
use Rattle.ifmap_elem.specs.declared.readings.Reading.{Reading}
use Rattle.ifmap_elem.specs.Document.{IsDocument}
use Rattle.ifmap_elem.specs.declared.tokens.Token.{Token}
use Rattle.ifmap_elem.specs.Tokens.{TakesToken}

-- the byte order mark in UTF-8 (XML 1.0, section 4.3.3)
abbrev pub byte_order_mark : List ℕ
byte_order_mark = 0xEF ∷ (0xBB ∷ (0xBF ∷ []))

-- the bytes after a byte order mark, or all of them
abbrev pub without_byte_order_mark : List ℕ → List ℕ
without_byte_order_mark bytes = if starts_with ◌==◌ bytes byte_order_mark then drop 3 bytes else bytes

-- the bytes are tokens, and the tokens are a document that means this
pub record Spells (bytes : List ℕ) (r : Reading) : Type 0 where
  pub tokens : List Token
  pub lexed : To TakesToken (without_byte_order_mark bytes) tokens []
  pub document : IsDocument tokens r
