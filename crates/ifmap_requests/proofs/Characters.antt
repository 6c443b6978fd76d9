-- Characters of a document are UTF-8, of these characters.
use Rattle.std.proofs.Common.{ℕ, List, subst}
use Rattle.std.specs.Str.{chars}
use Rattle.std.proofs.lemmas.Str.{chars_from_encodes}
use Rattle.ifmap_elem.specs.Chars.{AllAre, IsCharacters, is_character}
use Rattle.ifmap_elem.specs.laws.CharacterLaws.{characters_are_utf8}

pub are_characters : (bytes : List ℕ) → IsCharacters bytes → AllAre is_character (chars bytes)
are_characters bytes i = subst (AllAre is_character) (chars_from_encodes i.0 bytes (characters_are_utf8 bytes i) i.1) i.2
