-- Characters that a document can have, joined; and those of names.
use Rattle.std.proofs.Common.{◌≡◌, ◌++◌, ℕ, true, List, [], ◌∷◌}
use Rattle.std.specs.List.{AllByRecursion, flat_map, list_all}
use Rattle.ifmap_lemmas.specs.Members.{all_of_test}
use Rattle.ifmap_lemmas.specs.Texts.{ascii_encoded, is_ascii}
use Rattle.ifmap_elem.specs.Chars.{IsCharacters, is_character}
use Rattle.ifmap_filter.specs.Printing.{joined_texts}
use Rattle.ifmap_elem.specs.laws.CharacterLaws.{characters_both, no_characters}

pub plain_characters : (text : List ℕ) → list_all is_ascii text ≡ true → list_all is_character text ≡ true → IsCharacters text
plain_characters text low fit = (text, ascii_encoded text (all_of_test is_ascii text low), all_of_test is_character text fit)

-- what is joined by a word
module _ {X : Type 0} (word : List ℕ) (text : X → List ℕ) (w : IsCharacters word) where
  later_characters : (xs : List X) → AllByRecursion (λ x. IsCharacters (text x)) xs → IsCharacters (flat_map (λ y. word ++ text y) xs)
  later_characters [] f = no_characters
  later_characters (x ∷ xs) f =
      characters_both (word ++ text x) (flat_map (λ y. word ++ text y) xs) (characters_both word (text x) w f.0) (later_characters xs f.1)

  pub joined_characters : (xs : List X) → AllByRecursion (λ x. IsCharacters (text x)) xs → IsCharacters (joined_texts word text xs)
  joined_characters [] f = no_characters
  joined_characters (x ∷ xs) f = characters_both (text x) (flat_map (λ y. word ++ text y) xs) f.0 (later_characters xs f.1)
