-- A command that takes two words.
use Rattle.std.specs.Prelude.{◌≡◌, false, true, List, [], ◌∷◌, Option, Some, IsSomeAnd, codes}
use Rattle.clap.specs.Walk.{Row, Rule, Text, first_of}
use Rattle.clap.specs.Simple.{App, Shape, new_rule, new_shape}
use Rattle.ifmap_words.specs.declared.pairs.Pair.{Pair}
use Rattle.ifmap_words.specs.Options.{is_option}

-- the names under which it takes them
abbrev pub first_id : Text
first_id = codes "first"

abbrev pub second_id : Text
second_id = codes "second"

-- a word that is required
abbrev pub required_rule : Text → Rule
required_rule id = record (new_rule id) { required = true }

-- the command: its words hold no name of a program, and none of them asks for help
abbrev pub pair_shape : Text → Shape
pair_shape name = record (new_shape name) {
  rules = required_rule first_id ∷ required_rule second_id ∷ [];
  no_binary_name = true;
  disable_help_flag = true;
}

abbrev pub pair_app : Text → App
pair_app name = record { top = pair_shape name; subs = [] }

-- the words are these two, and none of them is an option
abbrev pub IsPair : List Text → Text → Text → Type 0
IsPair words x y = (words ≡ x ∷ y ∷ []) × (is_option x ≡ false) × (is_option y ≡ false)

-- the two words are among what was found, wherever both were
abbrev pub HasPair : List Row → Option Pair → Type 0
HasPair rows found =
    (x y : Text) → first_of first_id rows ≡ Some x → first_of second_id rows ≡ Some y
    → IsSomeAnd found (λ pair. (pair.first.now ≡ x) × (pair.second.now ≡ y))
