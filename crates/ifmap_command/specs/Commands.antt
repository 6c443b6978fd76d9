-- The command as `clap` has it, and what a parse of it finds.
use Rattle.std.specs.Prelude.{◌≡◌, ◌⊎◌, true, false, List, [], ◌∷◌, codes, Option, Some, IsSomeAnd}
use Rattle.clap.specs.Walk.{Row, Text, first_of}
use Rattle.clap.specs.Simple.{App, new_shape, with_subcommand}
use Rattle.ifmap_words.specs.declared.pairs.Pair.{Pair}
use Rattle.ifmap_words.specs.Options.{is_option}
use Rattle.ifmap_words.specs.Pairs.{first_id, pair_shape, second_id}

-- the command without its subcommands
abbrev pub top_app : App
top_app = record {
  top = record (new_shape (codes "mapd")) {
    no_binary_name = true;
    disable_help_flag = true;
    disable_help_subcommand = true;
    subcommand_required = true;
  };
  subs = [];
}

abbrev pub command_app : App
command_app =
    with_subcommand (with_subcommand (with_subcommand top_app (new_shape (codes "replay"))) (pair_shape (codes "drill")))
    (pair_shape (codes "serve"))

-- two words stand after a name
pub record IsCall (words : List Text) (name x y : Text) : Type 0 where
  pub words_are : words ≡ name ∷ x ∷ y ∷ []
  pub plain : is_option x ≡ false

-- the name and the rows of a subcommand that took these two words
pub record FindsPair (found : Option (Text × List Row)) (name x y : Text) : Type 0 where
  pub rows : List Row
  pub found_is : found ≡ Some (name, rows)
  pub first : first_of first_id rows ≡ Some x
  pub second : first_of second_id rows ≡ Some y

-- the words name that subcommand, which has the rest of them
abbrev pub FindsCommand : List Text → Option (Text × List Row) → Type 0
FindsCommand words found =
    ((words ≡ codes "replay" ∷ []) × ((rows : List Row) × (found ≡ Some (codes "replay", rows))))
    ⊎ (((x : Text) × (y : Text) × IsCall words (codes "drill") x y × FindsPair found (codes "drill") x y)
    ⊎ ((x : Text) × (y : Text) × IsCall words (codes "serve") x y × FindsPair found (codes "serve") x y))

-- the pair is these two words
abbrev pub AreTheWords : Option Pair → Text → Text → Type 0
AreTheWords pair x y = IsSomeAnd pair (λ two. (two.first.now ≡ x) × (two.second.now ≡ y))

-- the words are that name and those two words
abbrev pub NamesCommand : List Text → Text → Option Pair → Type 0
NamesCommand words name pair =
    ((words ≡ codes "replay" ∷ []) × (name ≡ codes "replay"))
    ⊎ (((x : Text) × (y : Text) × IsCall words (codes "drill") x y × (name ≡ codes "drill") × AreTheWords pair x y)
    ⊎ ((x : Text) × (y : Text) × IsCall words (codes "serve") x y × (name ≡ codes "serve") × AreTheWords pair x y))
