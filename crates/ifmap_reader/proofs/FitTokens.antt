-- Tokens that stand in bytes: their names have name parts, and their texts and values are characters.
use Rattle.std.proofs.Common.{ℕ, List, [], ◌∷◌, ◌++◌, sym, subst}
use Rattle.std.specs.List.{AllByRecursion}
use Rattle.ifmap_lemmas.specs.Items.{To}
use Rattle.ifmap_lemmas.specs.Runs.{all_taken}
use Rattle.ifmap_elem.specs.Chars.{IsCharacters}
use Rattle.ifmap_elem.specs.Names.{IsQualified}
use Rattle.ifmap_elem.specs.Tokens.{TakesAssignment, TakesTag, TakesToken}
use Rattle.ifmap_elem.specs.declared.tokens.Assignment.{Assignment}
use Rattle.ifmap_elem.specs.declared.tokens.Tag.{Tag}
use Rattle.ifmap_elem.specs.declared.tokens.Token.{Token}
use Rattle.ifmap_elem.specs.declared.tokens.Token.TheVariants.{Declaration, Comment, Start, Empty, End, Section, Characters}
use Rattle.ifmap_reader.proofs.CharacterRuns.{lines_characters, text_characters, value_characters}

pub record IsFitAssignment (a : Assignment) : Type 0 where
  pub name : IsQualified a.name
  pub value : IsCharacters a.value

pub record IsFitTag (tag : Tag) : Type 0 where
  pub name : IsQualified tag.name
  pub assignments : AllByRecursion IsFitAssignment tag.assignments

abbrev pub IsFitToken : Token → Type 0
IsFitToken Declaration = Unit {0}
IsFitToken Comment = Unit {0}
IsFitToken (Start tag) = IsFitTag tag
IsFitToken (Empty tag) = IsFitTag tag
IsFitToken (End name) = Unit {0}
IsFitToken (Section text) = IsCharacters text
IsFitToken (Characters blank text) = IsCharacters text

assignment_fits : (bytes : List ℕ) (a : Assignment) (rest : List ℕ) → TakesAssignment bytes a rest → IsFitAssignment a
assignment_fits bytes a rest t = record { name = t.is_name; value = value_characters t.written a.value t.characters t.means }

tag_fits : (bytes : List ℕ) (tag : Tag) (end : List ℕ) → TakesTag bytes tag end → IsFitTag tag
tag_fits bytes tag end t =
    record {
      name = t.is_name;
      assignments = all_taken TakesAssignment IsFitAssignment assignment_fits t.after tag.assignments
          (t.white ++ end) t.assigned;
    }

token_fits : (bytes : List ℕ) (t : Token) (rest : List ℕ) → TakesToken bytes t rest → IsFitToken t
token_fits bytes Declaration rest t = tt
token_fits bytes Comment rest t = tt
token_fits bytes (Start tag) rest t = tag_fits bytes tag _ t
token_fits bytes (Empty tag) rest t = tag_fits bytes tag _ t
token_fits bytes (End name) rest t = tt
token_fits bytes (Section text) rest t = subst IsCharacters (sym t.3) (lines_characters t.0 t.1.characters)
token_fits bytes (Characters blank text) rest t = text_characters t.own text t.characters t.means

pub tokens_fit : (bytes : List ℕ) (ts : List Token) (rest : List ℕ) → To TakesToken bytes ts rest → AllByRecursion IsFitToken ts
tokens_fit = all_taken TakesToken IsFitToken token_fits
