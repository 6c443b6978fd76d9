-- A connection as a dialogue, round by round.
use Rattle.std.specs.Prelude.{◌≡◌, ℕ, ◌+◌, ◌<◌, List, [], ◌∷◌, ◌++◌, length, flat_map, None, Some}
use Rattle.std.specs.Io.KnownBytes.{Appends}
use Rattle.ifmap_dialogue.specs.declared.endings.Ending.{Ending}
use Rattle.ifmap_dialogue.specs.Desks.{DeskTakesTurns, Turn}
use Rattle.ifmap_dialogue.specs.Rounds.{IsRound, Round, WireAndWords, most_posts}
use Rattle.ifmap_dialogue.specs.Scenes.{HasCauses, Scene, wire_standing}

-- the rounds, numbered on from there, go on one after another from where the dialogue stands first to where it stands after them
abbrev pub AreRoundsInOrder : (ℕ → Type 0) → ℕ → WireAndWords → List Round → WireAndWords → Type 0
AreRoundsInOrder gives number first [] last = last ≡ first
AreRoundsInOrder gives number first (r ∷ rounds) last =
    (r.before ≡ first) × IsRound gives number r × (r.next ≡ None) × AreRoundsInOrder gives (number + 1) r.after rounds last

-- rounds after which the dialogue goes on, and one in which it ends so; the turns and the bytes are those of all rounds in order
pub record Dialogue (gives : ℕ → Type 0) (first last : WireAndWords) (turns : List Turn) (output : List ℕ) (end : Ending) : Type 0 where
  pub rounds : List Round
  pub final : Round
  pub goes_on : AreRoundsInOrder gives 1 first rounds final.before
  pub few : length rounds < most_posts
  pub ends : IsRound gives (length rounds + 1) final
  pub ended : final.next ≡ Some end
  pub after : final.after ≡ last
  pub turns_are : turns ≡ flat_map (λ (r : Round). r.turns) (rounds ++ final ∷ [])
  pub output_is : output ≡ flat_map (λ (r : Round). r.output) (rounds ++ final ∷ [])

-- what was done over a wire at a desk is a dialogue that ended so
pub record Serves {H : Type 0} (gives : ℕ → Type 0) (before after : Scene H) (end : Ending) : Type 0 where
  pub turns : List Turn
  pub output : List ℕ
  pub tells : DeskTakesTurns before.desk after.desk turns
  pub gains : Appends before.wire.held after.wire.held output
  pub causes : HasCauses before.wire after.wire (Some end)
  pub dialogue : Dialogue gives (wire_standing before.wire before.words) (wire_standing after.wire after.words) turns output end
