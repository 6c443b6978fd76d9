-- What is done over a wire at a desk.
use Rattle.std.specs.Prelude.{◌≡◌, ℕ, ◌≤◌, Bool, List, Option, Some}
use Rattle.std.specs.Io.KnownBytes.{Appends}
use Rattle.rand_chacha.specs.ChaCha.{ChaCha}
use Rattle.ifmap_elem.specs.Chars.{IsCharacters}
use Rattle.ifmap_io.specs.Causes.{Rose}
use Rattle.ifmap_http.specs.declared.wires.Post.{Post}
use Rattle.ifmap_http.specs.Wires.{WireSeen}
use Rattle.ifmap_dialogue.specs.declared.endings.Ending.{Ending}
use Rattle.ifmap_dialogue.specs.declared.endings.Ending.TheVariants as ending
use Rattle.ifmap_dialogue.specs.declared.findings.Finding.{Finding}
use Rattle.ifmap_dialogue.specs.declared.findings.Finding.TheVariants as finding
use Rattle.ifmap_dialogue.specs.Answers.{Answers}
use Rattle.ifmap_dialogue.specs.Desks.{DeskSeen, DeskTakesTurns, Turn}
use Rattle.ifmap_dialogue.specs.Rounds.{AnswersPost, IsRound, WireAndWords}
use Rattle.ifmap_dialogue.specs.Wires.{GainsBytes}

-- where a dialogue over a wire stands
abbrev pub wire_standing : WireSeen → ChaCha → WireAndWords
wire_standing wire words = record { left = wire.left; words = words }

-- faults are counted where they are told of
pub record HasCauses (before after : WireSeen) (next : Option Ending) : Type 0 where
  pub reads : before.read_faults ≤ after.read_faults
  pub writes : before.write_faults ≤ after.write_faults
  pub read_fault : next ≡ Some ending.ReadFault → Rose before.read_faults after.read_faults
  pub write_fault : next ≡ Some ending.WriteFault → Rose before.write_faults after.write_faults

-- a desk, a wire and a stream of words, as one call finds them
pub record Scene (H : Type 0) : Type 0 where
  pub desk : DeskSeen H
  pub wire : WireSeen
  pub words : ChaCha

abbrev pub scene : {H : Type 0} → DeskSeen H → WireSeen → ChaCha → Scene H
scene desk wire words = record { desk = desk; wire = wire; words = words }

-- the poll whose answer may be lost names a session by characters
abbrev pub HasFitPoll : Finding → Type 0
HasFitPoll (finding.Told reply poll) = IsCharacters poll.session
HasFitPoll other = Unit {0}

-- what a post came to, whether its answer is to close the connection, and the ending, where it is the last
pub record FindingAndEnding : Type 0 where
  pub finding : Finding
  pub close : Bool
  pub next : Option Ending

-- what is done over a wire at a desk answers what a post came to
pub record ServesAnswer {H : Type 0} (gives : ℕ → Type 0) (before after : Scene H) (a : FindingAndEnding) : Type 0 where
  pub turns : List Turn
  pub output : List ℕ
  pub tells : DeskTakesTurns before.desk after.desk turns
  pub gains : GainsBytes before.wire after.wire output
  pub causes : HasCauses before.wire after.wire a.next
  pub words : after.words ≡ before.words
  pub answers : Answers gives a.finding (record { close = a.close; turns = turns; output = output; next = a.next })

-- what is done over a wire at a desk answers a post
pub record ServesPost {H : Type 0} (gives : ℕ → Type 0) (before after : Scene H) (post : Post) (next : Option Ending) : Type 0 where
  pub turns : List Turn
  pub output : List ℕ
  pub tells : DeskTakesTurns before.desk after.desk turns
  pub gains : GainsBytes before.wire after.wire output
  pub causes : HasCauses before.wire after.wire next
  pub answers : AnswersPost gives post.client post.body post.close (record {
    before = wire_standing before.wire before.words;
    after = wire_standing after.wire after.words;
    turns = turns;
    output = output;
    next = next;
  })

-- what is done over a wire at a desk is a round of this number
pub record ServesRound {H : Type 0} (gives : ℕ → Type 0) (number : ℕ) (before after : Scene H) (next : Option Ending) : Type 0 where
  pub turns : List Turn
  pub output : List ℕ
  pub tells : DeskTakesTurns before.desk after.desk turns
  pub gains : Appends before.wire.held after.wire.held output
  pub causes : HasCauses before.wire after.wire next
  pub round : IsRound gives number (record {
    before = wire_standing before.wire before.words;
    after = wire_standing after.wire after.words;
    turns = turns;
    output = output;
    next = next;
  })
