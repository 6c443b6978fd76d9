-- What a replay does to its source and its sink, by how it ends.
use Rattle.std.specs.Prelude.{◌≡◌, ℕ, List, ◌++◌, drop, Option, None, Some, IfSome, Result, Ok, Err}
use Rattle.std.specs.Io.KnownBytes.{Appends, Consumes, IsAtEnd}
use Rattle.ifmap_core.specs.ifmap_machine.Agreeing.{Agrees}
use Rattle.ifmap_core.specs.ifmap_machine.State.{session_seconds}
use Rattle.ifmap_server.specs.declared.errors.ReplayError.{ReplayError}
use Rattle.ifmap_server.specs.declared.errors.ReplayError.TheVariants.{FrameFault, NoMemory, ReadFault, WriteFault}
use Rattle.ifmap_server.specs.Awaited.{IsAwaited}
use Rattle.ifmap_server.specs.Frames.{Frame}
use Rattle.ifmap_server.specs.Histories.{history_of}
use Rattle.ifmap_server.specs.Output.{AppendsPrefix, IsOutput, answers, fault_line}
use Rattle.ifmap_server.specs.Script.{IsScript}
use Rattle.ifmap_server.specs.Statuses.{status_of}
use Rattle.ifmap_server.specs.Ends.{ReadFailed, SourceAndSink, WriteFailed}

-- all that the source had left was taken, so that it is at its end, and these bytes are whole frames, which were answered
abbrev pub AnswersAll : (before after : SourceAndSink) → Type 0
AnswersAll before after =
    (taken : List ℕ) × Consumes before.left after.left taken × IfSome before.left (λ bytes. taken ≡ bytes) × IsAtEnd after.left
    × ((frames : List Frame) × IsScript taken frames None × Appends before.held after.held (answers frames))

-- the frames before the first fault were answered, and its offset was told
abbrev pub AnswersUpToFault : (before after : SourceAndSink) → Type 0
AnswersUpToFault before after =
    IfSome before.left (λ bytes. (frames : List Frame) × (place : ℕ) × IsScript bytes frames (Some place)
    × Appends before.held after.held (answers frames ++ fault_line (Some place)))

-- the frames in what was taken were answered, and where it goes on after them, a read was due there: no frame whose
-- header's line was taken is at fault
abbrev pub AnswersTaken : (before after : SourceAndSink) → Type 0
AnswersTaken before after =
    (taken : List ℕ) × Consumes before.left after.left taken
    × ((frames : List Frame) × (fault : Option ℕ) × IsScript taken frames fault
    × IfSome fault (λ place. IsAwaited place (drop place taken)) × Appends before.held after.held (answers frames))

-- a prefix of the output was written: of each that the bytes have, and they have exactly one
abbrev pub AnswersPart : (before after : SourceAndSink) → Type 0
AnswersPart before after =
    IfSome before.left (λ bytes. (text : List ℕ) → IsOutput bytes text → AppendsPrefix before.held after.held text)

-- what a replay promises, by how it ends; a fault of the source or the sink is told only where it has counted one
abbrev pub ReplayPromises : Result (Unit {0}) ReplayError → (before after : SourceAndSink) → Type 0
ReplayPromises (Ok _) before after = AnswersAll before after
ReplayPromises (Err FrameFault) before after = AnswersUpToFault before after
ReplayPromises (Err ReadFault) before after = AnswersTaken before after × ReadFailed before after
ReplayPromises (Err WriteFault) before after = AnswersPart before after × WriteFailed before after
ReplayPromises (Err NoMemory) before after = AnswersPart before after

-- the clients of a script agree: after each poll that is told something or held, what its client folds of all that it was told is, for
-- each subscription that its session keeps, the fresh result of its search
abbrev pub ScriptClientsAgree : List ℕ → Type 0
ScriptClientsAgree bytes =
    (frames : List Frame) (fault : Option ℕ) → IsScript bytes frames fault → Agrees session_seconds (history_of frames)

-- the status tells how the replay ended; and the clients agree of what the source had left
pub record Replays (status : ℕ) (before after : SourceAndSink) : Type 0 where
  pub ended : Result (Unit {0}) ReplayError
  pub told : status ≡ status_of ended
  pub promise : ReplayPromises ended before after
  pub agrees : IfSome before.left ScriptClientsAgree
