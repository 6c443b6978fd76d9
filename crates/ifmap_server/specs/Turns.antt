-- One turn of a replay: a frame is taken and answered, or the replay ends. No public clause cites this file.
use Rattle.std.specs.Prelude.{◌≡◌, ◌≢◌, ℕ, ◌+◌, ◌≤◌, List, [], ◌++◌, drop, length, slice_range, IfSome, Result, Ok, Err, false}
use Rattle.std.specs.Io.KnownBytes.{Appends, IsAtEnd, Keeps}
use Rattle.ifmap_input.specs.Inputs.{TakesFromSource}
use Rattle.ifmap_input.specs.Scripts.{longest_script}
use Rattle.ifmap_core.specs.ifmap_machine.declared.events.Ask.TheVariants as ask
use Rattle.ifmap_core.specs.ifmap_machine.State.{State, opening_state, session_seconds}
use Rattle.ifmap_server.specs.declared.errors.ReplayError.{ReplayError}
use Rattle.ifmap_server.specs.declared.errors.ReplayError.TheVariants.{FrameFault, NoMemory, ReadFault, WriteFault}
use Rattle.ifmap_server.specs.declared.headers.Header.{Header}
use Rattle.ifmap_server.specs.declared.replaying.TakenFrame.{TakenFrame}
use Rattle.ifmap_server.specs.declared.replaying.ReplayTurn.{ReplayTurn}
use Rattle.ifmap_server.specs.declared.replaying.ReplayTurn.TheVariants.{Answered, Ended}
use Rattle.ifmap_requests.specs.Means.{Means}
use Rattle.ifmap_server.specs.Awaited.{IsAwaited}
use Rattle.ifmap_server.specs.Frames.{Frame, Meaning, frame_text}
use Rattle.ifmap_server.specs.Output.{AppendsPrefix, EventByRequest, step_frame}
use Rattle.ifmap_server.specs.Script.{BeginsFrame}
use Rattle.ifmap_server.specs.Ends.{ReadFailed, SourceAndSink, WriteFailed}

-- a replay: the state of the machine, what is pending, and the offset of the next frame
pub record Replaying : Type 0 where
  pub state : State
  pub pending : List ℕ
  pub offset : ℕ

abbrev pub replay_beginning : Replaying
replay_beginning = record { state = opening_state session_seconds; pending = []; offset = 0 }

-- what is asked of the machine by a request that came with a header
abbrev pub asking_of : Header → EventByRequest
asking_of header request = record {
  moment = header.moment;
  client = header.client;
  random = header.random;
  again = false;
  bytes = header.size;
  ask = ask.Request request;
}

-- the frame of a header and a body, with a meaning
abbrev pub frame_of : Header → List ℕ → Meaning → Frame
frame_of header body meaning =
    record { moment = header.moment; client = header.client; random = header.random; body = body; meaning = meaning }

-- the frame that stands at the front of what is pending, with a meaning
abbrev pub frame_within : TakenFrame → List ℕ → Meaning → Frame
frame_within framed pending meaning = frame_of framed.header (slice_range pending framed.start framed.end) meaning

-- a whole frame stands at the front of what is pending, and its body from `start` to `end`, whatever its meaning
pub record IsFramed (offset : ℕ) (pending : List ℕ) (framed : TakenFrame) : Type 0 where
  pub begins : (meaning : Meaning) → BeginsFrame offset pending (frame_within framed pending meaning) (drop framed.end pending)
  pub end : (meaning : Meaning) → framed.end ≡ length (frame_text (frame_within framed pending meaning))
  pub ends : offset + framed.end ≤ longest_script
  pub size : framed.header.size ≡ length (slice_range pending framed.start framed.end)
  pub order : framed.start ≤ framed.end
  pub within : framed.end ≤ length pending

-- the machine was asked what the body of a frame means, and the text is to be written for it
pub record IsAnswered (old new : State) (header : Header) (body text : List ℕ) : Type 0 where
  pub meaning : Meaning
  pub means : Means body meaning
  pub state : new ≡ (step_frame old (frame_of header body meaning)).0
  pub wrote : text ≡ (step_frame old (frame_of header body meaning)).1

-- no frame begins here
abbrev pub BeginsNone : ℕ → List ℕ → Type 0
BeginsNone offset bytes = (f : Frame) (rest : List ℕ) → BeginsFrame offset bytes f rest → ⊥

module _ (before after : SourceAndSink) (old : Replaying) where
  -- a frame was taken and answered
  pub record AnswersFrame (new : Replaying) : Type 0 where
    pub frame : Frame
    pub taken : List ℕ
    pub takes : TakesFromSource before.left after.left old.pending taken
    pub begins : BeginsFrame old.offset taken frame new.pending
    pub means : Means frame.body frame.meaning
    pub state : new.state ≡ (step_frame old.state frame).0
    pub offset : new.offset ≡ old.offset + length (frame_text frame)
    pub wrote : Appends before.held after.held (step_frame old.state frame).1

  -- nothing was pending, and the source is at its end
  pub record IsOver : Type 0 where
    pub takes : TakesFromSource before.left after.left old.pending []
    pub end : IsAtEnd after.left
    pub kept : Keeps before.held after.held

  -- no frame begins, whatever the source has left
  pub record IsFaulty : Type 0 where
    pub taken : List ℕ
    pub takes : TakesFromSource before.left after.left old.pending taken
    pub fault : IfSome after.left (λ rest. (taken ++ rest ≢ []) × BeginsNone old.offset (taken ++ rest))
    pub kept : Keeps before.held after.held

  -- a read failed that was due
  pub record IsUnread : Type 0 where
    pub taken : List ℕ
    pub takes : TakesFromSource before.left after.left old.pending taken
    pub awaited : IsAwaited old.offset taken
    pub kept : Keeps before.held after.held
    pub cause : ReadFailed before after

  -- a write failed in the answer to a frame
  pub record IsUnwritten : Type 0 where
    pub frame : Frame
    pub taken : List ℕ
    pub rest : List ℕ
    pub takes : TakesFromSource before.left after.left old.pending taken
    pub begins : BeginsFrame old.offset taken frame rest
    pub means : Means frame.body frame.meaning
    pub wrote : AppendsPrefix before.held after.held (step_frame old.state frame).1
    pub cause : WriteFailed before after

-- what a turn did; a fault leaves the offset of the frame
abbrev pub IsReplayTurn : Result ReplayTurn ReplayError → (before after : SourceAndSink) → (old new : Replaying) → Type 0
IsReplayTurn (Ok Answered) before after old new = AnswersFrame before after old new
IsReplayTurn (Ok Ended) before after old new = IsOver before after old
IsReplayTurn (Err FrameFault) before after old new = IsFaulty before after old × (new.offset ≡ old.offset)
IsReplayTurn (Err ReadFault) before after old new = IsUnread before after old
IsReplayTurn (Err WriteFault) before after old new = IsUnwritten before after old
IsReplayTurn (Err NoMemory) before after old new = Keeps before.held after.held
