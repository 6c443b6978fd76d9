-- What is written for a script.
use Rattle.std.specs.Prelude.{◌≡◌, ℕ, List, [], ◌∷◌, ◌++◌, codes, length, Option, None, Some, Ok, Err, false, take}
use Rattle.std.specs.Fmt.{decimal}
use Rattle.std.specs.Io.KnownBytes.{Appends}
use Rattle.ifmap_core.specs.ifmap_machine.declared.events.Answer.{Answer}
use Rattle.ifmap_core.specs.ifmap_machine.declared.events.Answer.TheVariants.{Reply, Held, Heard}
use Rattle.ifmap_core.specs.ifmap_machine.declared.events.Ask.TheVariants as ask
use Rattle.ifmap_core.specs.ifmap_machine.Events.{Event}
use Rattle.ifmap_core.specs.ifmap_machine.State.{State, opening_state, session_seconds}
use Rattle.ifmap_core.specs.ifmap_machine.Step.{refusal, step}
use Rattle.ifmap_core.specs.ifmap_replies.Results.{reply_bytes}
use Rattle.ifmap_requests.specs.declared.errors.Refusal.TheVariants.{Named, Unreadable, NoMemory}
use Rattle.ifmap_requests.specs.declared.requests.Request.{Request}
use Rattle.ifmap_server.specs.Frames.{Frame, Meaning}
use Rattle.ifmap_server.specs.Script.{IsScript}

-- what is asked of the machine, by the request
abbrev pub EventByRequest : Type 0
EventByRequest = Request → Event

-- the event of a frame that asks a request
abbrev pub event_of_frame : Frame → EventByRequest
event_of_frame f request =
    record { moment = f.moment; client = f.client; random = f.random; again = false; bytes = length f.body; ask = ask.Request request }

-- `=`, the length of the reply, a newline and the reply; or that nothing is told to a poll yet. That an answer was lost is heard and
-- not written: no frame says so, since each asks a request
abbrev pub answer_text : Answer → List ℕ
answer_text (Reply reply) = codes "=" ++ decimal (length (reply_bytes reply)) ++ codes "\n" ++ reply_bytes reply
answer_text Held = codes "held\n"
answer_text Heard = []

-- what is written for a body that is no request
abbrev pub unreadable_text : List ℕ
unreadable_text = codes "unreadable\n"

-- the state after what the machine is asked, and what is written for it
abbrev pub step_request : State → EventByRequest → Request → State × List ℕ
step_request state event request = ((step state (event request)).0, answer_text (step state (event request)).1)

-- the same of a meaning: a code is told, with its name as the note, and nothing is asked, so that the state's moment stays too; no
-- body means a want of memory
abbrev pub step_meaning : State → EventByRequest → Meaning → State × List ℕ
step_meaning state event (Ok request) = step_request state event request
step_meaning state event (Err (Named code)) = (state, answer_text (refusal code))
step_meaning state event (Err Unreadable) = (state, unreadable_text)
step_meaning state event (Err NoMemory) = (state, unreadable_text)

abbrev pub step_frame : State → Frame → State × List ℕ
step_frame state f = step_meaning state (event_of_frame f) f.meaning

-- what is written for frames, one after another, from a state on
abbrev pub answers_from : State → List Frame → List ℕ
answers_from state [] = []
answers_from state (f ∷ frames) = (step_frame state f).1 ++ answers_from (step_frame state f).0 frames

abbrev pub answers : List Frame → List ℕ
answers frames = answers_from (opening_state session_seconds) frames

-- `!`, the offset of the first fault and a newline, where there is a fault
abbrev pub fault_line : Option ℕ → List ℕ
fault_line None = []
fault_line (Some place) = codes "!" ++ decimal place ++ codes "\n"

-- all that is written for the bytes of a script
abbrev pub IsOutput : List ℕ → List ℕ → Type 0
IsOutput bytes text =
    (frames : List Frame) × (fault : Option ℕ) × IsScript bytes frames fault × (text ≡ answers frames ++ fault_line fault)

-- known bytes grow by a prefix of a text
abbrev pub AppendsPrefix : Option (List ℕ) → Option (List ℕ) → List ℕ → Type 0
AppendsPrefix old new text = (n : ℕ) × Appends old new (take n text)
