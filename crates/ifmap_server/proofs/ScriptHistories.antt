-- The history of a script: it is legal, and its events are fit.
use Rattle.std.proofs.Common.{◌≡◌, ℕ, ◌+◌, List, [], ◌∷◌, ◌++◌, length, Option, None, Some, Ok, Err, refl, subst}
use Rattle.std.specs.List.{AllByRecursion}
use Rattle.ifmap_core.specs.ifmap_machine.declared.events.Answer.{Answer}
use Rattle.ifmap_core.specs.ifmap_machine.Events.{Event, IsFitEvent}
use Rattle.ifmap_core.specs.ifmap_machine.Legal.{AreFit, History, LegalFrom}
use Rattle.ifmap_core.specs.ifmap_machine.State.{State}
use Rattle.ifmap_core.specs.ifmap_machine.Step.{step}
use Rattle.ifmap_requests.specs.declared.errors.Refusal.TheVariants.{Named, Unreadable, NoMemory}
use Rattle.ifmap_requests.specs.declared.requests.Request.{Request}
use Rattle.ifmap_requests.specs.Fit.{IsFitRequest}
use Rattle.ifmap_requests.specs.Means.{Means}
use Rattle.ifmap_server.specs.Frames.{Frame, IsFrame, Meaning, frame_text}
use Rattle.ifmap_server.specs.Histories.{asked_history, history_from}
use Rattle.ifmap_server.specs.Output.{EventByRequest, event_of_frame, step_frame, step_meaning}
use Rattle.ifmap_server.specs.Script.{IsScriptFrom}

-- what a frame adds is legal, and so is what comes after it in each state
legal_meaning : (state : State) (event : EventByRequest) (meaning : Meaning) (rest : State → History) → ((s : State) → LegalFrom s (rest s))
    → LegalFrom state (asked_history state event meaning ++ rest (step_meaning state event meaning).0)
legal_meaning state event (Ok request) rest is = (refl, is (step state (event request)).0)
legal_meaning state event (Err (Named code)) rest is = is state
legal_meaning state event (Err Unreadable) rest is = is state
legal_meaning state event (Err NoMemory) rest is = is state

pub history_legal : (state : State) (frames : List Frame) → LegalFrom state (history_from state frames)
history_legal state [] = tt
history_legal state (f ∷ frames) =
    legal_meaning state (event_of_frame f) f.meaning (λ s. history_from s frames) (λ s. history_legal s frames)

-- what a frame adds is fit where each request is that its body can mean
fit_meaning : (state : State) (event : EventByRequest) (meaning : Meaning) (rest : History)
    → ((request : Request) → meaning ≡ Ok request → IsFitEvent (event request)) → AreFit rest
    → AreFit (asked_history state event meaning ++ rest)
fit_meaning state event (Ok request) rest fits is = (fits request refl, is)
fit_meaning state event (Err refusal) rest fits is = is

module _ (fits : (body : List ℕ) (request : Request) → Means body (Ok request) → IsFitRequest request) where
  frame_fit : (f : Frame) → IsFrame f → Means f.body f.meaning → (request : Request) → f.meaning ≡ Ok request
      → IsFitEvent (event_of_frame f request)
  frame_fit f is means request e = record { client = is.client; ask = fits f.body request (subst (Means f.body) e means) }

  pub history_fit : (offset : ℕ) (bytes : List ℕ) (frames : List Frame) (fault : Option ℕ) (state : State)
      → IsScriptFrom offset bytes frames fault → AreFit (history_from state frames)
  history_fit offset bytes [] fault state is = tt
  history_fit offset bytes (f ∷ frames) fault state is =
      fit_meaning state (event_of_frame f) f.meaning (history_from (step_frame state f).0 frames)
      (frame_fit f is.1.fits is.2)
      (history_fit (offset + length (frame_text f)) is.0 frames fault (step_frame state f).0 is.3)
