-- What a pass said, beside the history that it has seen.
use Rattle.std.specs.Prelude.{◌≡◌, ℕ, List, [], ◌∷◌, ◌++◌, length}
use Rattle.ifmap_desks.specs.Calls.{Log}
use Rattle.ifmap_desks.specs.Machines.{CoreView, core_next, core_reply}
use Rattle.ifmap_desks.specs.declared.events.FitEvent.{FitEvent}
use Rattle.ifmap_desks.specs.declared.machine.CoreMachine.{CoreMachine}
use Rattle.ifmap_hall.specs.Sights.{run}
use Rattle.ifmap_dialogue.specs.ifmap_machine.declared.events.Answer.{Answer}

-- the call is that of the entry at this place: its event, and the answer of the machine after the entries before it
pub record IsCallOfEntry (opening : CoreMachine) (log : Log) (place : ℕ) (call : FitEvent × Answer) : Type 0 where
  pub before : Log
  pub number : ℕ
  pub rest : Log
  pub entry : log ≡ before ++ (number, call.0) ∷ rest
  pub place_is : length before ≡ place
  pub reply_is : call.1 ≡ core_reply (run core_next opening before) call.0

-- the calls are those of the entries at these places, in this order
abbrev pub AreCalls : CoreMachine → Log → List ℕ → List (FitEvent × Answer) → Type 0
AreCalls opening log [] [] = Unit {0}
AreCalls opening log [] (call ∷ said) = ⊥
AreCalls opening log (place ∷ mine) [] = ⊥
AreCalls opening log (place ∷ mine) (call ∷ said) = IsCallOfEntry opening log place call × AreCalls opening log mine said

-- all that the pass said is what the machine answered at the places of its own entries, in the history that it has seen
abbrev pub Recalls : CoreView → Type 0
Recalls v = AreCalls v.terms.opening.value v.history.log v.mine v.said
