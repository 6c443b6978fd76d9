-- Clauses on results, at the exits of functions.
use Rattle.std.proofs.Common.{Result, Ok, Err}
use Rattle.std.proofs.lemmas.Bool.{false≢true}
use Rattle.std.specs.Result.{IsErr}
use Rattle.ifmap_subscribes.specs.ifmap_changes.Between.{AreBack, AreKept, AreLaterParts, IsSteady}
use Rattle.ifmap_subscribes.specs.ifmap_changes.declared.parts.Parts.{Parts}
use Rattle.ifmap_subscribes.specs.ifmap_changes.KeptLaws.{error_keeps}
use Rattle.ifmap_core.proofs.LaterParts.{stays_later}
use Rattle.ifmap_core.specs.Answering.{AreLaterOrKept}
use Rattle.ifmap_core.specs.declared.ending.Time.{Time}
use Rattle.ifmap_core.specs.Ending.{AnswersEvent}
use Rattle.ifmap_lemmas.specs.Outcomes.{on_ok}
use Rattle.ifmap_subscribes.specs.ifmap_machine.declared.events.Answer.{Answer}
use Rattle.ifmap_subscribes.specs.ifmap_machine.Events.{Event}
use Rattle.ifmap_subscribes.specs.ifmap_machine.State.{State}

module _ {X E : Type 0} where
  -- parts that stay, whatever the result
  pub stays_later_or_kept : (r : Result X E) (parts : Parts) → IsSteady parts.graph parts.standing.items → AreLaterOrKept r parts parts
  stays_later_or_kept r parts steady = record {
    later = on_ok r (AreLaterParts parts parts) (stays_later parts);
    kept = error_keeps r parts steady;
  }

  -- parts that are kept after an error
  pub keeps : {old new : Parts} (r : Result X E) → IsErr r → AreKept old new → AreLaterOrKept r old new
  keeps (Ok x) is kept = absurd (false≢true is)
  keeps (Err e) is kept = record { later = tt; kept = kept }

-- no answer, after which all is back
pub gives_up : {E : Type 0} {time : Time} {state : State} {event : Event} {old new : Parts} (r : Result Answer E) → IsErr r
    → AreBack old new → AnswersEvent r time state event old new
gives_up (Ok answer) is back = absurd (false≢true is)
gives_up (Err error) is back = record { answer = tt; kept = back; parts = tt; lean = tt }
