use Rattle.std.proofs.Common.{subst}
use Rattle.ifmap_dialogue.specs.ifmap_machine.Events.{IsFitEvent}
use Rattle.ifmap_desks.proofs.events.FitEvent.from_event.Goals as goal

pub invariant_of-result : goal.invariant_of-result
invariant_of-result c = record { fit = ∣ subst IsFitEvent c.event.view_is c.event.invariant ∣₁ }
