-- Clauses on results, after an error: what is not told of a value, and that the parts are kept.
use Rattle.std.proofs.Common.{Result, Ok, Err}
use Rattle.std.proofs.lemmas.Bool.{false≢true}
use Rattle.std.specs.Result.{IsErr}
use Rattle.ifmap_changes.specs.Between.{AreKept, Asking}
use Rattle.ifmap_changes.specs.Changes.{TakesAwayOrKeeps, TellsPlanOrKeeps}
use Rattle.ifmap_changes.specs.declared.parts.Parts.{Parts}
use Rattle.ifmap_graph.specs.ifmap_plans.declared.plans.Plan.{Plan}
use Rattle.ifmap_tellings.specs.ifmap_publish.declared.who.Who.{Who}
use Rattle.ifmap_tellings.specs.declared.tellings.Pending.{Pending}

module _ {X E : Type 0} {a : Asking} {old new : Parts} {before after : Pending} where
  -- no change was made
  pub no_plan : {plan : Plan} (r : Result X E) → IsErr r → AreKept old new → TellsPlanOrKeeps r plan a old before new after
  no_plan (Ok x) is kept = absurd (false≢true is)
  no_plan (Err e) is kept = record { told = tt; bare = tt; kept = kept }

  -- nothing was taken away
  pub none_away : {who : Who} (r : Result X E) → IsErr r → AreKept old new → TakesAwayOrKeeps r who a old before new after
  none_away (Ok x) is kept = absurd (false≢true is)
  none_away (Err e) is kept = record { told = tt; kept = kept }
