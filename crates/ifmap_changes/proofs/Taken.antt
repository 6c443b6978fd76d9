-- What publishes and retractions meet: subscriptions that are flagged (`flagged_ready`, `flagged_state`), a change that can stay as it is
-- (`can_settle`), and a plan that takes away (`taken_canon`, `taken_told`, `taken_within`, `found_within`).
use Rattle.std.proofs.Common.{◌≡◌, ◌≢◌, ◌∙◌, ℕ, true, Some, List, length, map, slice_get, ap, sym, subst, inl, arith}
use Rattle.std.proofs.lemmas.Result.{on_ok_weaker}
use Rattle.std.specs.List.{AllByRecursion}
use Rattle.std.specs.Prelude.{Result, OnOk}
use Rattle.ifmap_changes.specs.Between.{AreWithinLimits, Asking, IsSoundSoFar, rest_of, sessions_left, seen_now, state_now}
use Rattle.ifmap_changes.specs.Bounds.{IsPlanWithin, IsRetractedWithin, IsTakenWithin}
use Rattle.ifmap_changes.specs.Changes.{CanSettle, CanTakeBack, TakesAway, TellsPlan, state_taken_from}
use Rattle.ifmap_changes.specs.declared.changes.Made.{Made}
use Rattle.ifmap_changes.specs.declared.parts.Parts.{Parts}
use Rattle.ifmap_changes.proofs.EachPlace.{less_kept}
use Rattle.ifmap_tellings.specs.ifmap_delta.SeenViews.{IsUpToDate}
use Rattle.ifmap_graph.specs.Seen.{rows_now}
use Rattle.ifmap_ident.specs.Items.{IsCanonItem}
use Rattle.ifmap_tellings.specs.ifmap_machine.Ending.{without_standing}
use Rattle.ifmap_tellings.specs.ifmap_machine.State.{State}
use Rattle.ifmap_tellings.specs.ifmap_machine.Telling.{overflow, tell}
use Rattle.ifmap_graph.specs.ifmap_plans.declared.plans.Note.{Note}
use Rattle.ifmap_graph.specs.ifmap_plans.declared.plans.Plan.{Plan}
use Rattle.ifmap_tellings.specs.ifmap_publish.declared.who.Who.{Who}
use Rattle.ifmap_tellings.specs.ifmap_publish.Apply.{Authorship}
use Rattle.ifmap_tellings.specs.ifmap_publish.Retract.{retract}
use Rattle.ifmap_tellings.specs.ifmap_session.Sessions.{IsLive}
use Rattle.ifmap_tellings.specs.ifmap_standing.Standing.{standing_of}
use Rattle.ifmap_tellings.specs.declared.tellings.Pending.{Pending}
use Rattle.ifmap_tellings.specs.Tellings.{AloneAreBare, CanTell, EachTelling, IsSized, kept_items, tell_by}

-- who asks, as an author in a session
abbrev pub author_of : ℕ → Asking → Authorship
author_of serial a = record { client = a.client; serial = serial; moment = a.moment }

-- all is ready still where more subscriptions are gone
pub flagged_ready : (a : Asking) (parts : Parts) (old new : Pending) → length new.gone.items ≡ length parts.standing.items
    → ((i : ℕ) → slice_get old.gone.items i ≡ Some true → slice_get new.gone.items i ≡ Some true) → new.tellings ≡ old.tellings
    → IsSoundSoFar a parts old → IsSoundSoFar a parts new
flagged_ready a parts old new flags stay same r =
    let standing = parts.standing.items in
    record {
      ended = r.ended;
      ordered = r.ordered;
      flags = flags;
      kept = less_kept (λ x. IsUpToDate (seen_now parts.graph) x.subscription) old.gone.items new.gone.items standing r.flags stay r.kept;
      live = less_kept (λ x. IsLive x.serial (sessions_left a parts.sessions)) old.gone.items new.gone.items standing r.flags stay r.live;
      queues = r.queues;
      within = subst (λ t. AreWithinLimits (map (tell_by t) (sessions_left a parts.sessions))) (sym same) r.within;
      can_tell = subst (λ t. EachTelling (CanTell (rest_of a parts.sessions)) t) (sym same) r.can_tell;
      sized = subst (λ t. EachTelling (λ n u. IsSized n u parts.sessions.live) t) (sym same) r.sized;
      alone = subst (λ t. AloneAreBare t new.gone.items standing) (sym same)
          (λ n is. less_kept (λ x. x.serial ≢ n) old.gone.items new.gone.items standing r.flags stay (r.alone n is));
    }

-- and the state is that without the subscriptions that are gone
pub flagged_state : (serials : List ℕ) (a : Asking) (parts : Parts) (old new : Pending)
    → map standing_of (kept_items new.gone.items parts.standing.items)
    ≡ without_standing serials (map standing_of (kept_items old.gone.items parts.standing.items)) → new.tellings ≡ old.tellings
    → state_now a parts new
    ≡ record (state_now a parts old) {
      standing = without_standing serials
          (map standing_of (kept_items old.gone.items parts.standing.items));
    }
flagged_state serials a parts old new gone same = λ k. record {
  moment = a.moment;
  ttl = a.ttl;
  counter = parts.sessions.counter;
  graph = rows_now parts.graph;
  sessions = map (tell_by (same k)) (sessions_left a parts.sessions);
  standing = gone k;
}

-- what can be taken back can stay as it is
pub can_settle : (made : Made) (before parts : Parts) → CanTakeBack made before parts → CanSettle made parts
can_settle made before parts can = record { waits = can.graph.waits; ways = can.standing.long }

-- a plan that takes away notifies nothing, and tells what goes; its steps are those of finding it and those of telling it
module _ (parts : Parts) {who : Who} {plan : Plan} (taken : TakesAway who (rows_now parts.graph) plan) where
  pub taken_canon : AllByRecursion (λ (n : Note). IsCanonItem n.item) plan.notes
  taken_canon = subst (AllByRecursion (λ (n : Note). IsCanonItem n.item)) (sym taken.notes) tt

  pub taken_told : {T E : Type 0} (result : Result T E) (a : Asking) (before after : Pending) (new : Parts)
      → OnOk result (TellsPlan a plan parts before new after)
      → OnOk result (state_now a new after ≡ state_taken_from who (state_now a parts before))
  taken_told result a before after new told =
      let rows = retract who (rows_now parts.graph) in
      on_ok_weaker result (λ (tells : TellsPlan a plan parts before new after). tells rows taken.graph taken.after
      ∙ ap (λ notes. overflow (tell rows notes (state_now a parts before))) taken.notes) told

  pub taken_within : (a : Asking) (before : Pending) (from middle till : ℕ) → IsRetractedWithin (rows_now parts.graph) from middle
      → IsPlanWithin plan (state_now a parts before) middle till → IsTakenWithin who (state_now a parts before) from till
  taken_within a before from middle till found told =
      (middle, found, told (retract who (rows_now parts.graph)) taken.graph taken.after)

-- where no plan came of it, they are those of finding
pub found_within : (who : Who) (state : State) (from middle : ℕ) → IsRetractedWithin state.graph from middle
    → IsTakenWithin who state from middle
found_within who state from middle found = (middle, found, inl (omega arith))
