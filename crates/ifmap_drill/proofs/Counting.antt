-- What one event more counts as, and what a drill then keeps.
use Rattle.std.proofs.Common.{◌≡◌, ℕ, ◌+◌, List, [], ◌∷◌, ◌++◌, sym, ap, ◌∙◌, arith}
use Rattle.std.proofs.lemmas.List.Sums.{sum_by_push}
use Rattle.std.proofs.lemmas.Result.{on_ok_weaker}
use Rattle.std.specs.Prelude.{OnOk, Result}
use Rattle.rand_pcg.specs.Lcg.{Lcg}
use Rattle.ifmap_core.specs.ifmap_machine.declared.events.Answer.{Answer}
use Rattle.ifmap_core.specs.ifmap_machine.Events.{Event}
use Rattle.ifmap_core.specs.ifmap_machine.Legal.{History}
use Rattle.ifmap_core.specs.ifmap_machine.State.{State}
use Rattle.ifmap_core.specs.ifmap_machine.Step.{step}
use Rattle.ifmap_drill.specs.declared.drill_counts.DrillCounts.{DrillCounts}
use Rattle.ifmap_drill.specs.declared.drills.Drill.{Drill}
use Rattle.ifmap_drill.specs.DrillCounts.{capped_sum, counts_of_event, counts_of, counts_sum, total_of}
use Rattle.ifmap_drill.specs.Drills.{Drilling, after_answer, after_event, asked_at, ids_after}
use Rattle.ifmap_drill.specs.Events.{event_at}
use Rattle.ifmap_drill.specs.Requests.{request_at}
use Rattle.ifmap_drill.specs.Following.{drill_of}

total_more : (number : DrillCounts → ℕ) (history : History) (event : Event) (answer : Answer)
    → total_of number (history ++ (event, answer) ∷ []) ≡ capped_sum (total_of number history) (number (counts_of_event event.ask answer))
total_more number history event answer =
    let more = sum_by_push (λ (e : Event × Answer). number (counts_of_event e.0.ask e.1)) history (event, answer) in omega arith

pub counts_more : (history : History) (event : Event) (answer : Answer)
    → counts_of (history ++ (event, answer) ∷ []) 0 ≡ counts_sum (counts_of history 0) (counts_of_event event.ask answer)
counts_more history event answer = λ i. record {
  events = total_more (λ c. c.events) history event answer i;
  sessions = total_more (λ c. c.sessions) history event answer i;
  subscribes = total_more (λ c. c.subscribes) history event answer i;
  publishes = total_more (λ c. c.publishes) history event answer i;
  searches = total_more (λ c. c.searches) history event answer i;
  polls = total_more (λ c. c.polls) history event answer i;
  renewals = total_more (λ c. c.renewals) history event answer i;
  held = total_more (λ c. c.held) history event answer i;
  told = total_more (λ c. c.told) history event answer i;
  links = 0;
}

-- the drill keeps what it is to keep after one event more
pub answer_kept : (i : ℕ) (event : Event) (old : Drill) (core : State) (answer : Answer) (counts : DrillCounts) (ids : List (List ℕ))
    → (core, answer) ≡ step old.core event → counts ≡ counts_sum old.counts (counts_of_event event.ask answer)
    → ids ≡ ids_after i answer old.ids → (d : Drilling) → old ≡ drill_of d
    → record { core = core; ids = ids; draws = old.draws; counts = counts } ≡ drill_of (after_answer i event old.draws d)
answer_kept i event old core answer counts ids stepped counted kept d is =
    let stepped_from : (core, answer) ≡ step d.state event = stepped ∙ ap (λ (o : Drill). step o.core event) is in
    let answer_is : answer ≡ (step d.state event).1 = ap (λ (p : State × Answer). p.1) stepped_from in
    let core_is : core ≡ (step d.state event).0 = ap (λ (p : State × Answer). p.0) stepped_from in
    let ids_are : ids ≡ ids_after i (step d.state event).1 d.ids =
    kept ∙ ap (λ (a : Answer). ids_after i a old.ids) answer_is
    ∙ ap (λ (o : Drill). ids_after i (step d.state event).1 o.ids) is in
    let counts_are : counts ≡ counts_of (d.history ++ (event, (step d.state event).1) ∷ []) 0 =
    counted ∙ ap (λ (a : Answer). counts_sum old.counts (counts_of_event event.ask a)) answer_is
    ∙ ap (λ (o : Drill). counts_sum o.counts (counts_of_event event.ask (step d.state event).1)) is
    ∙ sym (counts_more d.history event (step d.state event).1) in
    λ j. record { core = core_is j; ids = ids_are j; draws = old.draws; counts = counts_are j }

-- an event is made and answered
pub event_taken : {T E : Type 0} (i : ℕ) (old : Drill) (event : Event) (draws : Lcg) (result : Result T E) (new : Drill)
    → event ≡ event_at i (request_at i old.ids old.draws).0 → draws ≡ (request_at i old.ids old.draws).1
    → OnOk result ((d : Drilling) → record old { draws = draws } ≡ drill_of d → new ≡ drill_of (after_answer i event draws d))
    → OnOk result ((d : Drilling) → old ≡ drill_of d → new ≡ drill_of (after_event i d))
event_taken i old event draws result new made drawn holds = on_ok_weaker result (λ follows d is.
    let taken = follows (record d { draws = draws }) (ap (λ (o : Drill). record o { draws = draws }) is) in
    let event_is : event ≡ event_at i (asked_at i d).0 = made ∙ ap (λ (o : Drill). event_at i (request_at i o.ids o.draws).0) is in
    let draws_are : draws ≡ (asked_at i d).1 = drawn ∙ ap (λ (o : Drill). (request_at i o.ids o.draws).1) is in
    taken ∙ (λ j. drill_of (after_answer i (event_is j) (draws_are j) d)))
    holds
