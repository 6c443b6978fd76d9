-- When a queue is empty, and when a poll would be held.
use Rattle.std.proofs.Common.{◌≡◌, refl, sym, ◌∙◌, ap, subst, ℕ, ◌-◌, ◌^◌, ◌≤◌, Bool, true, false, List, [], ◌∷◌, min, arith}
use Rattle.std.proofs.lemmas.List.Sums.{sum_by-cons}
use Rattle.std.specs.Bool.{OnTrue}
use Rattle.ifmap_core.specs.EmptyPolls.{HasNothing, WouldHold}
use Rattle.ifmap_subscribes.specs.ifmap_machine.declared.events.Answer.{Answer}
use Rattle.ifmap_subscribes.specs.ifmap_machine.declared.events.Answer.TheVariants as the_answer
use Rattle.ifmap_subscribes.specs.ifmap_machine.Ending.{end_some, expire}
use Rattle.ifmap_subscribes.specs.ifmap_machine.Events.{Event}
use Rattle.ifmap_subscribes.specs.ifmap_machine.State.{State, advance}
use Rattle.ifmap_subscribes.specs.ifmap_machine.Step.{step}
use Rattle.ifmap_subscribes.specs.ifmap_machine.declared.events.Ask.{Ask}
use Rattle.ifmap_subscribes.specs.ifmap_machine.declared.events.Ask.TheVariants.{Request}
use Rattle.ifmap_subscribes.specs.ifmap_requests.declared.requests.Request.TheVariants.{Poll}
use Rattle.ifmap_session.specs.ifmap_search.declared.results.PollItem.{PollItem}
use Rattle.ifmap_session.specs.ifmap_search.declared.results.PollItem.TheVariants.{Search, Update, Delete, Notify, Error}
use Rattle.ifmap_session.specs.ifmap_search.Sizes.{poll_size, queue_size}
use Rattle.ifmap_session.specs.Sessions.{Session, is_same_text}
use Rattle.ifmap_session.specs.laws.TextLaws.{text_same}
use Rattle.ifmap_session.specs.laws.TableLaws.{none_expired}

item_large : (item : PollItem) → 1 ≤ poll_size item
item_large (Search name entries) = omega arith
item_large (Update name entries) = omega arith
item_large (Delete name entries) = omega arith
item_large (Notify name entries) = omega arith
item_large (Error name code note) = omega arith

pub empty_size : (queue : List PollItem) → queue ≡ [] → queue_size queue ≡ 0
empty_size queue e = ap queue_size e

pub size_empty : (queue : List PollItem) (n : ℕ) → n ≡ min (queue_size queue) (2 ^ 64 - 1) → n ≡ 0 → queue ≡ []
size_empty [] n e z = refl
size_empty (item ∷ queue) n e z =
    let large = item_large item in
    let sum = sum_by-cons poll_size item queue in
    absurd (omega (arith, e, z, large, sum))

poll_id : (one other : List ℕ) → Request (Poll one) ≡ Request (Poll other) → one ≡ other
poll_id one other e = cc

pub hold_back : (ask : Ask) (live : List Session) (client id : List ℕ) (A B : Type 0) → ask ≡ Request (Poll id)
    → (i : List ℕ) × (ask ≡ Request (Poll i)) × A × B × HasNothing live i client → HasNothing live id client
hold_back ask live client id A B e h =
    subst (λ (i : List ℕ). HasNothing live i client) (poll_id h.0 id (sym h.1 ∙ e)) h.4

-- then asking it changes nothing but the moment
held_step : (state : State) (event : Event) → WouldHold state event
    → ◌≡◌ {A = State × Answer} (advance event.moment state, the_answer.Held) (step state event)
held_step state event h =
    let later : State = advance event.moment state in
    let quiet : expire later ≡ later = ap (λ (ns : List ℕ). end_some ns later) (none_expired later.moment later.ttl later.sessions h.3) in
    let n = h.4 in
    let own : is_same_text n.0.client event.client ≡ true = text_same n.0.client event.client n.2 in
    rw (quiet, h.1, h.2, n.1, own, n.3) refl

pub held_where : (b : Bool) (state : State) (event : Event) → (b ≡ true → WouldHold state event)
    → OnTrue b (◌≡◌ {A = State × Answer} (advance event.moment state, the_answer.Held) (step state event))
held_where true state event f = held_step state event (f refl)
held_where false state event f = tt
