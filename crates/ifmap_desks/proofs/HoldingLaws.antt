-- The test whether an event would be held, beside what it tests.
use Rattle.std.proofs.Common.{◌≡◌, ◌↔◌, refl, ℕ, true, List, [], ◌∷◌, not, Option, None, Some}
use Rattle.std.proofs.lemmas.Bool.{and_parts, not-true}
use Rattle.ifmap_core.specs.EmptyPolls.{WouldHold}
use Rattle.ifmap_desks.specs.Holding.{has_nothing, holds_ask, is_any_expired, is_nothing, would_hold}
use Rattle.ifmap_dialogue.specs.ifmap_machine.declared.events.Ask.{Ask}
use Rattle.ifmap_dialogue.specs.ifmap_machine.declared.events.Ask.TheVariants.{Request, Lost}
use Rattle.ifmap_dialogue.specs.ifmap_machine.Events.{Event}
use Rattle.ifmap_dialogue.specs.ifmap_machine.State.{State}
use Rattle.ifmap_dialogue.specs.ifmap_requests.declared.requests.Request.TheVariants as the_request
use Rattle.ifmap_core.specs.ifmap_search.declared.results.PollItem.{PollItem}
use Rattle.ifmap_core.specs.ifmap_session.Sessions.{Session, is_same_text, session_with_id}
use Rattle.ifmap_core.specs.ifmap_session.laws.TextLaws.{text_is, text_same}

no_items : (queue : List PollItem) → is_nothing queue ≡ true → queue ≡ []
no_items [] e = refl
no_items (item ∷ queue) e = cc

found_nothing : (client : List ℕ) (found : Option Session) → has_nothing client found ≡ true
    → (s : Session) × (found ≡ Some s) × (s.client ≡ client) × (s.queue ≡ [])
found_nothing client None e = cc
found_nothing client (Some s) e =
    let p = and_parts (is_same_text s.client client) (is_nothing s.queue) e in
    (s, refl, text_is s.client client p.0, no_items s.queue p.1)

holds_where : (state : State) (event : Event) (ask : Ask) → event.ask ≡ ask → holds_ask state event ask ≡ true → WouldHold state event
holds_where state event (Request (the_request.Poll id)) is e =
    let p = and_parts event.again _ e in
    let q = and_parts (not (is_any_expired state event.moment)) _ p.1 in
    (id, is, p.0, not-true _ q.0, found_nothing event.client (session_with_id id state.sessions) q.1)
holds_where state event (Request (the_request.NewSession limit)) is e = cc
holds_where state event (Request (the_request.RenewSession id)) is e = cc
holds_where state event (Request (the_request.EndSession id)) is e = cc
holds_where state event (Request (the_request.Publish id ops)) is e = cc
holds_where state event (Request (the_request.Search id asked)) is e = cc
holds_where state event (Request (the_request.Subscribe id ops)) is e = cc
holds_where state event (Request (the_request.PurgePublisher id publisher)) is e = cc
holds_where state event (Lost id) is e = cc

passes_where : (state : State) (event : Event) → WouldHold state event → would_hold state event ≡ true
passes_where state event h =
    let n = h.4 in
    let own : is_same_text n.0.client event.client ≡ true = text_same n.0.client event.client n.2 in
    rw (h.1, h.2, h.3, n.1, own, n.3) refl

pub tells_would_hold : (state : State) (event : Event) → would_hold state event ≡ true ↔ WouldHold state event
tells_would_hold state event = (holds_where state event event.ask refl, passes_where state event)
