-- What a client folds of the answers to its polls, beside the graph.
use Rattle.std.specs.Prelude.{◌≡◌, ℕ, List, [], ◌∷◌, ◌++◌, flat_map, Some, if◌then◌else◌}
use Rattle.ifmap_folds.specs.Folds.{Sets, fold_items, no_sets}
use Rattle.ifmap_folds.specs.ifmap_fresh.Fresh.{fresh}
use Rattle.ifmap_lemmas.specs.Having.{Has}
use Rattle.ifmap_machine.specs.declared.events.Answer.{Answer}
use Rattle.ifmap_machine.specs.declared.events.Answer.TheVariants as the_answer
use Rattle.ifmap_machine.specs.declared.events.Ask.{Ask}
use Rattle.ifmap_machine.specs.declared.events.Ask.TheVariants.{Request, Lost}
use Rattle.ifmap_machine.specs.Events.{Event}
use Rattle.ifmap_machine.specs.Legal.{History, state_after}
use Rattle.ifmap_machine.specs.State.{Standing}
use Rattle.ifmap_replies.specs.declared.replies.Reply.TheVariants as the_reply
use Rattle.ifmap_publish.specs.ifmap_requests.declared.requests.Request.TheVariants as the_request
use Rattle.ifmap_replies.specs.ifmap_search.declared.results.PollItem.{PollItem}
use Rattle.ifmap_session.specs.Sessions.{Session, is_same_text, session_with_id}

-- what a poll's answer tells
abbrev pub items_polled : Answer → List PollItem
items_polled (the_answer.Reply (the_reply.Polled items)) = items
items_polled (the_answer.Reply (the_reply.NewSession session publisher limit)) = []
items_polled (the_answer.Reply the_reply.Renewed) = []
items_polled (the_answer.Reply the_reply.Ended) = []
items_polled (the_answer.Reply the_reply.Published) = []
items_polled (the_answer.Reply the_reply.Subscribed) = []
items_polled (the_answer.Reply the_reply.Purged) = []
items_polled (the_answer.Reply (the_reply.Found entries)) = []
items_polled (the_answer.Reply (the_reply.Error code note)) = []
items_polled the_answer.Held = []
items_polled the_answer.Heard = []

-- what is told of a poll in the session of an id, where one is asked
abbrev pub items_of_poll : List ℕ → Ask → List PollItem → List PollItem
items_of_poll id (Request (the_request.Poll own)) items = if is_same_text own id then items else []
items_of_poll id (Request (the_request.NewSession limit)) items = []
items_of_poll id (Request (the_request.RenewSession own)) items = []
items_of_poll id (Request (the_request.EndSession own)) items = []
items_of_poll id (Request (the_request.Publish own ops)) items = []
items_of_poll id (Request (the_request.Search own search)) items = []
items_of_poll id (Request (the_request.Subscribe own ops)) items = []
items_of_poll id (Request (the_request.PurgePublisher own publisher)) items = []
items_of_poll id (Lost own) items = []

-- all that polls in the session of an id were told, in order
abbrev pub all_polled : List ℕ → History → List PollItem
all_polled id history = flat_map (λ (e : Event × Answer). items_of_poll id e.0.ask (items_polled e.1)) history

-- what a client folds of that
abbrev pub client_sets : List ℕ → History → Sets
client_sets id history = fold_items (all_polled id history) no_sets

-- the answer tells a poll its items, or holds it
abbrev pub IsToldOrHeld : Answer → Type 0
IsToldOrHeld (the_answer.Reply (the_reply.Polled items)) = Unit {0}
IsToldOrHeld (the_answer.Reply (the_reply.NewSession session publisher limit)) = ⊥
IsToldOrHeld (the_answer.Reply the_reply.Renewed) = ⊥
IsToldOrHeld (the_answer.Reply the_reply.Ended) = ⊥
IsToldOrHeld (the_answer.Reply the_reply.Published) = ⊥
IsToldOrHeld (the_answer.Reply the_reply.Subscribed) = ⊥
IsToldOrHeld (the_answer.Reply the_reply.Purged) = ⊥
IsToldOrHeld (the_answer.Reply (the_reply.Found entries)) = ⊥
IsToldOrHeld (the_answer.Reply (the_reply.Error code note)) = ⊥
IsToldOrHeld the_answer.Held = Unit {0}
IsToldOrHeld the_answer.Heard = ⊥

abbrev pub is_poll_of : List ℕ → Ask → Type 0
is_poll_of id ask = ask ≡ Request (the_request.Poll id)

-- each subscription of the session of an id has the set that its client folded: the fresh result of its search
abbrev pub AgreesAfter : ℕ → History → List ℕ → Type 0
AgreesAfter ttl history id =
    (s : Session) (x : Standing) → session_with_id id (state_after ttl history).sessions ≡ Some s
    → Has (state_after ttl history).standing x → x.serial ≡ s.serial
    → client_sets id history x.name ≡ Some (fresh (state_after ttl history).graph x.search)

-- so it is in a history after each poll that is told something, or held
abbrev pub Agrees : ℕ → History → Type 0
Agrees ttl history =
    (before rest : History) (event : Event) (answer : Answer) (id : List ℕ) → history ≡ before ++ ((event, answer) ∷ rest)
    → is_poll_of id event.ask → IsToldOrHeld answer → AgreesAfter ttl (before ++ ((event, answer) ∷ [])) id
