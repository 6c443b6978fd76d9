-- What the sessions are told of a change of the graph (IF-MAP binding for SOAP 2.2, subscribe and poll: search, update, delete and
-- notify results, and results that are too big).
use Rattle.std.specs.Prelude.{ℕ, ◌==◌, ◌&&◌, nat_lt, Bool, List, [], ◌∷◌, ◌++◌, codes, filter, flat_map, map, not, None, Some}
use Rattle.std.specs.Prelude.{if◌then◌else◌}
use Rattle.std.specs.Fmt.{decimal}
use Rattle.std.specs.List.{list_any}
use Rattle.ifmap_folds.specs.Differences.{difference}
use Rattle.ifmap_folds.specs.Notes.{told_notes}
use Rattle.ifmap_folds.specs.ifmap_fresh.Fresh.{fresh, fresh_size}
use Rattle.ifmap_ident.specs.declared.codes.Code.TheVariants.{PollResultsTooBig, SearchResultsTooBig}
use Rattle.ifmap_machine.specs.State.{Standing, State, standing_in}
use Rattle.ifmap_folds.specs.ifmap_plans.declared.plans.Note.{Note}
use Rattle.ifmap_replies.specs.ifmap_search.declared.results.Entry.{Entry}
use Rattle.ifmap_replies.specs.ifmap_search.declared.results.PollItem.{PollItem}
use Rattle.ifmap_replies.specs.ifmap_search.declared.results.PollItem.TheVariants as the_item
use Rattle.ifmap_replies.specs.ifmap_search.declared.searches.Search.{Search}
use Rattle.ifmap_replies.specs.ifmap_search.Sizes.{queue_size}
use Rattle.ifmap_session.specs.Sessions.{Session, with_error}
use Rattle.ifmap_publish.specs.ifmap_view.declared.attachments.Attachment.{Attachment}

-- the note of an error for size
abbrev pub limit_note : ℕ → ℕ → List ℕ
limit_note size limit = decimal size ++ codes " of " ++ decimal limit

-- the result of a search is greater than it allows
abbrev pub is_too_big : List Attachment → Search → Bool
is_too_big rows search = nat_lt search.max_size (fresh_size rows search)

-- an item of these entries, where there is one
abbrev pub item_if_any : (List Entry → PollItem) → List Entry → List PollItem
item_if_any item [] = []
item_if_any item (e ∷ entries) = item (e ∷ entries) ∷ []

-- the error of a subscription whose result is too big
abbrev pub too_big_item : List ℕ → List Attachment → Search → PollItem
too_big_item name rows search =
    the_item.Error (Some name) SearchResultsTooBig (limit_note (fresh_size rows search) search.max_size)

-- what went, what came, and what was notified, each where there is something
abbrev pub differences : List ℕ → List Entry → List Entry → List Entry → List PollItem
differences name before after notes =
    item_if_any (the_item.Delete name) (difference before after)
    ++ (item_if_any (the_item.Update name) (difference after before) ++ item_if_any (the_item.Notify name) notes)

-- what is told to one subscription
abbrev pub told_to : List Attachment → List Attachment → List Note → Standing → List PollItem
told_to before after notes x =
    if is_too_big after x.search
    then too_big_item x.name after x.search ∷ []
    else differences x.name (fresh before x.search) (fresh after x.search) (told_notes after x.search notes)

-- and to all of a session
abbrev pub told_in_session : List Attachment → List Attachment → List Note → List Standing → ℕ → List PollItem
told_in_session before after notes standing serial = flat_map (told_to before after notes) (standing_in serial standing)

-- a session with another queue
abbrev pub with_queue : List PollItem → Session → Session
with_queue queue s = record s { queue = queue }

-- a session with more to tell
abbrev pub tell_session : List PollItem → Session → Session
tell_session items s = record s { queue = s.queue ++ items }

-- the state with another graph, of which each subscription is told; those whose results are too big stand no longer
abbrev pub tell : List Attachment → List Note → State → State
tell after notes state = record state {
  graph = after;
  sessions = map (λ (s : Session). tell_session (told_in_session state.graph after notes state.standing s.serial) s) state.sessions;
  standing = filter (λ x. not (is_too_big after x.search)) state.standing;
}

-- the queue of a session is greater than its limit
abbrev pub is_overfull : Session → Bool
is_overfull s = nat_lt s.limit (queue_size s.queue)

-- such a queue is one error in place of all
abbrev pub overflow_session : Session → Session
overflow_session s =
    if is_overfull s
    then with_error (the_item.Error None PollResultsTooBig (limit_note (queue_size s.queue) s.limit)) s
    else s

-- a subscription is of a session whose queue is greater than its limit
abbrev pub is_overrun : List Session → Standing → Bool
is_overrun sessions x = list_any (λ (s : Session). s.serial == x.serial && is_overfull s) sessions

-- the state where no queue is greater than its limit: what was is one error, and its subscriptions stand no longer
abbrev pub overflow : State → State
overflow state = record state {
  sessions = map overflow_session state.sessions;
  standing = filter (λ x. not (is_overrun state.sessions x)) state.standing;
}
