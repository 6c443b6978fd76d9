-- What a client does for the lines of its script, and what it knows then.
use Rattle.std.specs.Prelude.{◌≡◌, ℕ, List, [], ◌∷◌, codes, Option, Some, None, is_some, IsTrue, option_map, Bool, true, false, if◌then◌else◌}
use Rattle.std.specs.Str.{bytes_eq}
use Rattle.ifmap_client.specs.declared.lines.Line.{Line}
use Rattle.ifmap_client.specs.declared.lines.Line.TheVariants as the_line
use Rattle.ifmap_client.specs.ifmap_folds.Folds.{Sets, fold_items, no_sets}
use Rattle.ifmap_replies.specs.declared.replies.Reply.{Reply}
use Rattle.ifmap_replies.specs.declared.replies.Reply.TheVariants as reply
use Rattle.ifmap_replies.specs.Means.{MeansReply}
use Rattle.ifmap_requests.specs.declared.requests.Request.{Request}
use Rattle.ifmap_requests.specs.declared.requests.Request.TheVariants as request

-- a request as it was sent, the body that came for it, and the reply that the body means
pub record Exchange : Type 0 where
  pub request : Request
  pub body : List ℕ
  pub answer : Reply

-- what is done for a line: nothing, a request is asked, or the set of a name is printed
pub data Deed : Type 0 where
  passed : Deed
  asked : (asked : Exchange) → Deed
  printed : (name : List ℕ) → Deed

-- what a client knows: the session that was begun last, if one was, and the sets of its subscriptions
pub record Known : Type 0 where
  pub session : Option (List ℕ)
  pub sets : Sets

abbrev pub known_with : Option (List ℕ) → Sets → Known
known_with session sets = record { session = session; sets = sets }

-- at first it knows nothing
abbrev pub nothing_known : Known
nothing_known = known_with None no_sets

-- ---- requests

-- the session that a text names: `*` stands for the one that was begun last
abbrev pub named_session : Option (List ℕ) → List ℕ → Option (List ℕ)
named_session begun text = if bytes_eq text (codes "*") then begun else Some text

-- the request as it is sent, if the session that it names was begun
abbrev pub request_in : Option (List ℕ) → Request → Option Request
request_in begun (request.NewSession limit) = Some (request.NewSession limit)
request_in begun (request.RenewSession s) = option_map (λ t. request.RenewSession t) (named_session begun s)
request_in begun (request.EndSession s) = option_map (λ t. request.EndSession t) (named_session begun s)
request_in begun (request.Publish s ops) = option_map (λ t. request.Publish t ops) (named_session begun s)
request_in begun (request.Search s search) = option_map (λ t. request.Search t search) (named_session begun s)
request_in begun (request.Subscribe s ops) = option_map (λ t. request.Subscribe t ops) (named_session begun s)
request_in begun (request.Poll s) = option_map (λ t. request.Poll t) (named_session begun s)
request_in begun (request.PurgePublisher s publisher) =
    option_map (λ t. request.PurgePublisher t publisher) (named_session begun s)

-- the request is a poll
abbrev pub is_poll : Request → Bool
is_poll (request.NewSession limit) = false
is_poll (request.RenewSession s) = false
is_poll (request.EndSession s) = false
is_poll (request.Publish s ops) = false
is_poll (request.Search s search) = false
is_poll (request.Subscribe s ops) = false
is_poll (request.Poll s) = true
is_poll (request.PurgePublisher s publisher) = false

-- ---- lines

-- the line can be carried out: a session is named only where it was begun
abbrev pub CanDo : Known → Line → Type 0
CanDo known the_line.Blank = Unit {0}
CanDo known (the_line.Request r) = IsTrue (is_some (request_in known.session r))
CanDo known (the_line.Set name) = Unit {0}

-- this is done for the line
abbrev pub IsDeedFor : Known → Line → Deed → Type 0
IsDeedFor known the_line.Blank passed = Unit {0}
IsDeedFor known the_line.Blank (asked a) = ⊥
IsDeedFor known the_line.Blank (printed name) = ⊥
IsDeedFor known (the_line.Request r) passed = ⊥
IsDeedFor known (the_line.Request r) (asked a) = (request_in known.session r ≡ Some a.request) × MeansReply a.body a.answer
IsDeedFor known (the_line.Request r) (printed name) = ⊥
IsDeedFor known (the_line.Set wanted) passed = ⊥
IsDeedFor known (the_line.Set wanted) (asked a) = ⊥
IsDeedFor known (the_line.Set wanted) (printed name) = name ≡ wanted

-- ---- what is known

-- a session that begins has no sets, and what a poll is told is folded
abbrev pub after_reply : Reply → Known → Known
after_reply (reply.NewSession session publisher limit) known = known_with (Some session) no_sets
after_reply reply.Renewed known = known
after_reply reply.Ended known = known
after_reply reply.Published known = known
after_reply reply.Subscribed known = known
after_reply reply.Purged known = known
after_reply (reply.Found entries) known = known
after_reply (reply.Polled items) known = known_with known.session (fold_items items known.sets)
after_reply (reply.Error code note) known = known

abbrev pub after_deed : Deed → Known → Known
after_deed passed known = known
after_deed (asked a) known = after_reply a.answer known
after_deed (printed name) known = known

-- what is known after some deeds, one after the other
abbrev pub after_deeds : List Deed → Known → Known
after_deeds [] known = known
after_deeds (deed ∷ deeds) known = after_deeds deeds (after_deed deed known)
