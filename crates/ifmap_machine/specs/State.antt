-- What the machine knows between two events.
use Rattle.std.specs.Prelude.{ℕ, ◌==◌, List, [], filter, max}
use Rattle.std.specs.Cmp.Lexicographic.{slice_cmp}
use Rattle.std.specs.Ordering.{nat_cmp, on, then_cmp}
use Rattle.std.specs.declared.cmp.Ordering.{Ordering}
use Rattle.ifmap_replies.specs.ifmap_search.declared.searches.Search.{Search}
use Rattle.ifmap_session.specs.Sessions.{Session}
use Rattle.ifmap_publish.specs.ifmap_view.declared.attachments.Attachment.{Attachment}

-- a subscription that stands: the serial of its session, its name there, and its search
pub record Standing : Type 0 where
  pub serial : ℕ
  pub name : List ℕ
  pub search : Search

pub record State : Type 0 where
  -- the greatest moment that was handed in
  pub moment : ℕ
  -- after how many seconds without an accepted request a session is expired
  pub ttl : ℕ
  -- the serial that was given last
  pub counter : ℕ
  -- what is attached to identifiers and links, in order
  pub graph : List Attachment
  -- the live sessions, in the order of their serials
  pub sessions : List Session
  -- their subscriptions, in the order of their sessions, and in one session of the bytes of their names
  pub standing : List Standing

-- after how many seconds without an accepted request a session of a program is expired
abbrev pub session_seconds : ℕ
session_seconds = 180

-- the state at the start
abbrev pub opening_state : ℕ → State
opening_state ttl = record { moment = 0; ttl = ttl; counter = 0; graph = []; sessions = []; standing = [] }

-- the state at that moment, or at its own where that is later
abbrev pub advance : ℕ → State → State
advance moment state = record state { moment = max state.moment moment }

-- the order of subscriptions
abbrev pub standing_order : Standing → Standing → Ordering
standing_order = then_cmp (on (λ x. x.serial) nat_cmp) (on (λ x. x.name) (slice_cmp nat_cmp))

-- the subscriptions of a session
abbrev pub standing_in : ℕ → List Standing → List Standing
standing_in serial standing = filter (λ x. x.serial == serial) standing
