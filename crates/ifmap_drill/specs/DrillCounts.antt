-- What a drill counts.
use Rattle.std.specs.Prelude.{ℕ, ◌-◌, ◌^◌, ◌+◌, min, length, sum_by}
use Rattle.ifmap_core.specs.ifmap_machine.declared.events.Answer.{Answer}
use Rattle.ifmap_core.specs.ifmap_machine.declared.events.Answer.TheVariants.{Reply, Held, Heard}
use Rattle.ifmap_core.specs.ifmap_machine.declared.events.Ask.{Ask}
use Rattle.ifmap_core.specs.ifmap_machine.declared.events.Ask.TheVariants.{Request, Lost}
use Rattle.ifmap_core.specs.ifmap_machine.Events.{Event}
use Rattle.ifmap_core.specs.ifmap_machine.Legal.{History}
use Rattle.ifmap_core.specs.ifmap_replies.declared.replies.Reply.{Reply as AnyReply}
use Rattle.ifmap_core.specs.ifmap_replies.declared.replies.Reply.TheVariants as the_reply
use Rattle.ifmap_requests.specs.declared.requests.Request.{Request as Asked}
use Rattle.ifmap_requests.specs.declared.requests.Request.TheVariants as the_request
use Rattle.ifmap_drill.specs.declared.drill_counts.DrillCounts.{DrillCounts}

abbrev pub no_counts : DrillCounts
no_counts = record {
  events = 0;
  sessions = 0;
  subscribes = 0;
  publishes = 0;
  searches = 0;
  polls = 0;
  renewals = 0;
  held = 0;
  told = 0;
  links = 0;
}

abbrev pub one_event : DrillCounts
one_event = record no_counts { events = 1 }

-- what a request counts as, where its result is no error
abbrev pub counts_of_request : Asked → DrillCounts
counts_of_request (the_request.NewSession limit) = record one_event { sessions = 1 }
counts_of_request (the_request.Subscribe session ops) = record one_event { subscribes = 1 }
counts_of_request (the_request.Publish session ops) = record one_event { publishes = 1 }
counts_of_request (the_request.Search session search) = record one_event { searches = 1 }
counts_of_request (the_request.Poll session) = record one_event { polls = 1 }
counts_of_request (the_request.RenewSession session) = record one_event { renewals = 1 }
counts_of_request (the_request.EndSession session) = one_event
counts_of_request (the_request.PurgePublisher session publisher) = one_event

abbrev pub counts_of_ask : Ask → DrillCounts
counts_of_ask (Request request) = counts_of_request request
counts_of_ask (Lost session) = one_event

-- what that is by the reply: nothing where it is an error, and for a poll also the items that it is told
abbrev pub counts_of_reply : DrillCounts → AnyReply → DrillCounts
counts_of_reply asked (the_reply.Error code note) = no_counts
counts_of_reply asked (the_reply.Polled items) = record asked { told = length items }
counts_of_reply asked (the_reply.NewSession session publisher limit) = asked
counts_of_reply asked the_reply.Renewed = asked
counts_of_reply asked the_reply.Ended = asked
counts_of_reply asked the_reply.Published = asked
counts_of_reply asked the_reply.Subscribed = asked
counts_of_reply asked the_reply.Purged = asked
counts_of_reply asked (the_reply.Found entries) = asked

-- what an event counts as, by its answer; a poll that is held counts as a poll and as held
abbrev pub counts_of_event : Ask → Answer → DrillCounts
counts_of_event ask (Reply reply) = counts_of_reply (counts_of_ask ask) reply
counts_of_event ask Held = record (counts_of_ask ask) { held = 1 }
counts_of_event ask Heard = counts_of_ask ask

-- a number of all events of a history together; a count stands still at the greatest of its type
abbrev pub total_of : (DrillCounts → ℕ) → History → ℕ
total_of number history = min (sum_by (λ (e : Event × Answer). number (counts_of_event e.0.ask e.1)) history) (2 ^ 64 - 1)

-- what the events of a history count as together, with so many links
abbrev pub counts_of : History → ℕ → DrillCounts
counts_of history links = record {
  events = total_of (λ c. c.events) history;
  sessions = total_of (λ c. c.sessions) history;
  subscribes = total_of (λ c. c.subscribes) history;
  publishes = total_of (λ c. c.publishes) history;
  searches = total_of (λ c. c.searches) history;
  polls = total_of (λ c. c.polls) history;
  renewals = total_of (λ c. c.renewals) history;
  held = total_of (λ c. c.held) history;
  told = total_of (λ c. c.told) history;
  links = links;
}

-- two numbers together, at most 2^64 - 1
abbrev pub capped_sum : ℕ → ℕ → ℕ
capped_sum one other = min (one + other) (2 ^ 64 - 1)

-- two counts together, with the links of the first
abbrev pub counts_sum : DrillCounts → DrillCounts → DrillCounts
counts_sum a b = record {
  events = capped_sum a.events b.events;
  sessions = capped_sum a.sessions b.sessions;
  subscribes = capped_sum a.subscribes b.subscribes;
  publishes = capped_sum a.publishes b.publishes;
  searches = capped_sum a.searches b.searches;
  polls = capped_sum a.polls b.polls;
  renewals = capped_sum a.renewals b.renewals;
  held = capped_sum a.held b.held;
  told = capped_sum a.told b.told;
  links = a.links;
}
