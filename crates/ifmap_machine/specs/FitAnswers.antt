-- Answers that can be written and are read back, and the states that make no others.
use Rattle.std.specs.Prelude.{List}
use Rattle.std.specs.List.{AllByRecursion}
use Rattle.ifmap_elem.specs.Chars.{IsCharacters}
use Rattle.ifmap_machine.specs.declared.events.Answer.{Answer}
use Rattle.ifmap_machine.specs.declared.events.Answer.TheVariants as the_answer
use Rattle.ifmap_machine.specs.Events.{Event}
use Rattle.ifmap_machine.specs.Legal.{History}
use Rattle.ifmap_machine.specs.State.{Standing, State}
use Rattle.ifmap_folds.specs.ifmap_plans.Plans.{AreWhole}
use Rattle.ifmap_replies.specs.Fit.{IsFitPollItem, IsFitReply}
use Rattle.ifmap_replies.specs.Means.{MeansReply}
use Rattle.ifmap_replies.specs.Results.{reply_bytes}
use Rattle.ifmap_replies.specs.ifmap_search.declared.results.PollItem.{PollItem}
use Rattle.ifmap_session.specs.Sessions.{Session}
use Rattle.ifmap_publish.specs.ifmap_view.Attachments.{IsGraph}

-- what is sent is a reply that is fit
abbrev pub IsFitAnswer : Answer → Type 0
IsFitAnswer (the_answer.Reply reply) = IsFitReply reply
IsFitAnswer the_answer.Held = Unit {0}
IsFitAnswer the_answer.Heard = Unit {0}

-- the bytes of what is sent mean it
abbrev pub IsReadBack : Answer → Type 0
IsReadBack (the_answer.Reply reply) = MeansReply (reply_bytes reply) reply
IsReadBack the_answer.Held = Unit {0}
IsReadBack the_answer.Heard = Unit {0}

-- each answer of a history
abbrev pub AreFitAnswers : History → Type 0
AreFitAnswers history = AllByRecursion (λ (e : Event × Answer). IsFitAnswer e.1) history

-- the bytes of each answer of a history mean it
abbrev pub AreReadBack : History → Type 0
AreReadBack history = AllByRecursion (λ (e : Event × Answer). IsReadBack e.1) history

-- each item that a poll is to be told
abbrev pub IsFitQueue : List PollItem → Type 0
IsFitQueue queue = AllByRecursion IsFitPollItem queue

-- the graph is one whose attachments are whole, all that is to be told is fit, and so are the names of subscriptions
pub record IsFitState (state : State) : Type 0 where
  pub graph : IsGraph state.graph
  pub whole : AreWhole state.graph
  pub queues : AllByRecursion (λ (s : Session). IsFitQueue s.queue) state.sessions
  pub names : AllByRecursion (λ (x : Standing). IsCharacters x.name) state.standing

-- the state after a step is fit, and so is its answer
abbrev pub IsFitStep : State × Answer → Type 0
IsFitStep r = IsFitState r.0 × IsFitAnswer r.1
