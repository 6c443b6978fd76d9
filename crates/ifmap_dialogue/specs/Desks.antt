-- What is asked at a desk, and what that leaves there.
use Rattle.std.specs.Prelude.{◌≡◌, ℕ, ◌+◌, ◌-◌, ◌*◌, ◌^◌, ◌≤◌, min, Bool, true, false, List, [], ◌∷◌, ◌++◌, length, Option, Some, IfSome, count_by, flat_map, All}
use Rattle.ifmap_hall.specs.declared.book.Asked.{Asked}
use Rattle.ifmap_hall.specs.declared.book.Asked.TheVariants as asked
use Rattle.ifmap_dialogue.specs.declared.desks.AskOutcome.{AskOutcome}
use Rattle.ifmap_dialogue.specs.declared.desks.AskOutcome.TheVariants as outcome
use Rattle.ifmap_machine.specs.declared.events.Answer.{Answer}
use Rattle.ifmap_machine.specs.declared.events.Answer.TheVariants as answer
use Rattle.ifmap_machine.specs.declared.events.Ask.TheVariants.{Request, Lost}
use Rattle.ifmap_machine.specs.Events.{Event}
use Rattle.ifmap_machine.specs.ifmap_replies.declared.replies.Reply.{Reply}
use Rattle.ifmap_machine.specs.ifmap_replies.declared.replies.Reply.TheVariants as reply
use Rattle.ifmap_machine.specs.ifmap_requests.declared.requests.Request.{Request as TheRequest}
use Rattle.ifmap_machine.specs.ifmap_requests.declared.requests.Request.TheVariants.{Poll}

-- what an event weighs in the book of a hall, in bytes
abbrev pub weight : Event → ℕ
weight event = 1000 + 8 * event.bytes

-- the most that an event weighs: its body has at most 10,000,000 bytes
abbrev pub greatest_weight : ℕ
greatest_weight = 80_001_000

-- a call that was done: an event, and its answer
abbrev pub Call : Type 0
Call = Event × Answer

-- one ask: the event, and what the desk answers
pub record Turn : Type 0 where
  pub event : Event
  pub asked : Asked Event Answer

-- how a turn went: an ask is held where the desk answers that it is, or is done with that answer
abbrev pub outcome_of : Asked Event Answer → AskOutcome
outcome_of (asked.Done place (answer.Reply reply)) = outcome.Replied reply
outcome_of (asked.Done place answer.Held) = outcome.Held
outcome_of (asked.Done place answer.Heard) = outcome.Heard
outcome_of (asked.Held place event) = outcome.Held
outcome_of (asked.Spent entries event) = outcome.Spent entries
outcome_of (asked.NoMemory event) = outcome.NoMemory

-- the call of a turn, where it was done
abbrev pub call_of : Event → Asked Event Answer → List Call
call_of event (asked.Done place answer) = (event, answer) ∷ []
call_of event (asked.Held place back) = []
call_of event (asked.Spent entries back) = []
call_of event (asked.NoMemory back) = []

-- the calls that were done, in the order of the turns
abbrev pub calls : List Turn → List Call
calls turns = flat_map (λ turn. call_of turn.event turn.asked) turns

-- the desk held the event back, and made no call of it
abbrev pub is_held_back : Turn → Bool
is_held_back turn = is_held turn.asked where
  is_held : Asked Event Answer → Bool
  is_held (asked.Done place answer) = false
  is_held (asked.Held place event) = true
  is_held (asked.Spent entries event) = false
  is_held (asked.NoMemory event) = false

-- the desk had no number left for another call
abbrev pub is_spent : Turn → Bool
is_spent turn = is_used_up turn.asked where
  is_used_up : Asked Event Answer → Bool
  is_used_up (asked.Done place answer) = false
  is_used_up (asked.Held place event) = false
  is_used_up (asked.Spent entries event) = true
  is_used_up (asked.NoMemory event) = false

-- the event is a poll
abbrev pub IsPoll : Event → Type 0
IsPoll event = (session : List ℕ) × (event.ask ≡ Request (Poll session))

-- the event is a request
abbrev pub IsRequestEvent : Event → Type 0
IsRequestEvent event = (request : TheRequest) × (event.ask ≡ Request request)

-- the event tells that an answer was lost
abbrev pub IsLost : Event → Type 0
IsLost event = (session : List ℕ) × (event.ask ≡ Lost session)

-- what a poll is told is told to a poll alone
abbrev pub FitsReply : Event → Reply → Type 0
FitsReply event (reply.Polled items) = IsPoll event
FitsReply event _ = IsRequestEvent event

-- what is held is a poll, and `Heard` answers a lost answer and nothing else
abbrev pub FitsAnswer : Event → Answer → Type 0
FitsAnswer event (answer.Reply reply) = FitsReply event reply
FitsAnswer event answer.Held = IsPoll event
FitsAnswer event answer.Heard = IsLost event

-- the answer is one that the event can have, and every answer but `Done` hands the event back
abbrev pub FitsAsked : Event → Asked Event Answer → Type 0
FitsAsked event (asked.Done place answer) = FitsAnswer event answer
FitsAsked event (asked.Held place back) = IsPoll event × (back ≡ event)
FitsAsked event (asked.Spent entries back) = back ≡ event
FitsAsked event (asked.NoMemory back) = back ≡ event

-- a desk as contracts see it: the calls that were done there, where it tells them; how many turns it took, where it counts them; how
-- many of its answers were `Held`, and how many `Spent`; and, which no call changes, what it stands in and the name of what it borrows
pub record DeskSeen (H : Type 0) : Type 0 where
  pub said : Option (List Call)
  pub turns : Option ℕ
  pub held : ℕ
  pub spent : ℕ
  pub home : H
  pub loan : ℕ

-- where calls are told, they were told before, and these came after them
abbrev pub Gains : Option (List Call) → Option (List Call) → List Call → Type 0
Gains before after more = IfSome after (λ all. (former : List Call) × (before ≡ Some former) × (all ≡ former ++ more))

-- where turns are counted, they were counted before, and there are so many more
abbrev pub CountsOn : Option ℕ → Option ℕ → ℕ → Type 0
CountsOn before after more = IfSome after (λ all. (former : ℕ) × (before ≡ Some former) × (all ≡ former + more))

-- a count rose by so many, or stands at its last value
pub record CountRises (many before after : ℕ) : Type 0 where
  pub least : min (before + many) (2 ^ 64 - 1) ≤ after
  pub most : after ≤ before + many

-- what these turns leave at a desk: each of them is one turn that it took
pub record DeskTakesTurns {H : Type 0} (before after : DeskSeen H) (turns : List Turn) : Type 0 where
  pub said : Gains before.said after.said (calls turns)
  pub count : CountsOn before.turns after.turns (length turns)
  pub held : CountRises (count_by is_held_back turns) before.held after.held
  pub spent : CountRises (count_by is_spent turns) before.spent after.spent
  pub home : after.home ≡ before.home
  pub loan : after.loan ≡ before.loan
  pub fit : All (λ turn. FitsAsked turn.event turn.asked) turns
