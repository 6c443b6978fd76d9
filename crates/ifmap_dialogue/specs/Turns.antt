-- The turns by which the request of a post is asked.
use Rattle.std.specs.Prelude.{◌≡◌, ℕ, ◌<◌, Bool, true, false, List, [], ◌∷◌, ◌++◌, length, All}
use Rattle.ifmap_machine.specs.declared.events.Ask.TheVariants.{Request as Asking, Lost}
use Rattle.ifmap_machine.specs.Events.{Event}
use Rattle.ifmap_machine.specs.ifmap_requests.declared.requests.Request.{Request}
use Rattle.ifmap_machine.specs.ifmap_requests.declared.requests.Request.TheVariants as request
use Rattle.ifmap_dialogue.specs.declared.desks.AskOutcome.{AskOutcome}
use Rattle.ifmap_dialogue.specs.declared.desks.AskOutcome.TheVariants as outcome
use Rattle.ifmap_dialogue.specs.declared.polls.Poll.{Poll}
use Rattle.ifmap_dialogue.specs.Desks.{Turn, outcome_of}

-- how often the request of one post is asked
abbrev pub most_turns : ℕ
most_turns = 36_000

-- what the events of a post have in common: who posts, what is asked, the length of the body, and the random word
pub record Question : Type 0 where
  pub client : List ℕ
  pub request : Request
  pub bytes : ℕ
  pub random : ℕ

-- the event by which it is asked at a moment: `again` is set where it was asked before
abbrev pub event_of_question : Question → Bool → ℕ → Event
event_of_question question again moment = record {
  moment = moment;
  client = question.client;
  random = question.random;
  again = again;
  bytes = question.bytes;
  ask = Asking question.request;
}

-- the turn asks it at a moment that the clock can give
abbrev pub AsksByTurn : (ℕ → Type 0) → Question → Bool → Turn → Type 0
AsksByTurn gives question again turn = (moment : ℕ) × gives moment × (turn.event ≡ event_of_question question again moment)

-- the first turn asks it, and each other turn asks it again
abbrev pub AllAsk : (ℕ → Type 0) → Question → List Turn → Type 0
AllAsk gives question [] = Unit {0}
AllAsk gives question (turn ∷ turns) = AsksByTurn gives question false turn × All (AsksByTurn gives question true) turns

-- the turn was held
abbrev pub IsHeldTurn : Turn → Type 0
IsHeldTurn turn = outcome_of turn.asked ≡ outcome.Held

-- all turns but the last were held, and the last had this outcome
pub record EndsIn (the_outcome : AskOutcome) (turns : List Turn) : Type 0 where
  pub held : List Turn
  pub last : Turn
  pub split : turns ≡ held ++ last ∷ []
  pub are_held : All IsHeldTurn held
  pub few : length held < most_turns
  pub answer : outcome_of last.asked ≡ the_outcome

-- a poll as what is asked
abbrev pub question_of : Poll → Question
question_of poll =
    record { client = poll.client; request = request.Poll poll.session; bytes = poll.bytes; random = poll.random }

-- the event that tells that the answer to a poll was lost: it comes from no body
abbrev pub lost_event : Poll → ℕ → Event
lost_event poll moment = record {
  moment = moment;
  client = poll.client;
  random = poll.random;
  again = false;
  bytes = 0;
  ask = Lost poll.session;
}

-- the turn tells that, at a moment that the clock can give
abbrev pub AsksLost : (ℕ → Type 0) → Poll → Turn → Type 0
AsksLost gives poll turn = (moment : ℕ) × gives moment × (turn.event ≡ lost_event poll moment)

-- the event asks a poll for the first time, at a moment that the clock can give
abbrev pub IsFirstPoll : (ℕ → Type 0) → Poll → Event → Type 0
IsFirstPoll gives poll event = (moment : ℕ) × gives moment × (event ≡ event_of_question (question_of poll) false moment)
