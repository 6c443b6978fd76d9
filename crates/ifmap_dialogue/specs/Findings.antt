-- What comes of the body of a post, and of asking the desk what it means.
use Rattle.std.specs.Prelude.{◌≡◌, ◌≢◌, ℕ, ◌<◌, ◌⊎◌, List, [], length, Ok, Err, All}
use Rattle.rand_chacha.specs.ChaCha.{ChaCha}
use Rattle.ifmap_ident.specs.declared.codes.Code.{Code}
use Rattle.ifmap_ident.specs.Codes.{code_name}
use Rattle.ifmap_machine.specs.ifmap_replies.declared.replies.Reply.{Reply}
use Rattle.ifmap_machine.specs.ifmap_replies.declared.replies.Reply.TheVariants as reply
use Rattle.ifmap_machine.specs.ifmap_requests.declared.errors.Refusal.TheVariants.{Named, Unreadable}
use Rattle.ifmap_machine.specs.ifmap_requests.declared.requests.Request.{Request}
use Rattle.ifmap_machine.specs.ifmap_requests.Means.{Means}
use Rattle.ifmap_machine.specs.ifmap_search.declared.results.PollItem.{PollItem}
use Rattle.ifmap_dialogue.specs.declared.desks.AskOutcome.TheVariants as outcome
use Rattle.ifmap_dialogue.specs.declared.findings.Finding.{Finding}
use Rattle.ifmap_dialogue.specs.declared.findings.Finding.TheVariants as finding
use Rattle.ifmap_dialogue.specs.declared.polls.Poll.{Poll}
use Rattle.ifmap_dialogue.specs.Desks.{DeskSeen, DeskTakesTurns, Turn}
use Rattle.ifmap_dialogue.specs.Turns.{AllAsk, EndsIn, IsHeldTurn, Question, most_turns, question_of}
use Rattle.ifmap_dialogue.specs.Words.{after_random, random_word}

-- the client posts this body, and the stream of words goes on from one place to another
pub record Posting : Type 0 where
  pub client : List ℕ
  pub body : List ℕ
  pub words : ChaCha
  pub after : ChaCha

-- nothing is asked, and no word is taken
abbrev pub AsksNothing : Posting → List Turn → Type 0
AsksNothing p turns = (turns ≡ []) × (p.after ≡ p.words)

-- this is what the post asks: its body means the request, and the random word is the next one of the stream
pub record IsPosed (p : Posting) (question : Question) : Type 0 where
  pub client : question.client ≡ p.client
  pub bytes : question.bytes ≡ length p.body
  pub means : Means p.body (Ok question.request)
  pub random : question.random ≡ random_word p.words
  pub drawn : p.after ≡ after_random p.words

-- the body means a request, which is asked by these turns
pub record Puts (gives : ℕ → Type 0) (p : Posting) (turns : List Turn) (question : Question) : Type 0 where
  pub posed : IsPosed p question
  pub asked : AllAsk gives question turns

-- the refusal of a body that means a code
abbrev pub refusal_reply : Code → Reply
refusal_reply code = reply.Error code (code_name code)

-- the reply is not what a poll is told
abbrev pub IsNotPolled : Reply → Type 0
IsNotPolled the_reply = (items : List PollItem) → the_reply ≢ reply.Polled items

-- the body means a code, and this is its refusal
abbrev pub IsRefusedByCode : Posting → List Turn → Reply → Type 0
IsRefusedByCode p turns the_reply = (code : Code) × Means p.body (Err (Named code)) × AsksNothing p turns × (the_reply ≡ refusal_reply code)

-- the request is asked until it is not held, and this is the reply to it
abbrev pub IsReplied : (ℕ → Type 0) → Posting → List Turn → Reply → Type 0
IsReplied gives p turns the_reply =
    (question : Question) × Puts gives p turns question × EndsIn (outcome.Replied the_reply) turns × IsNotPolled the_reply

-- the same of a poll, and what it is told
abbrev pub IsPollTold : (ℕ → Type 0) → Posting → List Turn → Reply → Poll → Type 0
IsPollTold gives p turns the_reply poll =
    Puts gives p turns (question_of poll) × EndsIn (outcome.Replied the_reply) turns
    × ((items : List PollItem) × (the_reply ≡ reply.Polled items))

-- the request was asked as often as can be, and held each time
abbrev pub IsHeldOut : (ℕ → Type 0) → Posting → List Turn → ℕ → Type 0
IsHeldOut gives p turns many =
    (question : Question) × Puts gives p turns question × All IsHeldTurn turns × (length turns ≡ most_turns) × (many ≡ most_turns)

-- the desk had no number left for the request
abbrev pub IsUsedUp : (ℕ → Type 0) → Posting → List Turn → ℕ → Type 0
IsUsedUp gives p turns entries =
    (question : Question) × Puts gives p turns question × EndsIn (outcome.Spent entries) turns

-- want of memory before the first ask, after some that were held, or at the desk
abbrev pub IsWanting : (ℕ → Type 0) → Posting → List Turn → Type 0
IsWanting gives p turns =
    AsksNothing p turns ⊎ ((question : Question) × Puts gives p turns question
    × ((All IsHeldTurn turns × (length turns < most_turns)) ⊎ EndsIn outcome.NoMemory turns))

-- what comes of a post
abbrev pub IsFindingOf : (ℕ → Type 0) → Posting → List Turn → Finding → Type 0
IsFindingOf gives p turns (finding.Replied the_reply) = IsRefusedByCode p turns the_reply ⊎ IsReplied gives p turns the_reply
IsFindingOf gives p turns (finding.Told the_reply poll) = IsPollTold gives p turns the_reply poll
IsFindingOf gives p turns finding.Unreadable = Means p.body (Err Unreadable) × AsksNothing p turns
IsFindingOf gives p turns (finding.HeldOut many) = IsHeldOut gives p turns many
IsFindingOf gives p turns (finding.Spent entries) = IsUsedUp gives p turns entries
IsFindingOf gives p turns finding.NoMemory = IsWanting gives p turns

-- a client, a request of its own in a body of that length, and the stream of words before and after it is asked
pub record OwnRequest : Type 0 where
  pub client : List ℕ
  pub bytes : ℕ
  pub request : Request
  pub words : ChaCha
  pub after : ChaCha

-- such a request, of these parts
abbrev pub own_request : List ℕ → ℕ → Request → ChaCha → ChaCha → OwnRequest
own_request client bytes request words after =
    record { client = client; bytes = bytes; request = request; words = words; after = after }

-- a body that means the request, as it is posted
abbrev pub posting_of : OwnRequest → List ℕ → Posting
posting_of a body = record { client = a.client; body = body; words = a.words; after = a.after }

-- what comes of a request by turns at a desk, whatever body means it
pub record FindsRequest {H : Type 0} (gives : ℕ → Type 0) (before after : DeskSeen H) (a : OwnRequest) (found : Finding) : Type 0 where
  pub turns : List Turn
  pub tells : DeskTakesTurns before after turns
  pub finds : (body : List ℕ) → a.bytes ≡ length body → Means body (Ok a.request) → IsFindingOf gives (posting_of a body) turns found

-- what comes of a post by turns at a desk
pub record FindsPost {H : Type 0} (gives : ℕ → Type 0) (before after : DeskSeen H) (p : Posting) (found : Finding) : Type 0 where
  pub turns : List Turn
  pub tells : DeskTakesTurns before after turns
  pub finds : IsFindingOf gives p turns found

-- what comes of a question by turns at a desk, whatever post asks it
pub record FindsQuestion {H : Type 0} (gives : ℕ → Type 0) (before after : DeskSeen H) (question : Question)
    (found : Finding) : Type 0 where
  pub turns : List Turn
  pub tells : DeskTakesTurns before after turns
  pub finds : (p : Posting) → IsPosed p question → IsFindingOf gives p turns found

-- what comes of a poll with this reply
abbrev pub finding_of : Reply → Poll → Finding
finding_of (reply.Polled items) poll = finding.Told (reply.Polled items) poll
finding_of other poll = finding.Replied other
