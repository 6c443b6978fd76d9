-- Rounds of a dialogue: a post is read and answered, or the connection ends.
use Rattle.std.specs.Prelude.{◌≡◌, ℕ, ◌==◌, ◌||◌, Bool, List, [], ◌++◌, Option, Some, IfSome}
use Rattle.rand_chacha.specs.ChaCha.{ChaCha}
use Rattle.ifmap_http.specs.declared.wires.Got.{Got}
use Rattle.ifmap_http.specs.declared.wires.Got.TheVariants as got
use Rattle.ifmap_http.specs.Outcomes.{GetsPost}
use Rattle.ifmap_dialogue.specs.declared.endings.Ending.{Ending}
use Rattle.ifmap_dialogue.specs.declared.endings.Ending.TheVariants as ending
use Rattle.ifmap_dialogue.specs.declared.findings.Finding.{Finding}
use Rattle.ifmap_dialogue.specs.Answers.{Answers, Delivers}
use Rattle.ifmap_dialogue.specs.Desks.{Turn}
use Rattle.ifmap_dialogue.specs.Findings.{IsFindingOf}
use Rattle.ifmap_dialogue.specs.Wires.{IsNoMemoryOutput, bare_answer}

-- the most posts of a connection
abbrev pub most_posts : ℕ
most_posts = 1_000_000

-- the post of this number is the last one: it asks for that, or no more are taken
abbrev pub is_last_post : ℕ → Bool → Bool
is_last_post number close = close || (number == most_posts)

-- where a dialogue stands: what the wire has left, where that is told, and the stream of words
pub record WireAndWords : Type 0 where
  pub left : Option (List ℕ)
  pub words : ChaCha

-- one round: where the dialogue stands before and after it, its turns at the desk, the bytes that the link gained, and the ending,
-- where it is the last
pub record Round : Type 0 where
  pub before : WireAndWords
  pub after : WireAndWords
  pub turns : List Turn
  pub output : List ℕ
  pub next : Option Ending

-- nothing is asked
abbrev pub RoundAsksNothing : Round → Type 0
RoundAsksNothing r = (r.turns ≡ []) × (r.after.words ≡ r.before.words)

-- nothing is asked or answered, and the dialogue ends so
abbrev pub EndsAtOnce : Round → Ending → Type 0
EndsAtOnce r end = RoundAsksNothing r × (r.output ≡ []) × (r.next ≡ Some end)

-- the body that a client posted is answered, and that is to close the connection or not
pub record AnswersPost (gives : ℕ → Type 0) (client body : List ℕ) (close : Bool) (r : Round) : Type 0 where
  pub finding : Finding
  pub asked : List Turn
  pub lost : List Turn
  pub found : IsFindingOf gives
      (record { client = client; body = body; words = r.before.words; after = r.after.words }) asked finding
  pub answered : Answers gives finding (record { close = close; turns = lost; output = r.output; next = r.next })
  pub turns : r.turns ≡ asked ++ lost

-- what comes of what was got from the wire
abbrev pub AnswersGot : (ℕ → Type 0) → ℕ → Round → Got → Type 0
AnswersGot gives number r (got.Posted post) = AnswersPost gives post.client post.body (is_last_post number post.close) r
AnswersGot gives number r got.Ended = EndsAtOnce r ending.Ended
AnswersGot gives number r got.Truncated = EndsAtOnce r ending.Truncated
AnswersGot gives number r (got.Status status) =
    RoundAsksNothing r × Delivers (bare_answer status) (Some (ending.Refused status)) r.output r.next
AnswersGot gives number r got.ReadFault = EndsAtOnce r ending.ReadFault
AnswersGot gives number r got.NoMemory = RoundAsksNothing r × IsNoMemoryOutput r.output × (r.next ≡ Some ending.NoMemory)

-- this is the round of this number: what the wire had left begins with what was got
abbrev pub IsRound : (ℕ → Type 0) → ℕ → Round → Type 0
IsRound gives number r =
    (the_got : Got) × IfSome r.before.left (λ left. GetsPost left r.after.left the_got) × AnswersGot gives number r the_got
