-- How a post is answered, and whether the connection goes on.
use Rattle.std.specs.Prelude.{◌≡◌, ℕ, Bool, true, false, List, [], ◌∷◌, Option, None, Some}
use Rattle.ifmap_http.specs.ifmap_heads.Messages.{answer_bytes}
use Rattle.ifmap_http.specs.declared.wires.Sent.{Sent}
use Rattle.ifmap_http.specs.declared.wires.Sent.TheVariants as sent
use Rattle.ifmap_machine.specs.ifmap_replies.declared.replies.Reply.{Reply}
use Rattle.ifmap_machine.specs.ifmap_replies.Results.{reply_bytes}
use Rattle.ifmap_dialogue.specs.declared.desks.AskOutcome.{AskOutcome}
use Rattle.ifmap_dialogue.specs.declared.desks.AskOutcome.TheVariants as outcome
use Rattle.ifmap_dialogue.specs.declared.endings.Ending.{Ending}
use Rattle.ifmap_dialogue.specs.declared.endings.Ending.TheVariants as ending
use Rattle.ifmap_dialogue.specs.declared.findings.Finding.{Finding}
use Rattle.ifmap_dialogue.specs.declared.findings.Finding.TheVariants as finding
use Rattle.ifmap_dialogue.specs.declared.polls.Poll.{Poll}
use Rattle.ifmap_dialogue.specs.declared.sending.Then.{Then}
use Rattle.ifmap_dialogue.specs.declared.sending.Then.TheVariants as then
use Rattle.ifmap_dialogue.specs.Desks.{Turn, outcome_of}
use Rattle.ifmap_dialogue.specs.Turns.{AsksLost}
use Rattle.ifmap_dialogue.specs.Wires.{IsNoMemoryOutput, WritesAnswer, bare_answer}

-- the connection is closed after an answer
abbrev pub closes : Then → Bool
closes then.GoOn = false
closes then.Close = true

-- how the connection ends after an answer with status 200, if it does
abbrev pub end_after : Bool → Option Ending
end_after false = None
end_after true = Some ending.Closed

-- how it ends after an answer: as is due where all of it was written
abbrev pub next_after : Sent → Option Ending → Option Ending
next_after sent.Done due = due
next_after sent.WriteFault due = Some ending.WriteFault
next_after sent.NoMemory due = Some ending.NoMemory

-- this is answered, and what is due comes where all of it was written
abbrev pub Delivers : List ℕ → Option Ending → List ℕ → Option Ending → Type 0
Delivers answer due output next = (sent : Sent) × WritesAnswer answer sent output × (next ≡ next_after sent due)

-- the answer with a reply
abbrev pub reply_answer : Reply → Bool → List ℕ
reply_answer reply close = answer_bytes 200 (reply_bytes reply) close

-- the ending where the desk was told that an answer was lost
abbrev pub ending_heard : Ending → AskOutcome → Ending
ending_heard due (outcome.Replied reply) = due
ending_heard due outcome.Heard = due
ending_heard due outcome.Held = due
ending_heard due (outcome.Spent entries) = ending.Unheard entries
ending_heard due outcome.NoMemory = ending.NoMemory

-- the desk is told that the answer to a poll was lost
abbrev pub IsLostWith : (ℕ → Type 0) → Poll → Ending → List Turn → Option Ending → Type 0
IsLostWith gives poll due turns next =
    (turn : Turn) × (turns ≡ turn ∷ []) × AsksLost gives poll turn × (next ≡ Some (ending_heard due (outcome_of turn.asked)))

-- it is told so exactly where the answer was not written whole
abbrev pub LosesUnlessDone : (ℕ → Type 0) → Poll → Bool → Sent → List Turn → Option Ending → Type 0
LosesUnlessDone gives poll close sent.Done turns next = (turns ≡ []) × (next ≡ end_after close)
LosesUnlessDone gives poll close sent.WriteFault turns next = IsLostWith gives poll ending.WriteFault turns next
LosesUnlessDone gives poll close sent.NoMemory turns next = IsLostWith gives poll ending.NoMemory turns next

-- an answer to a post: whether it is to close the connection, the turns by which the desk is told that it was lost, the bytes gained,
-- and the ending, where it is the last
pub record PostAnswer : Type 0 where
  pub close : Bool
  pub turns : List Turn
  pub output : List ℕ
  pub next : Option Ending

-- how each finding is answered
abbrev pub Answers : (ℕ → Type 0) → Finding → PostAnswer → Type 0
Answers gives (finding.Replied reply) a = (a.turns ≡ []) × Delivers (reply_answer reply a.close) (end_after a.close) a.output a.next
Answers gives (finding.Told reply poll) a =
    (sent : Sent) × WritesAnswer (reply_answer reply a.close) sent a.output × LosesUnlessDone gives poll a.close sent a.turns a.next
Answers gives finding.Unreadable a = (a.turns ≡ []) × Delivers (bare_answer 400) (Some (ending.Refused 400)) a.output a.next
Answers gives (finding.HeldOut many) a = (a.turns ≡ []) × (a.output ≡ []) × (a.next ≡ Some (ending.HeldOut many))
Answers gives (finding.Spent entries) a = (a.turns ≡ []) × Delivers (bare_answer 507) (Some (ending.Spent entries)) a.output a.next
Answers gives finding.NoMemory a = (a.turns ≡ []) × IsNoMemoryOutput a.output × (a.next ≡ Some ending.NoMemory)
