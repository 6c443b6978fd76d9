-- Answers as a desk hands them on.
use Rattle.std.specs.Prelude.{◌≡◌}
use Rattle.ifmap_desks.specs.declared.answers.AnswerCounts.{AnswerCounts}
use Rattle.ifmap_desks.specs.declared.events.FitEvent.{FitEvent}
use Rattle.ifmap_hall.specs.declared.book.Asked.{Asked}
use Rattle.ifmap_hall.specs.declared.book.Asked.TheVariants.{Done, Held, Spent, NoMemory}
use Rattle.ifmap_dialogue.specs.ifmap_machine.declared.events.Answer.{Answer}
use Rattle.ifmap_dialogue.specs.ifmap_machine.Events.{Event}
use Rattle.ifmap_dialogue.specs.ifmap_io.Causes.{count_after_one}

-- the answer with the event as it was asked
abbrev pub plain_answer : Asked FitEvent Answer → Asked Event Answer
plain_answer (Done place answer) = Done place answer
plain_answer (Held place event) = Held place event.event
plain_answer (Spent entries event) = Spent entries event.event
plain_answer (NoMemory event) = NoMemory event.event

-- the counts with this answer
abbrev pub CountsAnswer : Asked Event Answer → AnswerCounts → AnswerCounts → Type 0
CountsAnswer (Done place answer) old new = new ≡ old
CountsAnswer (Held place event) old new = new ≡ record old { held = count_after_one old.held }
CountsAnswer (Spent entries event) old new = new ≡ record old { spent = count_after_one old.spent }
CountsAnswer (NoMemory event) old new = new ≡ old
