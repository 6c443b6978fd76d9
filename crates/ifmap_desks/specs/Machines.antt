-- The core as a machine of a hall.
use Rattle.std.specs.Prelude.{ℕ, Bool}
use Rattle.ifmap_desks.specs.Holding.{would_hold}
use Rattle.ifmap_desks.specs.declared.events.FitEvent.{FitEvent}
use Rattle.ifmap_desks.specs.declared.machine.CoreMachine.{CoreMachine}
use Rattle.ifmap_dialogue.specs.Desks.{weight}
use Rattle.ifmap_hall.specs.Books.{IsBook}
use Rattle.ifmap_hall.specs.declared.book.Book.{Book}
use Rattle.ifmap_hall.specs.declared.view.HallView.{HallView}
use Rattle.ifmap_dialogue.specs.ifmap_machine.declared.events.Answer.{Answer}
use Rattle.ifmap_dialogue.specs.ifmap_machine.Step.{step}

-- the machine after an event
abbrev pub core_next : CoreMachine → FitEvent → CoreMachine
core_next machine event = record { core = (step machine.core event.event).0 }

-- its answer
abbrev pub core_reply : CoreMachine → FitEvent → Answer
core_reply machine event = (step machine.core event.event).1

-- whether it would only wait on the event
abbrev pub core_holds : CoreMachine → FitEvent → Bool
core_holds machine event = would_hold machine.core event.event

-- what an event weighs
abbrev pub core_weight : FitEvent → ℕ
core_weight event = weight event.event

-- a book of it
abbrev pub CoreBook : Type 0
CoreBook = Book CoreMachine FitEvent Answer

-- such a book is in order
abbrev pub IsCoreBook : CoreBook → Type 0
IsCoreBook b = IsBook core_next core_weight b

-- what a pass of a hall over it is seen as
abbrev pub CoreView : Type 0
CoreView = HallView CoreMachine FitEvent Answer
