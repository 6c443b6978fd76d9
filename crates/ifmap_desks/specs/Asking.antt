-- What an answer at a desk says of its book, or of the history of its hall.
use Rattle.std.specs.Prelude.{◌≡◌, ℕ, ◌-◌, ◌^◌, ◌<◌, true, false, map, None, Some}
use Rattle.ifmap_desks.specs.Answers.{plain_answer}
use Rattle.ifmap_desks.specs.Calls.{plain_call, calls_if_known}
use Rattle.ifmap_desks.specs.Machines.{CoreBook, CoreView, core_holds, core_next, core_reply, core_weight}
use Rattle.ifmap_desks.specs.declared.book_desk.BookDesk.{BookDesk}
use Rattle.ifmap_desks.specs.declared.events.FitEvent.{FitEvent}
use Rattle.ifmap_desks.specs.declared.machine.CoreMachine.{CoreMachine}
use Rattle.ifmap_desks.specs.declared.pass_desk.PassDesk.{PassDesk}
use Rattle.ifmap_dialogue.specs.Desks.{DeskSeen}
use Rattle.ifmap_hall.specs.Answers.{IfDone, IfHeld, IfSpent, IfNoMemory}
use Rattle.ifmap_hall.specs.HallAsks.{AnsweredFromHistory, AnsweredFromBase}
use Rattle.ifmap_hall.specs.Books.{end_of_book, sight_of}
use Rattle.ifmap_hall.specs.Passes.{pass_number, pass_parts, view_of}
use Rattle.ifmap_hall.specs.Sights.{CarriesOn}
use Rattle.ifmap_hall.specs.Turns.{Enters, HadToGo, SameLimits, Settles}
use Rattle.ifmap_hall.specs.Views.{sight_by}
use Rattle.ifmap_hall.specs.declared.book.Asked.{Asked}
use Rattle.ifmap_hall.specs.declared.hall.Hall.{Hall}
use Rattle.ifmap_dialogue.specs.ifmap_machine.declared.events.Answer.{Answer}
use Rattle.ifmap_dialogue.specs.ifmap_machine.Events.{Event}

-- a turn of a book of the core: what each answer says of the book before it and after it
pub record IsTurn (old new : CoreBook) (pass : ℕ) (event : FitEvent) (given : Asked FitEvent Answer) : Type 0 where
  pub carries : CarriesOn core_next (sight_of old) (sight_of new)
  pub limits : SameLimits old new
  pub few : HadToGo core_weight old new (core_weight event)
  pub done : IfDone given (λ place reply.
      (place < 2 ^ 64 - 1) × (core_holds old.machine event ≡ false) × Enters core_reply old new pass event place reply)
  pub held : IfHeld given (λ place back.
      (place ≡ end_of_book old) × (place < 2 ^ 64 - 1) × (core_holds old.machine event ≡ true) × (back ≡ event) × (new ≡ old))
  pub spent : IfSpent given (λ entries back. (entries ≡ end_of_book old) × (entries ≡ 2 ^ 64 - 1) × (back ≡ event) × (new ≡ old))
  pub no_memory : IfNoMemory given (λ back.
      (back ≡ event) × (end_of_book old < 2 ^ 64 - 1) × (core_holds old.machine event ≡ false) × Settles core_next core_weight old new)

-- a desk handed such an answer on
pub record AnsweredByBook (old new : CoreBook) (pass : ℕ) (event : Event) (answer : Asked Event Answer) : Type 0 where
  pub asked : FitEvent
  pub is_event : asked.event ≡ event
  pub given : Asked FitEvent Answer
  pub is_plain : answer ≡ plain_answer given
  pub turn : IsTurn old new pass asked given

-- a desk handed on what the hall answered: what it says of the whole history that the pass has seen, and of the base and what follows it
pub record AnsweredByHall (v w : CoreView) (number : ℕ) (event : Event) (answer : Asked Event Answer) : Type 0 where
  pub asked : FitEvent
  pub is_event : asked.event ≡ event
  pub given : Asked FitEvent Answer
  pub is_plain : answer ≡ plain_answer given
  pub answered : AnsweredFromHistory core_next core_holds core_reply v w number asked given
  pub from_base : AnsweredFromBase core_next core_holds core_reply (sight_by core_next w) number asked given

-- the book of a desk over one, and the number of the pass that it asks under
abbrev pub book_at : BookDesk → CoreBook
book_at desk = desk.book

abbrev pub pass_at : BookDesk → ℕ
pass_at desk = desk.pass

-- what contracts see of a desk over a book, which counts no turns: `AnsweredByBook` says what each of them left
abbrev pub book_seen : BookDesk → DeskSeen (Unit {0})
book_seen desk = record {
  said = calls_if_known desk.since desk.book;
  turns = None;
  held = desk.counts.held;
  spent = desk.counts.spent;
  home = tt;
  loan = 0;
}

-- the pass of a desk over one: what it is seen as, its number and its parts
abbrev pub view_at : {R : Type 0} → PassDesk R → CoreView
view_at desk = view_of desk.pass.now

abbrev pub number_at : {R : Type 0} → PassDesk R → ℕ
number_at desk = pass_number desk.pass.now

abbrev pub parts_at : {R : Type 0} → PassDesk R → ℕ
parts_at desk = pass_parts desk.pass.now

-- what contracts see of a desk over a pass
abbrev pub pass_seen : {R : Type 0} → PassDesk R → DeskSeen (Hall CoreMachine FitEvent Answer)
pass_seen desk = record {
  said = Some (map plain_call (view_at desk).said);
  turns = Some (view_at desk).turns;
  held = desk.counts.held;
  spent = desk.counts.spent;
  home = desk.hall.now;
  loan = desk.pass.ghost_name;
}
