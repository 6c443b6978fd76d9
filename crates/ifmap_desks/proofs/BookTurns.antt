-- What a turn of a book leaves at its desk.
use Rattle.std.proofs.Common.{◌≡◌, ◌↔◌, refl, sym, ap, subst, ℕ, ◌≤◌, nat_le, true, ◌++◌, inl, inr, arith}
use Rattle.std.proofs.lemmas.Bool.{cases_Bool}
use Rattle.std.proofs.lemmas.Bool.Decides.{nat_tests}
use Rattle.ifmap_core.specs.EmptyPolls.{WouldHold}
use Rattle.ifmap_desks.specs.Answers.{plain_answer}
use Rattle.ifmap_desks.specs.Asking.{IsTurn}
use Rattle.ifmap_desks.specs.Calls.{calls_since, calls_if_known}
use Rattle.ifmap_desks.specs.Holding.{would_hold}
use Rattle.ifmap_desks.specs.Machines.{CoreBook}
use Rattle.ifmap_desks.specs.declared.events.FitEvent.{FitEvent}
use Rattle.ifmap_dialogue.specs.Desks.{FitsAsked, FitsAnswer, Gains, IsPoll, call_of}
use Rattle.ifmap_hall.specs.declared.book.Asked.{Asked}
use Rattle.ifmap_hall.specs.declared.book.Asked.TheVariants.{Done, Held, Spent, NoMemory}
use Rattle.ifmap_dialogue.specs.ifmap_machine.declared.events.Answer.{Answer}
use Rattle.ifmap_dialogue.specs.ifmap_machine.Events.{Event}
use Rattle.ifmap_dialogue.specs.ifmap_machine.State.{State}
use Rattle.ifmap_dialogue.specs.ifmap_machine.Step.{step}

-- where what is said now can be told, what was said could, and this was added
pub gains : (since : ℕ) (b b' : CoreBook) (event : Event) (answer : Asked Event Answer) → b.from ≤ b'.from
    → (b'.from ≤ since → calls_since since b' ≡ calls_since since b ++ call_of event answer)
    → Gains (calls_if_known since b) (calls_if_known since b') (call_of event answer)
gains since b b' event answer later adds =
    elim (cases_Bool (nat_le b'.from since)) [
      | inl kept ↦
          let near : b'.from ≤ since = grind (arith, nat_tests) in
          let before : nat_le b.from since ≡ true = grind (arith, nat_tests) in
          rw (kept, before) (calls_since since b, refl, adds near)
      | inr gone ↦ rw gone tt
    ]

-- what would be held is a poll
pub held_polls : (state : State) (event : Event) → (would_hold state event ≡ true ↔ WouldHold state event)
    → would_hold state event ≡ true → IsPoll event
held_polls state event law e = let h = law.0 e in (h.0, h.1)

module _ (holding : (state : State) (event : Event) → would_hold state event ≡ true ↔ WouldHold state event)
    (fitting : (state : State) (event : Event) → FitsAnswer event (step state event).1) where
  -- the answer is one that the event can have
  pub fits : (b b' : CoreBook) (number : ℕ) (event : FitEvent) (given : Asked FitEvent Answer) → IsTurn b b' number event given
      → FitsAsked event.event (plain_answer given)
  fits b b' number event (Done at r) t =
      subst (FitsAnswer event.event) (sym t.done.2.reply_is) (fitting b.machine.core event.event)
  fits b b' number event (Held at back) t = (
    held_polls b.machine.core event.event (holding b.machine.core event.event) t.held.2,
    ap (λ (e : FitEvent). e.event) t.held.3,
  )
  fits b b' number event (Spent entries back) t = ap (λ (e : FitEvent). e.event) t.spent.2
  fits b b' number event (NoMemory back) t = ap (λ (e : FitEvent). e.event) t.no_memory.0
