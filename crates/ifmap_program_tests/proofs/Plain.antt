-- What one answer leaves at a plain desk.
use Rattle.std.proofs.Common.{◌≡◌, ℕ, [], ◌∷◌, arith}
use Rattle.std.proofs.lemmas.List.Elements.{All-nil, All-push}
use Rattle.ifmap_hall.specs.declared.book.Asked.TheVariants as asked
use Rattle.ifmap_dialogue.specs.ifmap_machine.declared.events.Answer.{Answer}
use Rattle.ifmap_dialogue.specs.ifmap_machine.Events.{Event}
use Rattle.ifmap_dialogue.specs.Desks.{CountsOn, DeskSeen, FitsAsked, FitsAnswer, Gains, DeskTakesTurns, Turn}

-- a call that was done leaves the counts of other answers
pub tells_done : {H : Type 0} (before after : DeskSeen H) (event : Event) (place : ℕ) (the_answer : Answer)
    → Gains before.said after.said ((event, the_answer) ∷ []) → CountsOn before.turns after.turns 1
    → after.held ≡ before.held → after.spent ≡ before.spent
    → after.home ≡ before.home → after.loan ≡ before.loan → FitsAnswer event the_answer
    → DeskTakesTurns before after (record { event = event; asked = asked.Done place the_answer } ∷ [])
tells_done before after event place the_answer said count held spent home loan fits = record {
  said = said;
  count = count;
  held = record { least = omega (arith, held); most = omega (arith, held) };
  spent = record { least = omega (arith, spent); most = omega (arith, spent) };
  home = home;
  loan = loan;
  fit = All-push (λ (t : Turn). FitsAsked t.event t.asked) [] (record { event = event; asked = asked.Done place the_answer })
      (All-nil (λ (t : Turn). FitsAsked t.event t.asked)) fits;
}
