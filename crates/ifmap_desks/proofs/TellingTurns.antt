-- What one turn leaves at a desk.
use Rattle.std.proofs.Common.{◌≡◌, sym, ap, subst, ◌∙◌, ℕ, List, [], ◌∷◌, All, Option, append-nil, arith}
use Rattle.std.proofs.lemmas.List.Concat.{flat_map-cons}
use Rattle.std.proofs.lemmas.List.Elements.{All-nil, All-push}
use Rattle.std.specs.Prelude.{count_by}
use Rattle.ifmap_desks.specs.Answers.{CountsAnswer, plain_answer}
use Rattle.ifmap_desks.specs.declared.answers.AnswerCounts.{AnswerCounts}
use Rattle.ifmap_desks.specs.declared.events.FitEvent.{FitEvent}
use Rattle.ifmap_dialogue.specs.Desks.{Call, CountsOn, FitsAsked, Gains, CountRises, DeskTakesTurns, Turn, call_of, calls, is_held_back, is_spent}
use Rattle.ifmap_hall.specs.declared.book.Asked.{Asked}
use Rattle.ifmap_hall.specs.declared.book.Asked.TheVariants as asked
use Rattle.ifmap_dialogue.specs.ifmap_machine.declared.events.Answer.{Answer}
use Rattle.ifmap_dialogue.specs.ifmap_machine.Events.{Event}
use Rattle.ifmap_dialogue.specs.ifmap_io.Causes.{count_after_one}

-- a count that stays, and one that goes on by one
stays : (before after : ℕ) → after ≡ before → CountRises 0 before after
stays before after e = record { least = omega (arith, e); most = omega (arith, e) }

goes_on : (before after : ℕ) → after ≡ count_after_one before → CountRises 1 before after
goes_on before after e = record { least = omega (arith, e); most = omega (arith, e) }

-- a turn makes the call of its answer, and no other
calls_one : (t : Turn) → calls (t ∷ []) ≡ call_of t.event t.asked
calls_one t = flat_map-cons (λ (x : Turn). call_of x.event x.asked) t [] ∙ append-nil (call_of t.event t.asked)

one_turn : (t : Turn) → FitsAsked t.event t.asked → All (λ (x : Turn). FitsAsked x.event x.asked) (t ∷ [])
one_turn t f = All-push (λ (x : Turn). FitsAsked x.event x.asked) [] t (All-nil (λ (x : Turn). FitsAsked x.event x.asked)) f

abbrev held_in : AnswerCounts → ℕ
held_in counts = counts.held

abbrev spent_in : AnswerCounts → ℕ
spent_in counts = counts.spent

-- each of the two counts goes on where the answer is its own, and stays where it is not
counts_rise : (old new : AnswerCounts) (event : Event) (answer : Asked Event Answer) → CountsAnswer answer old new
    → CountRises (count_by is_held_back (record { event = event; asked = answer } ∷ [])) old.held new.held
    × CountRises (count_by is_spent (record { event = event; asked = answer } ∷ [])) old.spent new.spent
counts_rise old new event (asked.Done place reply) counted =
    (stays old.held new.held (ap held_in counted), stays old.spent new.spent (ap spent_in counted))
counts_rise old new event (asked.Held place back) counted =
    (goes_on old.held new.held (ap held_in counted), stays old.spent new.spent (ap spent_in counted))
counts_rise old new event (asked.Spent entries back) counted =
    (stays old.held new.held (ap held_in counted), goes_on old.spent new.spent (ap spent_in counted))
counts_rise old new event (asked.NoMemory back) counted =
    (stays old.held new.held (ap held_in counted), stays old.spent new.spent (ap spent_in counted))

module _ {H : Type 0} (said later : Option (List Call)) (turns taken : Option ℕ) (old new : AnswerCounts) (home same : H) (loan kept : ℕ)
  where
    pub tells : (event : Event) (answer : Asked Event Answer) → Gains said later (call_of event answer) → CountsOn turns taken 1
        → CountsAnswer answer old new → same ≡ home → kept ≡ loan → FitsAsked event answer
        → DeskTakesTurns {H = H} (record { said = said; turns = turns; held = old.held; spent = old.spent; home = home; loan = loan })
        (record { said = later; turns = taken; held = new.held; spent = new.spent; home = same; loan = kept })
        (record { event = event; asked = answer } ∷ [])
    tells event answer gains on counted h l fits =
        let turn : Turn = record { event = event; asked = answer } in
        let (held, spent) = counts_rise old new event answer counted in
        record {
          said = subst (Gains said later) (sym (calls_one turn)) gains;
          count = on;
          held = held;
          spent = spent;
          home = h;
          loan = l;
          fit = one_turn turn fits;
        }

    -- the same, where the event was handed on with the proof that it is fit
    pub tells_plain : (event : Event) (fit : FitEvent) → fit.event ≡ event → (given : Asked FitEvent Answer) (answer : Asked Event Answer)
        → answer ≡ plain_answer given → Gains said later (call_of fit.event (plain_answer given)) → CountsOn turns taken 1
        → CountsAnswer answer old new
        → same ≡ home → kept ≡ loan → FitsAsked fit.event (plain_answer given)
        → DeskTakesTurns {H = H} (record { said = said; turns = turns; held = old.held; spent = old.spent; home = home; loan = loan })
        (record { said = later; turns = taken; held = new.held; spent = new.spent; home = same; loan = kept })
        (record { event = event; asked = answer } ∷ [])
    tells_plain event fit is given answer plainly gains on counted h l fits =
        tells event answer
        (subst (λ (e : Event). Gains said later (call_of e answer)) is
        (subst (λ (a : Asked Event Answer). Gains said later (call_of fit.event a)) (sym plainly) gains)) on counted h l
        (subst (λ (e : Event). FitsAsked e answer) is (subst (λ (a : Asked Event Answer). FitsAsked fit.event a) (sym plainly) fits))
