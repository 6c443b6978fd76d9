-- What a pass said stays what the machine answered, and a spent hall stays spent.
use Rattle.std.proofs.Common.{◌≡◌, sym, ap, subst, ◌∙◌, ℕ, ◌+◌, ◌-◌, ◌^◌, ◌<◌, List, [], ◌∷◌, ◌++◌, length, append_assoc, length-append, arith}
use Rattle.ifmap_desks.specs.Answers.{CountsAnswer, plain_answer}
use Rattle.ifmap_desks.specs.Calls.{Log}
use Rattle.ifmap_desks.specs.Machines.{CoreView, core_holds, core_next, core_reply}
use Rattle.ifmap_desks.specs.Recalls.{AreCalls, IsCallOfEntry, Recalls}
use Rattle.ifmap_desks.specs.declared.answers.AnswerCounts.{AnswerCounts}
use Rattle.ifmap_desks.specs.declared.events.FitEvent.{FitEvent}
use Rattle.ifmap_desks.specs.declared.machine.CoreMachine.{CoreMachine}
use Rattle.ifmap_hall.specs.HallAsks.{AnsweredFromHistory, EntersEvent, SaidNothing, TookATurn}
use Rattle.ifmap_hall.specs.declared.book.Asked.{Asked}
use Rattle.ifmap_hall.specs.declared.book.Asked.TheVariants.{Done, Held, Spent, NoMemory}
use Rattle.ifmap_dialogue.specs.ifmap_machine.declared.events.Answer.{Answer}

module _ (opening : CoreMachine) (log : Log) where
  -- a call stays where the log grows at its end
  call_later : (more : Log) (place : ℕ) (call : FitEvent × Answer) → IsCallOfEntry opening log place call
      → IsCallOfEntry opening (log ++ more) place call
  call_later more place call c = record {
    before = c.before;
    number = c.number;
    rest = c.rest ++ more;
    entry = ap (λ (l : Log). l ++ more) c.entry ∙ append_assoc c.before ((c.number, call.0) ∷ c.rest) more;
    place_is = c.place_is;
    reply_is = c.reply_is;
  }

  calls_later : (more : Log) (mine : List ℕ) (said : List (FitEvent × Answer)) → AreCalls opening log mine said
      → AreCalls opening (log ++ more) mine said
  calls_later more [] [] a = tt
  calls_later more [] (call ∷ said) a = absurd a
  calls_later more (place ∷ mine) [] a = absurd a
  calls_later more (place ∷ mine) (call ∷ said) (first, others) =
      (call_later more place call first, calls_later more mine said others)

  -- one more call, at one more place
  one_more_call : (place : ℕ) (call : FitEvent × Answer) → IsCallOfEntry opening log place call
      → (mine : List ℕ) (said : List (FitEvent × Answer)) → AreCalls opening log mine said
      → AreCalls opening log (mine ++ place ∷ []) (said ++ call ∷ [])
  one_more_call place call c [] [] a = (c, tt)
  one_more_call place call c [] (other ∷ said) a = absurd a
  one_more_call place call c (at ∷ mine) [] a = absurd a
  one_more_call place call c (at ∷ mine) (other ∷ said) (first, others) = (first, one_more_call place call c mine said others)

-- nothing was said
pub silent_recalls : (v : CoreView) → v.mine ≡ [] → v.said ≡ [] → ∥ Recalls v ∥₁
silent_recalls v m s =
    ∣ subst (λ (l : List ℕ). AreCalls v.terms.opening.value v.history.log l v.said) (sym m)
    (subst (λ (l : List (FitEvent × Answer)). AreCalls v.terms.opening.value v.history.log [] l) (sym s) tt) ∣₁

module _ (v w : CoreView) (took : TookATurn v w) where
  -- what was said before is the same in what is seen now
  said_before : Recalls v → AreCalls v.terms.opening.value w.history.log v.mine v.said
  said_before r =
      subst (λ (l : Log). AreCalls v.terms.opening.value l v.mine v.said) (sym took.history.whole)
      (calls_later v.terms.opening.value v.history.log took.history.rest v.mine v.said r)

  -- it is what the pass said where it has these places and these calls
  recalls_by : (mine : List ℕ) (said : List (FitEvent × Answer)) → w.mine ≡ mine → w.said ≡ said
      → AreCalls v.terms.opening.value w.history.log mine said → Recalls w
  recalls_by mine said m s a =
      subst (λ (o : CoreMachine). AreCalls o w.history.log w.mine w.said) (sym (ap (λ t. t.opening.value) took.terms))
      (subst (λ (l : List ℕ). AreCalls v.terms.opening.value w.history.log l w.said) (sym m)
      (subst (λ (l : List (FitEvent × Answer)). AreCalls v.terms.opening.value w.history.log mine l) (sym s) a))

  recalls_silent : SaidNothing v w → Recalls v → Recalls w
  recalls_silent s r = recalls_by v.mine v.said s.mine s.said (said_before r)

  module _ (number : ℕ) (event : FitEvent) where
    call_said : (place : ℕ) (reply : Answer) → EntersEvent core_next core_holds core_reply v w number event place reply
        → IsCallOfEntry v.terms.opening.value w.history.log place (event, reply)
    call_said place reply s = record {
      before = s.before;
      number = number;
      rest = [];
      entry = s.entry;
      place_is = s.place_is;
      reply_is = s.reply_is;
    }

    pub recalls : (given : Asked FitEvent Answer) → AnsweredFromHistory core_next core_holds core_reply v w number event given
        → Recalls v → Recalls w
    recalls (Done place reply) a r =
        recalls_by (v.mine ++ place ∷ []) (v.said ++ (event, reply) ∷ []) a.mine a.said
        (one_more_call v.terms.opening.value w.history.log place (event, reply) (call_said place reply a) v.mine v.said (said_before r))
    recalls (Held place back) a r = recalls_silent a.4 r
    recalls (Spent entries back) a r = recalls_silent a.3 r
    recalls (NoMemory back) a r = recalls_silent a.3 r

    grown : length w.history.log ≡ length v.history.log + length took.history.rest
    grown = ap length took.history.whole ∙ length-append v.history.log took.history.rest

    -- where an answer was `Spent`, the history has 2^64 - 1 entries
    pub used_up : (given : Asked FitEvent Answer) (old new : AnswerCounts)
        → AnsweredFromHistory core_next core_holds core_reply v w number event given
        → CountsAnswer (plain_answer given) old new → (0 < old.spent → length v.history.log ≡ 2 ^ 64 - 1)
        → 0 < new.spent → length w.history.log ≡ 2 ^ 64 - 1
    used_up (Done place reply) old new a counted before some =
        let e : new.spent ≡ old.spent = ap (λ (x : AnswerCounts). x.spent) counted in
        let full = before (omega (arith, e, some)) in
        absurd (omega (arith, full, a.later, a.numbered))
    used_up (Held place back) old new a counted before some =
        let e : new.spent ≡ old.spent = ap (λ (x : AnswerCounts). x.spent) counted in
        let full = before (omega (arith, e, some)) in
        absurd (omega (arith, full, grown, a.1, a.2))
    used_up (Spent entries back) old new a counted before some = a.1 ∙ a.2
    used_up (NoMemory back) old new a counted before some =
        let e : new.spent ≡ old.spent = ap (λ (x : AnswerCounts). x.spent) counted in
        let full = before (omega (arith, e, some)) in
        absurd (omega (arith, full, grown, a.1))
