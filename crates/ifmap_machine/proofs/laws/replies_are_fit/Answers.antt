use Rattle.std.proofs.Common.{ℕ, [], ◌∷◌}
use Rattle.ifmap_machine.specs.declared.events.Answer.{Answer}
use Rattle.ifmap_machine.specs.declared.events.Answer.TheVariants as the_answer
use Rattle.ifmap_machine.specs.FitAnswers.{AreFitAnswers, AreReadBack, IsFitAnswer, IsFitState, IsReadBack}
use Rattle.ifmap_machine.specs.Legal.{History}
use Rattle.ifmap_machine.specs.State.{opening_state}
use Rattle.ifmap_machine.proofs.FitStates.{fit_history, fit_step}
use Rattle.ifmap_machine.proofs.Goods.{graph_none}
use Rattle.ifmap_machine.proofs.laws.replies_are_fit.Goals as goal
use Rattle.ifmap_replies.specs.Laws.{BytesReadBack}

opening_fit : (ttl : ℕ) → IsFitState (opening_state ttl)
opening_fit ttl = record { graph = graph_none; whole = tt; queues = tt; names = tt }

pub returns-clause-opening : goal.returns-clause-opening
returns-clause-opening c = opening_fit

pub returns-clause-step : goal.returns-clause-step
returns-clause-step c = λ state event fit at.
    fit_step (λ who rows g. c.retracting_keeps_graphs.ensures.graph who rows g)
    (λ who rows w. c.retracting_keeps_graphs.ensures.whole who rows w)
    (λ rows by ops f g. c.publishing_keeps_graphs.ensures.graph rows by ops f g)
    (λ rows by ops name f w. c.publishing_keeps_graphs.ensures.whole rows by ops name f w) state event fit.client fit.ask at

pub returns-clause-fit : goal.returns-clause-fit
returns-clause-fit c = λ ttl history legal fit.
    fit_history (λ who rows g. c.retracting_keeps_graphs.ensures.graph who rows g)
    (λ who rows w. c.retracting_keeps_graphs.ensures.whole who rows w)
    (λ rows by ops f g. c.publishing_keeps_graphs.ensures.graph rows by ops f g)
    (λ rows by ops name f w. c.publishing_keeps_graphs.ensures.whole rows by ops name f w) (opening_state ttl) history
    (opening_fit ttl) fit legal

read_one : BytesReadBack → (answer : Answer) → IsFitAnswer answer → IsReadBack answer
read_one back (the_answer.Reply reply) fit = back reply fit
read_one back the_answer.Held fit = tt
read_one back the_answer.Heard fit = tt

read_all : BytesReadBack → (history : History) → AreFitAnswers history → AreReadBack history
read_all back [] fit = tt
read_all back (e ∷ history) fit = (read_one back e.1 fit.0, read_all back history fit.1)

pub returns-clause-read_back : goal.returns-clause-read_back
returns-clause-read_back c = λ ttl history legal fit.
    read_all c.replies_are_read_back.ensures.bytes history (returns-clause-fit c ttl history legal fit)
