-- The calls of a log as a history of the machine.
use Rattle.std.proofs.Common.{◌≡◌, refl, sym, ap, subst, ℕ, [], ◌∷◌, ◌++◌}
use Rattle.std.proofs.Math.Logic.{∥∥₁_elim, ∥∥₁_map, ∥∥₁_prop}
use Rattle.std.specs.Coded.{Coded-set, coded_list, coded_option}
use Rattle.ifmap_desks.specs.Calls.{Log, calls_from}
use Rattle.ifmap_desks.specs.Machines.{core_next}
use Rattle.ifmap_desks.specs.declared.machine.CoreMachine.{CoreMachine}
use Rattle.ifmap_hall.specs.Sights.{run}
use Rattle.ifmap_dialogue.specs.ifmap_machine.Agreeing.{Agrees}
use Rattle.ifmap_dialogue.specs.ifmap_machine.Legal.{AreFit, History, Legal, LegalFrom, state_after, state_from}
use Rattle.ifmap_dialogue.specs.ifmap_machine.Since.{AgreesFrom}
use Rattle.ifmap_dialogue.specs.ifmap_machine.State.{State, opening_state}
use Rattle.ifmap_dialogue.specs.ifmap_machine.Step.{step}
use Rattle.ifmap_core.specs.ifmap_search.contracts.results.Entry as the_entry

pub legal_calls : (state : State) (log : Log) → LegalFrom state (calls_from state log)
legal_calls state [] = tt
legal_calls state (e ∷ log) = (refl, legal_calls (step state e.1.event).0 log)

pub run_by_calls : (machine : CoreMachine) (log : Log)
    → (run core_next machine log).core ≡ state_from machine.core (calls_from machine.core log)
run_by_calls machine [] = refl
run_by_calls machine (e ∷ log) = run_by_calls (core_next machine e.1) log

fit_calls : (state : State) (log : Log) → ∥ AreFit (calls_from state log) ∥₁
fit_calls state [] = ∣ tt ∣₁
fit_calls state (e ∷ log) =
    ∥∥₁_elim e.1.fit ∥∥₁_prop (λ fit. ∥∥₁_map (fit_calls (step state e.1.event).0 log) (λ rest. (fit, rest)))

-- the law of fit histories, of histories that are known to be fit: what it says of sets is one fact
pub agrees_calls : ((ttl : ℕ) (history : History) → Legal ttl history → AreFit history → Agrees ttl history)
    → (ttl : ℕ) (log : Log) → Agrees ttl (calls_from (opening_state ttl) log)
agrees_calls law ttl log before rest event answer id parts polls told s x found stands own =
    ∥∥₁_elim (fit_calls (opening_state ttl) log) (Coded-set (coded_option (coded_list the_entry.the_row.coded)) _ _)
    (λ fit. law ttl (calls_from (opening_state ttl) log) (legal_calls (opening_state ttl) log) fit
    before rest event answer id parts polls told s x
    found stands own)

pub calls_append : (machine : CoreMachine) (xs ys : Log)
    → calls_from machine.core (xs ++ ys) ≡ calls_from machine.core xs ++ calls_from (run core_next machine xs).core ys
calls_append machine [] ys = refl
calls_append machine (x ∷ xs) ys =
    ap (λ cs. (x.1.event, (step machine.core x.1.event).1) ∷ cs) (calls_append (core_next machine x.1) xs ys)

pub run_append : (machine : CoreMachine) (xs ys : Log) → run core_next machine (xs ++ ys) ≡ run core_next (run core_next machine xs) ys
run_append machine [] ys = refl
run_append machine (x ∷ xs) ys = run_append (core_next machine x.1) xs ys

-- the same law from an entry on
pub since_calls : ((ttl : ℕ) (past entries : History) → Legal ttl (past ++ entries) → AreFit (past ++ entries)
    → AgreesFrom (state_after ttl past) entries)
    → (ttl : ℕ) (past log : Log) → AgreesFrom (run core_next (record { core = opening_state ttl }) past).core
    (calls_from (run core_next (record { core = opening_state ttl }) past).core log)
since_calls law ttl past log first later rest e poll id x is told keeps =
    let machine : CoreMachine = record { core = opening_state ttl } in
    let start : State = (run core_next machine past).core in
    let all : calls_from (opening_state ttl) (past ++ log) ≡ calls_from (opening_state ttl) past ++ calls_from start log =
    calls_append machine past log in
    let legal : Legal ttl (calls_from (opening_state ttl) past ++ calls_from start log) =
    subst (Legal ttl) all (legal_calls (opening_state ttl) (past ++ log)) in
    let fit = subst (λ (h : History). ∥ AreFit h ∥₁) all (fit_calls (opening_state ttl) (past ++ log)) in
    let agrees : AreFit (calls_from (opening_state ttl) past ++ calls_from start log) → AgreesFrom start (calls_from start log) =
    λ f. subst (λ (s : State). AgreesFrom s (calls_from start log)) (sym (run_by_calls machine past))
    (law ttl (calls_from (opening_state ttl) past) (calls_from start log) legal f) in
    record {
      updated = λ u. ∥∥₁_elim fit (Coded-set (coded_option (coded_list the_entry.the_row.coded)) _ _)
          (λ f. (agrees f first later rest e poll id x is told keeps).updated u);
      polled = λ earlier sets own. ∥∥₁_elim fit (Coded-set (coded_option (coded_list the_entry.the_row.coded)) _ _)
          (λ f. (agrees f first later rest e poll id x is told keeps).polled earlier sets own);
    }
