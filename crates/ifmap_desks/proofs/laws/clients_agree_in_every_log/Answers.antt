use Rattle.ifmap_desks.proofs.LogLaws.{agrees_calls, legal_calls, run_by_calls, since_calls}
use Rattle.ifmap_dialogue.specs.ifmap_machine.State.{opening_state}
use Rattle.ifmap_desks.proofs.laws.clients_agree_in_every_log.Goals as goal

pub returns-clause-legal : goal.returns-clause-legal
returns-clause-legal c = λ ttl log. legal_calls (opening_state ttl) log

pub returns-clause-state : goal.returns-clause-state
returns-clause-state c = run_by_calls

pub returns-clause-agrees : goal.returns-clause-agrees
returns-clause-agrees c = agrees_calls c.clients_fold_fresh_results.ensures

pub returns-clause-since : goal.returns-clause-since
returns-clause-since c = since_calls c.clients_fold_fresh_results_from_any_entry.ensures
