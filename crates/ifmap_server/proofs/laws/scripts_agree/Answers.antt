use Rattle.ifmap_core.specs.ifmap_machine.State.{opening_state, session_seconds}
use Rattle.ifmap_server.specs.Histories.{history_of}
use Rattle.ifmap_server.proofs.ScriptHistories.{history_fit, history_legal}
use Rattle.ifmap_server.proofs.laws.scripts_agree.Goals as goal

pub returns-clause-legal : goal.returns-clause-legal
returns-clause-legal c = λ frames. history_legal (opening_state session_seconds) frames

pub returns-clause-fit : goal.returns-clause-fit
returns-clause-fit c = λ bytes frames fault is.
    history_fit c.bodies_mean_fit_requests.ensures 0 bytes frames fault (opening_state session_seconds) is

pub returns-clause-agrees : goal.returns-clause-agrees
returns-clause-agrees c = λ bytes frames fault is.
    c.clients_fold_fresh_results.ensures session_seconds (history_of frames) (history_legal (opening_state session_seconds) frames)
    (history_fit c.bodies_mean_fit_requests.ensures 0 bytes frames fault (opening_state session_seconds) is)
