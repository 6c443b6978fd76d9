use Rattle.std.proofs.Common.{arith}
use Rattle.ifmap_serving.proofs.HandingOut.{stand_served}
use Rattle.ifmap_serving.proofs.serving.serve.Goals as goal
use denote.Param.Send.{IsSync}
use Rattle.ifmap_desks.specs.contracts.machine.CoreMachine as the_machine
use Rattle.ifmap_desks.specs.contracts.events.FitEvent as the_fit
use Rattle.ifmap_desks.specs.Machines.{core_holds, core_reply}
use Rattle.ifmap_hall.proofs.hall.Hall.TheSendSync as Hall
use Rattle.ifmap_hall.specs.contracts.hall.Hall as the_hall
use Rattle.ifmap_hall.specs.declared.machine.Machine.{Ghosts}
use Rattle.ifmap_desks.specs.ifmap_machine.contracts.events.Answer as the_answer
use Rattle.ifmap_desks.specs.ifmap_machine.State.{opening_state}
use Rattle.ifmap_serving.proofs.Sending.{fit_send, machine_send}

-- a hall over a core can be shared, whatever the core does as its machine
hall_sync : (machine : Ghosts the_machine.the_row.Denot the_fit.the_row.Denot the_answer.the_row.Denot)
    → IsSync (the_hall.the_row the_machine.the_row the_fit.the_row the_answer.the_row machine)
hall_sync machine = Hall.the_sync the_machine.the_row the_fit.the_row the_answer.the_row machine machine_send fit_send

pub run_workers-requires-sync-X : goal.run_workers-requires-sync-X
run_workers-requires-sync-X g c κs within = record {
  shared = (hall_sync record {
    weight_of = _;
    holds_on = core_holds;
    next = _;
    reply = core_reply;
    some_state = record { core = opening_state 1 };
  }).shared;
}

pub returns-clause-served : goal.returns-clause-served
returns-clause-served g c other = record {
  hall = c.in-Ok.hall;
  stands = λ i d lt.
      stand_served _ _ _ _ i _ _ _ (c.in-Ok-hand_out.ensures.ok i d lt)
      (c.run_workers.ensures i d (omega (arith, lt, c.hand_out.auto.stands)));
}
