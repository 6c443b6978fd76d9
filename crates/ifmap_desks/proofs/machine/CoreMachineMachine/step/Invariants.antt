use Rattle.ifmap_desks.proofs.machine.CoreMachineMachine.step.Given as goal

abbrev pub ghosts-step_uncounted : goal.ghosts-step_uncounted
ghosts-step_uncounted a = record { name = a.blank.name; parts = a.blank.parts }
