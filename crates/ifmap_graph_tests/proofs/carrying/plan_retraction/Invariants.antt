use Rattle.ifmap_graph_tests.proofs.carrying.plan_retraction.Given as goal

abbrev pub ghosts-plan_with : goal.ghosts-plan_with
ghosts-plan_with a = record { name = a.blank.name; parts = a.blank.parts }
