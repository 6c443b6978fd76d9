use Rattle.ifmap_delta_tests.proofs.stepping.subscribe_to.Given as goal

abbrev pub ghosts-subscribe_with : goal.ghosts-subscribe_with
ghosts-subscribe_with a = record { name = a.blank.name; parts = a.blank.parts }
