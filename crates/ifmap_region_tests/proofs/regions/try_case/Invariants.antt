use Rattle.ifmap_region_tests.proofs.regions.try_case.Given as goal

abbrev pub ghosts-run : goal.ghosts-run
ghosts-run a = record { name = a.blank.name; parts = a.blank.parts }
