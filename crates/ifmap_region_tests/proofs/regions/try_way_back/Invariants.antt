use Rattle.ifmap_region_tests.proofs.regions.try_way_back.Given as goal

abbrev pub ghosts-go_back : goal.ghosts-go_back
ghosts-go_back a = record { name = a.blank.name; parts = a.blank.parts }
