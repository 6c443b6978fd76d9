use Rattle.ifmap_region_tests.proofs.regions.try_corner.Given as goal

abbrev pub ghosts-cut_corner : goal.ghosts-cut_corner
ghosts-cut_corner a = record { name = a.blank.name; parts = a.blank.parts }
