use Rattle.ifmap_region_tests.proofs.counters.a_counter_begins_from_a_blank.Given as goal

abbrev pub ghosts-tick_twice : goal.ghosts-tick_twice
ghosts-tick_twice a = record { name = a.blank.name; parts = a.blank.parts }
