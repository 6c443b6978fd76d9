use Rattle.ifmap_drill.proofs.running.drill.Given as goal

abbrev pub ghosts-count_from : goal.ghosts-count_from
ghosts-count_from g a = record { name = a.blank.name; parts = a.blank.parts }
