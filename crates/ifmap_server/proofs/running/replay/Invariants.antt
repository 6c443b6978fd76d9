use Rattle.ifmap_server.proofs.running.replay.Given as goal

abbrev pub ghosts-replay_from : goal.ghosts-replay_from
ghosts-replay_from g a = record { name = a.blank.name; parts = a.blank.parts }
