use Rattle.ifmap_region.proofs.seeds.held_mark.Goals as goal

pub returns-in-None-clause-each : goal.returns-in-None-clause-each
returns-in-None-clause-each g c k m = c.in-None.ensures.each k m.0
