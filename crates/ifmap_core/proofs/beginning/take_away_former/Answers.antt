use Rattle.ifmap_core.proofs.LaterParts.{stays_later}
use Rattle.ifmap_core.proofs.beginning.take_away_former.Goals as goal

pub returns-in-None-clause-changed : goal.returns-in-None-clause-changed
returns-in-None-clause-changed g c = record {
  steady = c.requires.steady;
  ready = c.requires.ready;
  later = stays_later c.args.parts.now;
}
