use Rattle.ifmap_envelopes.proofs.EnvelopeLaws.{front_within, no_solid, solid_found}
use Rattle.ifmap_envelopes.proofs.envelopes.blank_front.Goals as goal

pub returns-in-Some-clause-front : goal.returns-in-Some-clause-front
returns-in-Some-clause-front c = solid_found c.args.children.now c.in-Some.index c.in-Some.ensures

pub returns-in-Some-clause-within : goal.returns-in-Some-clause-within
returns-in-Some-clause-within c =
    front_within c.args.children.now c.in-Some.index (solid_found c.args.children.now c.in-Some.index c.in-Some.ensures)

pub returns-in-None-clause-front : goal.returns-in-None-clause-front
returns-in-None-clause-front c = no_solid c.args.children.now c.in-None.ensures
