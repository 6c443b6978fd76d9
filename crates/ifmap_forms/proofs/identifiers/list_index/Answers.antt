use Rattle.ifmap_forms.proofs.ItemLaws.{list_found, no_list}
use Rattle.ifmap_forms.proofs.identifiers.list_index.Goals as goal

pub returns-in-Some-clause-before : goal.returns-in-Some-clause-before
returns-in-Some-clause-before c = (list_found c.args.children.now c.in-Some.index c.in-Some.ensures).before

pub returns-in-Some-clause-after : goal.returns-in-Some-clause-after
returns-in-Some-clause-after c = (list_found c.args.children.now c.in-Some.index c.in-Some.ensures).after

pub returns-in-None-clause-before : goal.returns-in-None-clause-before
returns-in-None-clause-before c = (no_list c.args.children.now c.in-None.ensures).before

pub returns-in-None-clause-after : goal.returns-in-None-clause-after
returns-in-None-clause-after c = (no_list c.args.children.now c.in-None.ensures).after
