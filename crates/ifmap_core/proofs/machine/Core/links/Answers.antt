use Rattle.ifmap_core.proofs.machine.Core.links.Goals as goal

pub returns : goal.returns
returns c = rw (← c.self.view_is) c.links.ensures
