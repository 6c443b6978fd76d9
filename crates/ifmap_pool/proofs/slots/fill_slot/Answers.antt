use Rattle.ifmap_pool.proofs.Emptiness.{count_filled, free_filled}
use Rattle.ifmap_pool.proofs.slots.fill_slot.Goals as goal

pub returns-in-Some-clause-free : goal.returns-in-Some-clause-free
returns-in-Some-clause-free g c =
    free_filled c.args.slots.now.items c.args.free.now.items c.pop.new.self.items c.in-Some.number c.in-Some.ensures.items
    c.requires.free c.args.held

pub returns-in-Some-clause-count : goal.returns-in-Some-clause-count
returns-in-Some-clause-count g c =
    count_filled c.args.slots.now.items c.args.free.now.items c.pop.new.self.items c.in-Some.number c.in-Some.ensures.items
    c.requires.free c.args.held
