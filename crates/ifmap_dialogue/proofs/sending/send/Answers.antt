use Rattle.ifmap_dialogue.proofs.Writing.{gave_up}
use Rattle.ifmap_dialogue.proofs.sending.send.Goals as goal

pub returns-in-NoMemory-clause-writes : goal.returns-in-NoMemory-clause-writes
returns-in-NoMemory-clause-writes g c =
    let (none, once, first) = c.in-NoMemory.ensures.writes in
    let (output, given, then) = c.give_up.ensures in
    (output, given, gave_up _ _ _ none output once first then)

pub returns-in-Done-clause-writes : goal.returns-in-Done-clause-writes
returns-in-Done-clause-writes g c = c.in-Done.ensures.writes

pub returns-in-WriteFault-clause-writes : goal.returns-in-WriteFault-clause-writes
returns-in-WriteFault-clause-writes g c = c.in-WriteFault.ensures.writes

pub returns-in-WriteFault-clause-fault : goal.returns-in-WriteFault-clause-fault
returns-in-WriteFault-clause-fault g c = c.in-WriteFault.ensures.fault
