use Rattle.std.proofs.Common.{[], ◌∷◌}
use Rattle.ifmap_dialogue.proofs.Answering.{lost_by_fault, lost_by_want, lost_none}
use Rattle.ifmap_dialogue.specs.Answers.{closes}
use Rattle.ifmap_dialogue.specs.Telling.{tells_none}
use Rattle.ifmap_dialogue.proofs.rounds.conclude.Goals as goal

pub returns-in-Done : goal.returns-in-Done
returns-in-Done g c = ([], tells_none _, lost_none _ c.args.poll (closes c.args.then) c.args.sent _ c.in-Done.is c.end_after.ensures)

pub returns-in-WriteFault : goal.returns-in-WriteFault
returns-in-WriteFault g c =
    let (turn, asks, tells, heard) = c.tell_lost.ensures in
    (turn ∷ [], tells, lost_by_fault _ c.args.poll (closes c.args.then) c.args.sent turn _ c.in-WriteFault.is asks heard)

pub returns-in-NoMemory : goal.returns-in-NoMemory
returns-in-NoMemory g c =
    let (turn, asks, tells, heard) = c.tell_lost-in-NoMemory.ensures in
    (turn ∷ [], tells, lost_by_want _ c.args.poll (closes c.args.then) c.args.sent turn _ c.in-NoMemory.is asks heard)
