use Rattle.ifmap_subscribes.proofs.KeptNames.{stands_at, stands_nowhere}
use Rattle.ifmap_subscribes.proofs.names.is_standing.Goals as goal

pub returns-in-Ok : goal.returns-in-Ok
returns-in-Ok c =
    let found = c.in-Ok.ensures.found in
    stands_at c.args.serial c.args.name.now c.args.gone.now c.args.standing.now c.in-Ok.at found.0 c.requires.rising c.requires.flags
    found.1 found.2

pub returns-in-Err : goal.returns-in-Err
returns-in-Err c = stands_nowhere c.args.serial c.args.name.now c.args.gone.now c.args.standing.now c.in-Err.ensures.only
