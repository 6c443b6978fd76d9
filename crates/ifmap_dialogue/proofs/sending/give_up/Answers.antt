use Rattle.ifmap_dialogue.proofs.Writing.{given_up}
use Rattle.ifmap_dialogue.proofs.sending.give_up.Goals as goal

pub returns : goal.returns
returns g c =
    let (output, once, gained) = c.write-sent.ensures.writes in
    (output, given_up c.write-sent.result output once, gained)
