use Rattle.std.proofs.Common.{ap, ◌∙◌}
use Rattle.ifmap_dialogue.specs.Answers.{ending_heard}
use Rattle.ifmap_dialogue.proofs.Coming.{light_lost}
use Rattle.ifmap_dialogue.proofs.post_asks.tell_lost.Goals as goal

pub take_turn-requires : goal.take_turn-requires
take_turn-requires g c =
    let (moment, given, same) = c.lost_event.ensures in
    record { light = light_lost c.args.poll moment c.lost_event.result same }

pub returns : goal.returns
returns g c =
    let (turn, asks, is, tells) = c.take_turn.ensures in
    let (moment, given, same) = c.lost_event.ensures in
    (turn, (moment, given, asks ∙ same), tells, c.ending_heard.ensures ∙ ap (ending_heard c.args.due) is)
