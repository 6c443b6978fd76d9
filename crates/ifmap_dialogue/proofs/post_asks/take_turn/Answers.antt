use Rattle.std.proofs.Common.{refl}
use Rattle.ifmap_dialogue.proofs.post_asks.take_turn.Goals as goal

pub returns : goal.returns
returns g c = (record { event = c.args.event; asked = c.ask.result }, refl, c.outcome_of.ensures, c.ask.ensures.tells)
