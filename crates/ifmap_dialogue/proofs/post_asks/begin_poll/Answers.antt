use Rattle.std.proofs.Common.{subst, sym}
use Rattle.ifmap_elem.specs.Chars.{IsCharacters}
use Rattle.ifmap_dialogue.proofs.Coming.{first_is}
use Rattle.ifmap_dialogue.proofs.post_asks.begin_poll.Goals as goal

pub first_event-event-requires : goal.first_event-event-requires
first_event-event-requires g c = subst IsCharacters (sym c.in_ok-copied.ensures) c.requires.fit

pub returns-clause-event : goal.returns-clause-event
returns-clause-event g c =
    first_is _ _ _ _ _ _ _ c.first_event-event.result c.in_ok-named.ensures c.in_ok-copied.ensures c.first_event-event.ensures
