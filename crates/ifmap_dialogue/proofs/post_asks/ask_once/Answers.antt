use Rattle.ifmap_dialogue.proofs.Coming.{as_request, light_by, once_not_heard, once_not_held, once_replied, once_spent, once_wanting}
use Rattle.ifmap_dialogue.proofs.post_asks.ask_once.Goals as goal

pub take_turn-requires : goal.take_turn-requires
take_turn-requires g c =
    let (moment, given, is) = c.first_event-event.ensures in
    record { light = light_by _ _ moment c.first_event-event.result is c.requires.short }

pub returns-in-Replied : goal.returns-in-Replied
returns-in-Replied g c =
    as_request _ _ _ _ _ _
    (once_replied _ _ _ _ _ _ c.first_event-event.ensures c.requires.other c.take_turn.ensures c.in-Replied.reply c.in-Replied.is)
    c.draw_word-random.ensures.word c.draw_word-random.ensures.after

pub returns-in-Spent : goal.returns-in-Spent
returns-in-Spent g c =
    as_request _ _ _ _ _ _
    (once_spent _ _ _ _ _ _ c.first_event-event.ensures c.requires.other c.take_turn.ensures c.in-Spent.entries c.in-Spent.is)
    c.draw_word-random.ensures.word c.draw_word-random.ensures.after

pub returns-in-NoMemory : goal.returns-in-NoMemory
returns-in-NoMemory g c =
    as_request _ _ _ _ _ _
    (once_wanting _ _ _ _ _ _ c.first_event-event.ensures c.requires.other c.take_turn.ensures c.in-NoMemory.is)
    c.draw_word-random.ensures.word c.draw_word-random.ensures.after

pub unreachable-requires : goal.unreachable-requires
unreachable-requires g c =
    once_not_held _ _ _ _ _ _ c.first_event-event.ensures c.requires.other c.take_turn.ensures c.in-Held.is

pub unreachable-requires-in-Heard : goal.unreachable-requires-in-Heard
unreachable-requires-in-Heard g c =
    once_not_heard _ _ _ _ _ _ c.first_event-event.ensures c.requires.other c.take_turn.ensures c.in-Heard.is
