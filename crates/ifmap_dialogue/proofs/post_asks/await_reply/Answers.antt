use Rattle.std.proofs.Common.{ap, sym, ◌∙◌, arith}
use Rattle.ifmap_machine.specs.Events.{Event}
use Rattle.ifmap_dialogue.proofs.Coming.{light_by}
use Rattle.ifmap_dialogue.proofs.Turning.{finds_held_out, finds_polled, finds_spent, finds_unasked, finds_wanting, not_heard, waits_first, waits_more}
use Rattle.ifmap_dialogue.specs.Telling.{fits_one}
use Rattle.ifmap_dialogue.proofs.post_asks.await_reply.Goals as goal

pub turns-init : goal.turns-init
turns-init g c = waits_first _ _ _ _ c.requires.first

pub take_turn-requires : goal.take_turn-requires
take_turn-requires g c =
    let (moment, given, is) = c.turns.invariant.due in
    record { light = light_by _ _ moment c.turns.event is c.requires.short }

pub returns-in-Replied : goal.returns-in-Replied
returns-in-Replied g c =
    let (turn, asks, is, tells) = c.take_turn.ensures in
    finds_polled _ _ _ _ _ c.turns.turns c.turns.event c.turns.invariant turn asks tells c.in-Replied.reply _ c.finding_of.ensures
    (sym is ∙ c.in-Replied.is)

pub returns-in-Spent : goal.returns-in-Spent
returns-in-Spent g c =
    let (turn, asks, is, tells) = c.take_turn.ensures in
    finds_spent _ _ _ _ _ c.turns.turns c.turns.event c.turns.invariant turn asks tells c.in-Spent.entries (sym is ∙ c.in-Spent.is)

pub returns-in-NoMemory : goal.returns-in-NoMemory
returns-in-NoMemory g c =
    let (turn, asks, is, tells) = c.take_turn.ensures in
    finds_wanting _ _ _ _ _ c.turns.turns c.turns.event c.turns.invariant turn asks tells (sym is ∙ c.in-NoMemory.is)

pub unreachable-requires : goal.unreachable-requires
unreachable-requires g c =
    let (turn, asks, is, tells) = c.take_turn.ensures in
    let (moment, given, same) = c.turns.invariant.due in
    not_heard turn.event _ turn.asked (ap (λ (e : Event). e.ask) (asks ∙ same)) (fits_one _ _ turn tells) (sym is ∙ c.in-Heard.is)

pub returns-then-turns-eq-MOST_TURNS : goal.returns-then-turns-eq-MOST_TURNS
returns-then-turns-eq-MOST_TURNS g c =
    let (turn, asks, is, tells) = c.take_turn.ensures in
    finds_held_out _ _ _ _ _ c.turns.turns c.turns.event c.turns.invariant turn asks tells (sym is ∙ c.in-Held.is)
    c.if-turns-eq-MOST_TURNS.true

pub returns-in-Err : goal.returns-in-Err
returns-in-Err g c =
    let (turn, asks, is, tells) = c.take_turn.ensures in
    finds_unasked _ _ _ _ _ c.turns.turns c.turns.event c.turns.invariant turn asks tells (sym is ∙ c.in-Held.is)
    (omega (arith, c.turns.invariant.few, c.if-turns-eq-MOST_TURNS.false))

pub turns-preserved : goal.turns-preserved
turns-preserved g c =
    let (turn, asks, is, tells) = c.take_turn.ensures in
    waits_more _ _ _ _ _ c.turns.turns c.turns.event c.turns.invariant turn asks tells c.in-Ok.again (sym is ∙ c.in-Held.is)
    (omega (arith, c.turns.invariant.few, c.if-turns-eq-MOST_TURNS.false)) c.in-Ok.ensures

pub turns-smaller : goal.turns-smaller
turns-smaller g c = omega (arith, c.turns.invariant.few)

pub overflow_add-turns : goal.overflow_add-turns
overflow_add-turns g c = omega (arith, c.turns.invariant.few)
