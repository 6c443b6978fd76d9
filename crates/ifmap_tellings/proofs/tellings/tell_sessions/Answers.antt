use Rattle.std.proofs.Common.{◌≡◌, [], length}
use Rattle.std.proofs.lemmas.List.{nil_from_length}
use Rattle.ifmap_lemmas.specs.Options.{none_left}
use Rattle.ifmap_tellings.proofs.Queuing.{tells_all, tells_more, tells_none, tells_spare}
use Rattle.ifmap_tellings.proofs.tellings.tell_sessions.Goals as goal

pub loop-serial-init : goal.loop-serial-init
loop-serial-init c = tells_none c.args.tellings c.args.sessions.now c.requires

pub tell_one-requires : goal.tell_one-requires
tell_one-requires c = c.loop-serial.invariant.can c.in-Some.serial c.in-Some.telling c.in-Some.ensures.value

pub loop-serial-preserved : goal.loop-serial-preserved
loop-serial-preserved c =
    tells_more c.in-Some.serial c.in-Some.telling c.loop-serial.left c.pop_first.new.self c.in-Some.ensures.value c.in-Some.ensures.updates
    c.args.tellings c.args.sessions.now c.loop-serial.sessions c.tell_one.new.sessions c.loop-serial.invariant c.tell_one.ensures.changes
    c.tell_one.ensures.spare

pub returns-clause-live : goal.returns-clause-live
returns-clause-live c =
    let none : c.loop-serial.left.entries ≡ [] =
    nil_from_length c.loop-serial.left.entries
    (none_left c.pop_first.result (length c.loop-serial.left.entries) c.pop_first.ensures.variant.1 c.in_default.is) in
    tells_all c.args.tellings c.args.sessions.now c.loop-serial.sessions c.loop-serial.left c.loop-serial.invariant none

pub returns-clause-counter : goal.returns-clause-counter
returns-clause-counter c = c.loop-serial.invariant.counter

pub returns-clause-spare : goal.returns-clause-spare
returns-clause-spare c =
    let none : c.loop-serial.left.entries ≡ [] =
    nil_from_length c.loop-serial.left.entries
    (none_left c.pop_first.result (length c.loop-serial.left.entries) c.pop_first.ensures.variant.1 c.in_default.is) in
    tells_spare c.args.tellings c.args.sessions.now c.loop-serial.sessions c.loop-serial.left c.loop-serial.invariant none

pub returns-clause-room : goal.returns-clause-room
returns-clause-room c = c.loop-serial.invariant.room
