use Rattle.std.proofs.Common.{◌≡◌, ◌≤◌, ap, refl, subst, arith}
use Rattle.ifmap_lemmas.specs.Options.{some_is}
use Rattle.ifmap_tellings.specs.Tellings.{CanTell, count_told}
use Rattle.ifmap_standing.specs.ifmap_session.Sessions.{session_with_serial, spare_of}
use Rattle.ifmap_tellings.proofs.Queuing.{room_for_one}
use Rattle.ifmap_tellings.proofs.tellings.tell_one.Goals as goal

pub push_all-requires-clause-live : goal.push_all-requires-clause-live
push_all-requires-clause-live c = c.requires.live

pub push_all-requires-clause-room : goal.push_all-requires-clause-room
push_all-requires-clause-room c = subst (λ t. count_told t ≤ spare_of c.args.serial c.args.sessions.now.spare) c.in-After.is c.requires.room

pub overflow-requires-clause-live : goal.overflow-requires-clause-live
overflow-requires-clause-live c = c.requires.live

pub overflow-requires-clause-room : goal.overflow-requires-clause-room
overflow-requires-clause-room c = λ s is.
    room_for_one c.args.serial c.args.sessions.now _ refl (subst (CanTell c.args.sessions.now c.args.serial) c.in-Alone.is c.requires) s is

pub returns-in-Alone-clause-spare : goal.returns-in-Alone-clause-spare
returns-in-Alone-clause-spare c =
    let there = some_is (session_with_serial c.args.serial c.args.sessions.now.live) c.requires.live in
    let told = c.overflow.ensures.spare there.0 there.1 in
    let one : count_told c.args.telling ≡ 1 = ap count_told c.in-Alone.is in
    omega (arith, told, one)
