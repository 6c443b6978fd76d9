use Rattle.std.proofs.Common.{◌∙◌, arith}
use Rattle.std.proofs.lemmas.List.{nil_from_length}
use Rattle.std.specs.Vec.Iter.{into_iter_items}
use Rattle.ifmap_tellings.proofs.Queuing.{push_fits, pushes_all, pushes_more, pushes_none, pushes_spare}
use Rattle.ifmap_tellings.proofs.tellings.push_all.Goals as goal

pub loop-item-init : goal.loop-item-init
loop-item-init c =
    pushes_none c.args.serial c.args.items c.args.sessions.now (into_iter_items c.into_iter-item-iterator.result)
    (c.into_iter-item-iterator.ensures.into_iter_gives.0 ∙ c.items.view_is) c.requires.live c.requires.room

pub push-requires-clause-live : goal.push-requires-clause-live
push-requires-clause-live c = c.loop-item.invariant.live

pub push-requires-clause-room : goal.push-requires-clause-room
push-requires-clause-room c =
    push_fits c.args.serial c.args.items c.args.sessions.now c.loop-item.sessions (into_iter_items c.loop-item.item-iterator) c.in-Some.item
    (into_iter_items c.next.new.self) c.loop-item.invariant c.in-Some.ensures.steps.0

pub loop-item-preserved : goal.loop-item-preserved
loop-item-preserved c =
    pushes_more c.args.serial c.args.items c.args.sessions.now c.loop-item.sessions (into_iter_items c.loop-item.item-iterator)
    c.in-Some.item (into_iter_items c.next.new.self) c.loop-item.invariant c.in-Some.ensures.steps.0 c.push.new.self
    c.push.ensures.changes c.push.ensures.spare

pub returns-clause-changes : goal.returns-clause-changes
returns-clause-changes c =
    let none = nil_from_length (into_iter_items c.loop-item.item-iterator)
    (omega (arith, c.loop-item.item-iterator.rest.ok.0, c.in-None.ensures.steps.0)) in
    pushes_all c.args.serial c.args.items c.args.sessions.now c.loop-item.sessions (into_iter_items c.loop-item.item-iterator)
    c.loop-item.invariant none

pub returns-clause-spare : goal.returns-clause-spare
returns-clause-spare c =
    let none = nil_from_length (into_iter_items c.loop-item.item-iterator)
    (omega (arith, c.loop-item.item-iterator.rest.ok.0, c.in-None.ensures.steps.0)) in
    pushes_spare c.args.serial c.args.items c.args.sessions.now c.loop-item.sessions (into_iter_items c.loop-item.item-iterator)
    c.loop-item.invariant none
