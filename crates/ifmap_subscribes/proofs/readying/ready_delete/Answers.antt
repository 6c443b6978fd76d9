use Rattle.std.proofs.Common.{◌∙◌, sym, ap, subst, arith}
use Rattle.ifmap_changes.specs.ifmap_machine.Subscribing.{drop_name}
use Rattle.ifmap_subscribes.proofs.Adding.{HasNoted, can_add, ending_drops, readied_more, readied_noted, stand_none, told_more}
use Rattle.ifmap_subscribes.specs.Readying.{told_in_scene, told_then}
use Rattle.ifmap_subscribes.specs.Renamings.{IsNameNow}
use Rattle.ifmap_subscribes.proofs.readying.ready_delete.Goals as goal
use Rattle.ifmap_subscribes.proofs.readying.ready_delete.Goals.{After-make_room}

room_is_noted : (c : After-make_room)
    → HasNoted c.args.scene.now.serial (told_in_scene c.args.scene.now c.args.parts.now) c.args.readying.now
    c.make_room.new.readying c.in_ok-copy.field-0 c.name_now-now.result
room_is_noted c =
    let s = c.args.scene.now in
    let u = told_then s c.args.parts.now c.args.readying.now in
    record {
      counted = c.requires.can.readied.counted;
      is = subst (λ x. IsNameNow s.serial x u c.name_now-now.result) (sym c.in_ok-copy.ensures) c.name_now-now.ensures;
      noted = c.make_room.ensures.noted;
    }

pub returns-in_err-make_room-clause-can : goal.returns-in_err-make_room-clause-can
returns-in_err-make_room-clause-can c = record {
  ready = c.requires.can.ready;
  live = c.requires.can.live;
  readied = readied_noted (room_is_noted (goal.at.returns-in_err-make_room-clause-can c).After-make_room) c.args.parts.now
      c.requires.can.readied.stand;
}

pub add_renaming-requires-clause-count : goal.add_renaming-requires-clause-count
add_renaming-requires-clause-count c = (can_add (room_is_noted (goal.at.add_renaming-requires-clause-count c).After-make_room)).count

pub add_renaming-requires-clause-size : goal.add_renaming-requires-clause-size
add_renaming-requires-clause-size c = (can_add (room_is_noted (goal.at.add_renaming-requires-clause-size c).After-make_room)).size

pub returns-clause-op : goal.returns-clause-op
returns-clause-op c =
    let n = c.args.scene.now.serial in
    let u = told_then c.args.scene.now c.args.parts.now c.args.readying.now in
    ap (λ x. drop_name n x u) (sym c.in_ok-own_name.ensures) ∙ ending_drops n c.in_ok-own_name.own_name u
    ∙ sym (told_more (room_is_noted (goal.at.returns-clause-op c).After-make_room) c.add_renaming.ensures)

pub returns-clause-can : goal.returns-clause-can
returns-clause-can c =
    let p = c.args.parts.now in
    let old = c.args.readying.now in
    let before = c.requires.can.readied in
    record {
      ready = c.requires.can.ready;
      live = c.requires.can.live;
      readied = readied_more (room_is_noted (goal.at.returns-clause-can c).After-make_room) c.add_renaming.ensures p
          (c.in_ok-own_name.ensures ∙ sym c.in_ok-copy.ensures) tt tt tt c.in_ok-make_room.ensures.few
          (λ _. omega (arith, before.counted.few))
          (stand_none c.args.scene.now.serial p old.made.items c.in_ok-own_name.own_name before.stand);
    }
