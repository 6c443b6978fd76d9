use Rattle.std.proofs.Common.{◌≡◌, ◌∙◌, Some, sym, subst, ◌++◌, ◌∷◌, []}
use Rattle.std.specs.BTreeMap.{get}
use Rattle.std.specs.Cmp.Lexicographic.{slice_cmp}
use Rattle.std.specs.Ordering.{nat_cmp}
use Rattle.ifmap_changes.specs.ifmap_graph.Seen.{rows_now}
use Rattle.ifmap_subscribes.proofs.Adding.{HasNoted, begun_more_told, begun_told, can_add, readied_more, readied_noted, room_for}
use Rattle.ifmap_subscribes.proofs.Ready.{can_on}
use Rattle.ifmap_subscribes.specs.Readying.{CanStand, told_in_scene, told_then}
use Rattle.ifmap_subscribes.specs.Renamings.{IsNameNow}
use Rattle.ifmap_subscribes.proofs.readying.begin_ready.Given as given
use Rattle.ifmap_subscribes.proofs.readying.begin_ready.Goals as goal
use Rattle.ifmap_subscribes.proofs.readying.begin_ready.Goals.{After-make_room}

room_is_noted : (g : given.Over) (c : After-make_room g)
    → HasNoted c.args.scene.now.serial (told_in_scene c.args.scene.now c.args.parts.now)
    c.args.readying.now c.make_room.new.readying c.in_ok-copy.field-0 c.args.wish.now.before
room_is_noted g c =
    let s = c.args.scene.now in
    let u = told_then s c.args.parts.now c.args.readying.now in
    record {
      counted = c.requires.update.can.readied.counted;
      is = subst (λ x. IsNameNow s.serial x u c.args.wish.now.before) (sym c.in_ok-copy.ensures) c.requires.update.before;
      noted = c.make_room.ensures.noted;
    }

pub returns-in_err-make_room-clause-can : goal.returns-in_err-make_room-clause-can
returns-in_err-make_room-clause-can g c = record {
  ready = c.requires.update.can.ready;
  live = c.requires.update.can.live;
  readied = readied_noted (room_is_noted g (goal.at.returns-in_err-make_room-clause-can g c).After-make_room) c.args.parts.now
      c.requires.update.can.readied.stand;
}

pub returns-in_err-renaming-clause-can : goal.returns-in_err-renaming-clause-can
returns-in_err-renaming-clause-can g c =
    let s = c.args.scene.now in
    let q = c.begin_beside.new.parts in
    let made = c.deref.ensures.value ∙ c.make_room.ensures.noted.made in
    let stand = subst (λ rs. CanStand s.serial q rs) made c.in_err-renaming.ensures.err in
    can_on s c.args.parts.now q c.make_room.new.readying c.begin_beside.ensures.holds c.begin_beside.ensures.ready
    c.requires.update.can.live (readied_noted (room_is_noted g (goal.at.returns-in_err-renaming-clause-can g c).After-make_room) q stand)

pub add_renaming-requires-clause-small : goal.add_renaming-requires-clause-small
add_renaming-requires-clause-small g c = c.in_ok-renaming.ensures.begins.small

pub add_renaming-requires-clause-name : goal.add_renaming-requires-clause-name
add_renaming-requires-clause-name g c =
    subst (λ name. get (slice_cmp nat_cmp) c.make_room.new.readying.names name ≡ Some c.args.wish.now.before)
    (c.in_ok-copy.ensures ∙ sym c.in_ok-renaming.ensures.begins.named) c.in_ok-make_room.ensures.name

pub add_renaming-requires-clause-count : goal.add_renaming-requires-clause-count
add_renaming-requires-clause-count g c = (can_add (room_is_noted g (goal.at.add_renaming-requires-clause-count g c).After-make_room)).count

pub add_renaming-requires-clause-size : goal.add_renaming-requires-clause-size
add_renaming-requires-clause-size g c = (can_add (room_is_noted g (goal.at.add_renaming-requires-clause-size g c).After-make_room)).size

pub returns-clause-op : goal.returns-clause-op
returns-clause-op g c =
    let wish = c.args.wish.now in
    begun_more_told (room_is_noted g (goal.at.returns-clause-op g c).After-make_room) c.add_renaming.ensures
    (rows_now c.args.parts.now.graph)
    wish.name.now wish.search.now c.in_ok-renaming.ensures.begins.begun

pub returns-clause-can : goal.returns-clause-can
returns-clause-can g c =
    let s = c.args.scene.now in
    let n = s.serial in
    let p = c.args.parts.now in
    let q = c.begin_beside.new.parts in
    let old = c.args.readying.now in
    let wish = c.args.wish.now in
    let r = c.in_ok-renaming.renaming in
    let e = c.in_ok-renaming.ensures in
    let stand : CanStand n q (old.made.items ++ r ∷ [])
    = subst (λ rs. CanStand n q (rs ++ r ∷ [])) (c.deref.ensures.value ∙ c.make_room.ensures.noted.made) e.stand in
    let told = begun_told (rows_now p.graph) n wish.name.now wish.search.now r e.begins.named e.begins.begun in
    let room = room_for n wish.name.now (told_in_scene s p) old wish.before c.requires.update.can.readied.counted
    c.requires.update.before c.requires.room r.standing in
    can_on s p q c.add_renaming.new.readying c.begin_beside.ensures.holds c.begin_beside.ensures.ready c.requires.update.can.live
    (readied_more (room_is_noted g (goal.at.returns-clause-can g c).After-make_room) c.add_renaming.ensures q
    (e.begins.named ∙ sym c.in_ok-copy.ensures)
    e.begins.session told e.begins.small c.in_ok-make_room.ensures.few room stand)
