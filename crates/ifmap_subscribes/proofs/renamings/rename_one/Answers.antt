use Rattle.std.proofs.Common.{◌++◌, option_to_list, refl, arith}
use Rattle.ifmap_lemmas.specs.Mapped.{one_at_most}
use Rattle.ifmap_changes.specs.declared.parts.Parts.{Parts}
use Rattle.ifmap_subscribes.specs.Renamings.{starts_by}
use Rattle.ifmap_subscribes.proofs.RenamingTold.{can_rest, item_room, left_free, left_rising, live_then, name_keeps, renamed_one}
use Rattle.ifmap_subscribes.proofs.renamings.rename_one.Goals as goal

pub push_where-requires-clause-live : goal.push_where-requires-clause-live
push_where-requires-clause-live c =
    let can = c.requires.can.1 in
    live_then c.args.serial _ (name_keeps c.args.renaming.name) c.args.parts.now.sessions c.drop_name.new.self c.drop_name.ensures.changes
    can.live

pub push_where-requires-clause-room : goal.push_where-requires-clause-room
push_where-requires-clause-room c =
    let can = c.requires.can in
    item_room c.args.serial c.args.renaming c.args.parts.now can.0 can.1 c.drop_name.new.self c.drop_name.ensures.spare

pub drop_standing-requires-clause-rising : goal.drop_standing-requires-clause-rising
drop_standing-requires-clause-rising c = let can = c.requires.can.1 in can.ordered

pub drop_standing-requires-clause-steady : goal.drop_standing-requires-clause-steady
drop_standing-requires-clause-steady c =
    let can = c.requires.can in let steady = can.1 in (option_to_list c.args.renaming.standing ++ starts_by can.0, steady.steady)

pub put_where-requires-clause-rising : goal.put_where-requires-clause-rising
put_where-requires-clause-rising c =
    let can = c.requires.can.1 in
    left_rising c.args.serial c.args.renaming.name c.args.parts.now.standing.items c.drop_standing.new.standing.items
    c.drop_standing.ensures.standing can.ordered

pub put_where-requires-clause-free : goal.put_where-requires-clause-free
put_where-requires-clause-free c =
    let can = c.requires.can.1 in
    left_free c.args.serial c.args.renaming c.args.parts.now.standing.items c.drop_standing.new.standing.items
    c.drop_standing.ensures.standing can.session.0

pub put_where-requires-clause-room : goal.put_where-requires-clause-room
put_where-requires-clause-room c =
    let can = c.requires.can.1 in
    let one = one_at_most c.args.renaming.standing in
    omega (arith, one, can.places, c.drop_standing.ensures.len, c.drop_standing.ensures.capacity)

pub returns-clause-renamed : goal.returns-clause-renamed
returns-clause-renamed c =
    let can = c.requires.can in
    let mid : Parts =
    record { graph = c.drop_standing.new.graph; sessions = c.drop_name.new.self; standing = c.drop_standing.new.standing } in
    let new : Parts =
    record { graph = c.drop_standing.new.graph; sessions = c.push_where.new.sessions; standing = c.put_where.new.standing } in
    renamed_one c.args.serial c.args.renaming c.args.parts.now can.0 can.1 mid new
    c.drop_name.ensures.changes c.push_where.ensures.changes c.drop_name.ensures.spare c.push_where.ensures.spare refl
    c.drop_standing.ensures.standing c.drop_standing.ensures.steady c.drop_standing.ensures.rows c.drop_standing.ensures.lean
    c.drop_standing.ensures.kept
    c.drop_standing.ensures.len c.drop_standing.ensures.capacity c.put_where.ensures.standing c.put_where.ensures.among
    c.put_where.ensures.len c.put_where.ensures.capacity c.is_table.ensures.rising

pub returns-clause-rest : goal.returns-clause-rest
returns-clause-rest c = λ rest can.
    let mid : Parts =
    record { graph = c.drop_standing.new.graph; sessions = c.drop_name.new.self; standing = c.drop_standing.new.standing } in
    let new : Parts =
    record { graph = c.drop_standing.new.graph; sessions = c.push_where.new.sessions; standing = c.put_where.new.standing } in
    can_rest c.args.serial c.args.renaming c.args.parts.now rest can mid new
    c.drop_name.ensures.changes c.push_where.ensures.changes c.drop_name.ensures.spare c.push_where.ensures.spare refl
    c.drop_standing.ensures.standing c.drop_standing.ensures.steady c.drop_standing.ensures.rows c.drop_standing.ensures.lean
    c.drop_standing.ensures.kept
    c.drop_standing.ensures.len c.drop_standing.ensures.capacity c.put_where.ensures.standing c.put_where.ensures.among
    c.put_where.ensures.len c.put_where.ensures.capacity
