use Rattle.ifmap_delta.specs.SeenViews.{view_seen}
use Rattle.ifmap_standing.proofs.Taking.{leads, room_keeps, would_keep}
use Rattle.ifmap_standing.proofs.tell_changes.take_over.Goals as goal

pub returns-clause-kept : goal.returns-clause-kept
returns-clause-kept g c =
    let new = view_seen g.D.View.rows g.D.View.id_at g.D.View.links c.args.change.now.draft.now
    in let moved = c.in_ok-moved.moved
    in let room = c.in_ok-reserve.ensures
    in let same = room_keeps c.args.subscription.now c.reserve.new.self moved.patch room.search room.size room.marks room.only
    in c.commit_kept-undo.ensures.kept new
    (would_keep new c.args.subscription.now c.reserve.new.self moved.patch moved.new_size same c.in_ok-moved.ensures.moved.keeps)

pub returns-clause-way : goal.returns-clause-way
returns-clause-way g c =
    let moved = c.in_ok-moved.moved
    in let room = c.in_ok-reserve.ensures
    in let made = c.commit_kept-undo.ensures
    in let same = room_keeps c.args.subscription.now c.reserve.new.self moved.patch room.search room.size room.marks room.only
    in leads c.args.subscription.now c.reserve.new.self c.commit_kept-undo.new.self moved.patch c.commit_kept-undo.result same made.search
    made.makes made.undo made.undo_size made.room
