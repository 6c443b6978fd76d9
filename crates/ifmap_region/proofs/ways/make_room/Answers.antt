use Rattle.std.proofs.Common.{sym, ◌∙◌, inl, arith, true≢false}
use Rattle.std.proofs.lemmas.Option.{slice_get_within}
use Rattle.ifmap_lemmas.specs.Absent.{none_where_not_some}
use Rattle.ifmap_region.proofs.Exchange.{done_same, only_put, done_put, room_all}
use Rattle.ifmap_region.proofs.Missing.{room_some, room_same, room_put}
use Rattle.ifmap_region.proofs.ways.make_room.Goals as goal
use Rattle.ifmap_region.proofs.ways.make_room.Goals.{in-Some+then-not-has_row, in-Some+else-not-has_row, in_default}

pub put_within-requires : goal.put_within-requires
put_within-requires c =
    inl (room_some c.loop-i.rows.entries c.args.patch.now.entries c.loop-i.i c.in-Some.number.now _ (sym c.in-Some.ensures.entry) _
    (none_where_not_some _ (sym c.has_row.ensures ∙ c.if-not-has_row.true)) c.loop-i.invariant.spare)

pub loop-i-preserved : goal.loop-i-preserved
loop-i-preserved c = elim c.match-get_index.branch [
  | in-Some+then-not-has_row w ↦ rw w.rows-is record {
    only = only_put c.args.patch.now.entries c.args.rows.now.entries c.loop-i.rows.entries w.put_within.new.rows.entries
        w.in-Some.number.now _ c.loop-i.i (sym w.in-Some.ensures.entry) w.in-Some.ensures.value
        c.loop-i.invariant.only c.loop-i.invariant.done (none_where_not_some _ (sym w.has_row.ensures ∙ w.if-not-has_row.true))
        w.put_within.ensures.put;
    done = done_put c.args.patch.now.entries c.args.rows.now.entries c.loop-i.rows.entries w.put_within.new.rows.entries
        w.in-Some.number.now _ c.loop-i.i (sym w.in-Some.ensures.entry) w.in-Some.ensures.value
        c.loop-i.invariant.only c.loop-i.invariant.done (none_where_not_some _ (sym w.has_row.ensures ∙ w.if-not-has_row.true))
        w.put_within.ensures.put;
    spare = room_put c.loop-i.rows.entries c.args.patch.now.entries c.loop-i.i w.in-Some.number.now _ (sym w.in-Some.ensures.entry)
        w.put_within.new.rows.entries _ _ (none_where_not_some _ (sym w.has_row.ensures ∙ w.if-not-has_row.true)) w.put_within.ensures.put
        w.put_within.ensures.spare c.loop-i.invariant.spare;
  }
  | in-Some+else-not-has_row w ↦ rw w.rows-is record {
    only = c.loop-i.invariant.only;
    done = done_same c.args.patch.now.entries c.args.rows.now.entries c.loop-i.rows.entries c.loop-i.rows.entries w.in-Some.number.now _
        c.loop-i.i (sym w.in-Some.ensures.entry) w.in-Some.ensures.value
        c.loop-i.invariant.only c.loop-i.invariant.done (sym w.has_row.ensures ∙ w.if-not-has_row.false);
    spare = room_same c.loop-i.rows.entries c.args.patch.now.entries c.loop-i.i w.in-Some.number.now _ (sym w.in-Some.ensures.entry) _
        c.loop-i.invariant.spare;
  }
  | in_default w ↦ absurd (true≢false (sym (w.in_default.ensures.found.1 (omega (arith, c.loop-i-test.true, c.len-i-end.ensures.len)))))
]

pub returns-clause-room : goal.returns-clause-room
returns-clause-room c =
    room_all c.args.patch.now.entries c.loop-i.rows.entries c.loop-i.i
    (λ j v r e. omega (arith, slice_get_within c.args.patch.now.entries j (v, r) e, c.loop-i-test.false, c.len-i-end.ensures.len))
    c.loop-i.invariant.done
