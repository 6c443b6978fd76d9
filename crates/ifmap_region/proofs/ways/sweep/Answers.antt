use Rattle.std.proofs.Common.{sym, arith, true≢false}
use Rattle.std.proofs.lemmas.Option.{slice_get_within}
use Rattle.ifmap_region.proofs.Exchange.{out_same, each_swept, out_swept, swept_all}
use Rattle.ifmap_region.proofs.ways.sweep.Goals as goal
use Rattle.ifmap_region.proofs.ways.sweep.Goals.{in-Some+then-has_bare_row, in-Some+else-has_bare_row, in_default}

pub loop-i-preserved : goal.loop-i-preserved
loop-i-preserved c = elim c.match-get_index.branch [
  | in-Some+then-has_bare_row w ↦ rw w.rows-is record {
    each = each_swept c.args.patch.now.entries c.args.rows.now.entries c.loop-i.rows.entries w.swap_remove.new.self.entries
        w.in-Some.number.now _ c.loop-i.i (sym w.in-Some.ensures.entry) w.in-Some.ensures.value
        c.loop-i.invariant.each c.loop-i.invariant.out (w.has_bare_row.ensures.yes w.if-has_bare_row.true) w.swap_remove.ensures.updates.0;
    out = out_swept c.args.patch.now.entries c.args.rows.now.entries c.loop-i.rows.entries w.swap_remove.new.self.entries
        w.in-Some.number.now _ c.loop-i.i (sym w.in-Some.ensures.entry) w.in-Some.ensures.value
        c.loop-i.invariant.each c.loop-i.invariant.out (w.has_bare_row.ensures.yes w.if-has_bare_row.true) w.swap_remove.ensures.updates.0;
  }
  | in-Some+else-has_bare_row w ↦ rw w.rows-is record {
    each = c.loop-i.invariant.each;
    out = out_same c.args.patch.now.entries c.args.rows.now.entries c.loop-i.rows.entries c.loop-i.rows.entries w.in-Some.number.now _
        c.loop-i.i (sym w.in-Some.ensures.entry) w.in-Some.ensures.value
        c.loop-i.invariant.each c.loop-i.invariant.out (w.has_bare_row.ensures.no w.if-has_bare_row.false);
  }
  | in_default w ↦ absurd (true≢false (sym (w.in_default.ensures.found.1 (omega (arith, c.loop-i-test.true, c.len-i-end.ensures.len)))))
]

pub returns : goal.returns
returns c =
    swept_all c.args.patch.now.entries c.args.rows.now.entries c.loop-i.rows.entries c.loop-i.i
    (λ j v r e. omega (arith, slice_get_within c.args.patch.now.entries j (v, r) e, c.loop-i-test.false, c.len-i-end.ensures.len))
    c.loop-i.invariant.each c.loop-i.invariant.out
