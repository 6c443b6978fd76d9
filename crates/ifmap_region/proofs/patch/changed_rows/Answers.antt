use Rattle.std.proofs.Common.{sym, ◌∙◌, arith, true≢false}
use Rattle.ifmap_region.proofs.Patches.{each_same, only_put, each_put, each_past}
use Rattle.ifmap_region.proofs.patch.changed_rows.Goals as goal
use Rattle.ifmap_region.proofs.patch.changed_rows.Goals.{in-Some+then-not-is_same+in_ok-put, in-Some+else-not-is_same, in_default}

pub loop-i-preserved : goal.loop-i-preserved
loop-i-preserved c =
    let rows = c.args.rows.now.entries in
    let base = c.args.base.now.entries in
    elim c.match-get_index.branch [
      | in-Some+then-not-is_same+in_ok-put w ↦ rw w.changed-is record {
        only = only_put rows base c.loop-i.changed.entries w.put.new.rows.entries w.in-Some.number.now w.in-Some.row.now c.loop-i.i (sym
            w.in-Some.ensures.entry) w.in-Some.ensures.value w.in_ok-put.ensures.put
            (λ e. w.is_same.ensures.no w.if-not-is_same.true (e ∙ sym w.mark_in.ensures)) c.loop-i.invariant.only;
        each = each_put rows base c.loop-i.changed.entries w.put.new.rows.entries w.in-Some.number.now w.in-Some.row.now c.loop-i.i (sym
            w.in-Some.ensures.entry) w.in-Some.ensures.value w.in_ok-put.ensures.put
            c.loop-i.invariant.each;
      }
      | in-Some+else-not-is_same w ↦ rw w.changed-is record {
        only = c.loop-i.invariant.only;
        each = each_same rows base c.loop-i.changed.entries c.loop-i.changed.entries w.in-Some.number.now w.in-Some.row.now c.loop-i.i
            (sym w.in-Some.ensures.entry) w.in-Some.ensures.value
            (w.is_same.ensures.yes w.if-not-is_same.false ∙ w.mark_in.ensures) c.loop-i.invariant.each;
      }
      | in_default w ↦ absurd (true≢false (sym (w.in_default.ensures.found.1 (omega (
        arith,
        c.loop-i-test.true,
        c.len-i-end.ensures.len,
      )))))
    ]

pub returns-clause-only : goal.returns-clause-only
returns-clause-only c = c.loop-i.invariant.only

pub returns-clause-each : goal.returns-clause-each
returns-clause-each c = each_past c.args.rows.now.entries c.args.base.now.entries c.loop-i.changed.entries c.loop-i.i (omega (
  arith,
  c.loop-i-test.false,
  c.len-i-end.ensures.len,
)) c.loop-i.invariant.each
