use Rattle.std.proofs.Common.{sym, ap, ◌∙◌, arith, true≢false}
use Rattle.std.proofs.lemmas.List.{take_all}
use Rattle.ifmap_lemmas.specs.Absent.{none_where_not_some}
use Rattle.ifmap_region.specs.Ways.{missing_count}
use Rattle.ifmap_region.proofs.Missing.{missing_yes, missing_no}
use Rattle.ifmap_region.proofs.ways.count_missing.Goals as goal
use Rattle.ifmap_region.proofs.ways.count_missing.Goals.{in-Some+then-not-has_row, in-Some+else-not-has_row, in_default}

pub loop-i-preserved : goal.loop-i-preserved
loop-i-preserved c = elim c.match-get_index.branch [
  | in-Some+then-not-has_row w ↦ rw w.count-is
      (missing_yes c.args.rows.now.entries c.args.patch.now.entries c.loop-i.i w.in-Some.number.now _ _ (sym w.in-Some.ensures.entry)
      (none_where_not_some _ (sym w.has_row.ensures ∙ w.if-not-has_row.true)) c.loop-i.invariant)
  | in-Some+else-not-has_row w ↦ rw w.count-is
      (missing_no c.args.rows.now.entries c.args.patch.now.entries c.loop-i.i w.in-Some.number.now _ _ (sym w.in-Some.ensures.entry)
      (sym w.has_row.ensures ∙ w.if-not-has_row.false) c.loop-i.invariant)
  | in_default w ↦ absurd (true≢false (sym (w.in_default.ensures.found.1 (omega (arith, c.loop-i-test.true, c.len-i-end.ensures.len)))))
]

pub returns : goal.returns
returns c =
    c.loop-i.invariant
    ∙ ap (missing_count c.args.rows.now.entries) (take_all c.loop-i.i c.args.patch.now.entries (omega (
      arith,
      c.loop-i-test.false,
      c.len-i-end.ensures.len,
    )))
