use Rattle.std.proofs.Common.{inr, arith}
use Rattle.ifmap_session.proofs.RowLaws.{few_rows}
use Rattle.ifmap_session.proofs.rows.widen.Goals as goal

pub set_row_moments-requires-clause-within : goal.set_row_moments-requires-clause-within
set_row_moments-requires-clause-within c =
    let l = few_rows c.args.rows.now.items c.drop_empty.new.rows.items c.args.live c.drop_empty.ensures.items c.requires.counts in
    let w = c.next_width-width.ensures.wide in
    rw c.deref.ensures.value (omega arith)

pub returns-clause-last_moments : goal.returns-clause-last_moments
returns-clause-last_moments c =
    let l = few_rows c.args.rows.now.items c.drop_empty.new.rows.items c.args.live c.drop_empty.ensures.items c.requires.counts in
    let w = c.next_width-width.ensures.wide in
    record {
      lesser = c.set_row_moments.ensures.tree;
      power = inr c.next_width-width.ensures.power;
      few = c.next_width-width.ensures.few;
      within = omega arith;
      has_moments = rw c.deref.ensures.value at c.set_row_moments.ensures.has_moments;
    }

pub returns-clause-wide : goal.returns-clause-wide
returns-clause-wide c =
    let l = few_rows c.args.rows.now.items c.drop_empty.new.rows.items c.args.live c.drop_empty.ensures.items c.requires.counts in
    let w = c.next_width-width.ensures.wide in
    omega arith
