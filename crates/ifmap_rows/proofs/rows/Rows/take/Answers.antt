use Rattle.ifmap_rows.proofs.Keeping.{take_keeps}
use Rattle.ifmap_rows.proofs.rows.Rows.take.Goals as goal

pub invariant_of-self : goal.invariant_of-self
invariant_of-self c =
    rw (c.take_row.ensures.rows, c.take_word_row-in-Some.ensures.rows, c.new.ensures) (take_keeps c.self.inside.by_bytes.items
    c.self.inside.by_word.items c.self.invariant c.args.row.now c.in-Some.taken c.in-Some.ensures.taken.0 c.in-Some.ensures.taken.1)
