use Rattle.ifmap_rows.proofs.Keeping.{nothing_is_indexed}
use Rattle.ifmap_rows.proofs.rows.Rows.new.Goals as goal

pub invariant_of-result : goal.invariant_of-result
invariant_of-result c = rw (c.new.ensures.items, c.new-2.ensures.items) nothing_is_indexed
