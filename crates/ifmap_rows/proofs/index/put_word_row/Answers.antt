use Rattle.std.proofs.Common.{List, subst}
use Rattle.ifmap_meta.specs.declared.stored.Stored.{Stored}
use Rattle.ifmap_plans.specs.Placing.{IsEqualAt}
use Rattle.ifmap_rows.specs.Indexed.{word_order}
use Rattle.ifmap_rows.proofs.index.put_word_row.Goals as goal

pub returns-in-Ok : goal.returns-in-Ok
returns-in-Ok c =
    let at = subst (λ (xs : List Stored). IsEqualAt word_order c.args.worded xs c.in-Ok.spot) c.deref.ensures.value c.in-Ok.ensures in
    at.2
