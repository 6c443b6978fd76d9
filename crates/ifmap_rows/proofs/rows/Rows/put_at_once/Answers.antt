use Rattle.std.proofs.Common.{ap, ◌∙◌}
use Rattle.ifmap_plans.specs.Lists.{put_each}
use Rattle.ifmap_rows.proofs.Joining.{joined_keeps}
use Rattle.ifmap_rows.proofs.rows.Rows.put_at_once.Goals as goal

pub invariant_of-self : goal.invariant_of-self
invariant_of-self c =
    rw c.in_ok-join_rows.ensures (joined_keeps c.by_bytes.inside.by_bytes.items c.by_bytes.inside.by_word.items c.args.added.now
    c.in_ok-by_word.by_word.items c.by_bytes.invariant c.requires c.in_ok-by_word.ensures)

pub returns : goal.returns
returns c = c.in_ok-join_rows.ensures ∙ ap (put_each c.args.added.now) (c.by_bytes.view_is ∙ c.replace.ensures.value)
