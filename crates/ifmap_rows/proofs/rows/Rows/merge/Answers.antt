use Rattle.std.proofs.Common.{◌≡◌, ap, subst, sym, ◌∙◌, List}
use Rattle.ifmap_meta.specs.declared.stored.Stored.{Stored}
use Rattle.ifmap_plans.specs.Lists.{list_without, put_each}
use Rattle.ifmap_rows.proofs.Joining.{index_apart, joined_keeps}
use Rattle.ifmap_rows.proofs.rows.Rows.merge.Goals as goal

pub merge_rows-requires-clause-apart : goal.merge_rows-requires-clause-apart
merge_rows-requires-clause-apart c =
    subst (λ (l : List Stored). list_without c.args.added.now l ≡ l) (sym (c.by_bytes.view_is ∙ c.replace.ensures.value)) c.requires.apart

pub merge_index-requires-clause-apart : goal.merge_index-requires-clause-apart
merge_index-requires-clause-apart c =
    index_apart c.by_bytes.inside.by_bytes.items c.by_bytes.inside.by_word.items c.args.added.now c.by_bytes.invariant
    (subst (λ (l : List Stored). list_without c.args.added.now l ≡ l) (sym (c.by_bytes.view_is ∙ c.replace.ensures.value)) c.requires.apart)

pub invariant_of-self : goal.invariant_of-self
invariant_of-self c =
    rw c.in_ok-merge_rows.ensures (joined_keeps c.by_bytes.inside.by_bytes.items c.by_bytes.inside.by_word.items c.args.added.now
    c.in_ok-by_word.by_word.items c.by_bytes.invariant c.requires.added c.in_ok-by_word.ensures)

pub returns : goal.returns
returns c = c.in_ok-merge_rows.ensures ∙ ap (put_each c.args.added.now) (c.by_bytes.view_is ∙ c.replace.ensures.value)
