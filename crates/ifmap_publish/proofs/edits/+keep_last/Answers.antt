use Rattle.std.proofs.Common.{◌∙◌, [], arith, subst, sym}
use Rattle.std.specs.List.{AllByRecursion}
use Rattle.ifmap_meta.specs.Whole.{IsWhole}
use Rattle.ifmap_publish.specs.OnItems.{attach_all}
use Rattle.ifmap_publish.specs.Working.{over_keys}
use Rattle.ifmap_publish.proofs.Gathering.{halves, last_sound, whole_parts}
use Rattle.ifmap_publish.proofs.edits.+keep_last.Goals as goal

pub keep_last-requires : goal.keep_last-requires
keep_last-requires t c = (
  omega arith,
  (whole_parts c.split_at.result.0.now c.split_at.result.1.now
      (subst (AllByRecursion IsWhole) c.split_at.ensures.by_index.0 c.requires)).0,
)

pub keep_last-requires-2 : goal.keep_last-requires-2
keep_last-requires-2 t c = (
  omega arith,
  (whole_parts c.split_at.result.0.now c.split_at.result.1.now
      (subst (AllByRecursion IsWhole) c.split_at.ensures.by_index.0 c.requires)).1,
)

pub put_over_keys-requires-clause-put : goal.put_over_keys-requires-clause-put
put_over_keys-requires-clause-put t c =
    let parts = whole_parts c.split_at.result.0.now c.split_at.result.1.now
    (subst (AllByRecursion IsWhole) c.split_at.ensures.by_index.0 c.requires) in
    last_sound c.split_at.result.0.now c.in_ok-last.last parts.0 c.in_ok-last.ensures

pub put_over_keys-requires-clause-more : goal.put_over_keys-requires-clause-more
put_over_keys-requires-clause-more t c =
    let parts = whole_parts c.split_at.result.0.now c.split_at.result.1.now
    (subst (AllByRecursion IsWhole) c.split_at.ensures.by_index.0 c.requires) in
    subst (AllByRecursion IsWhole) (sym c.as_slice.ensures.rows)
    (last_sound c.split_at.result.1.now c.in_ok-more.more parts.1 c.in_ok-more.ensures).whole

pub returns : goal.returns
returns t c =
    let parts = whole_parts c.split_at.result.0.now c.split_at.result.1.now
    (subst (AllByRecursion IsWhole) c.split_at.ensures.by_index.0 c.requires) in
    c.in_ok-put_over_keys.ensures
    ∙ (λ i. over_keys (c.in_ok-last.ensures i) ((c.as_slice.ensures.rows ∙ c.in_ok-more.ensures) i))
    ∙ halves c.split_at.result.0.now c.split_at.result.1.now parts.0 parts.1
    ∙ (λ i. attach_all [] (sym c.split_at.ensures.by_index.0 i))
