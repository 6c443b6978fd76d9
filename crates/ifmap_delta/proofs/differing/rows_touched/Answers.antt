use Rattle.std.proofs.Common.{rules, ◌≡◌, ◌∙◌, ap, sym, subst, ◌++◌, []}
use Rattle.std.specs.List.Sorted.{IsStrictlySortedBy}
use Rattle.ifmap_lemmas.specs.Rising.{nothing_rises}
use Rattle.ifmap_view.specs.Attachments.{stored_order}
use Rattle.ifmap_delta.specs.Touched.{rows_touched_by}
use Rattle.ifmap_delta.proofs.Touching.{none_touched}
use Rattle.ifmap_delta.proofs.differing.rows_touched.Goals as goal

pub put_touched-requires-clause-found : goal.put_touched-requires-clause-found
put_touched-requires-clause-found c = subst (IsStrictlySortedBy stored_order) (sym c.new-found.ensures.items) (nothing_rises stored_order)

pub returns : goal.returns
returns c =
    let rows = c.args.rows.now
    in let removed : c.as_slice.result.now ≡ c.args.change.now.removed = search rules
    in let added : c.as_slice-2.result.now ≡ c.args.change.now.added = search rules
    in c.in_ok-put_touched-2.ensures.found c.as_slice.result.now
    (c.in_ok-put_touched.ensures.found [] (c.new-found.ensures.items ∙ sym (none_touched rows)))
    ∙ ap (λ l. rows_touched_by (l ++ c.as_slice-2.result.now) rows) removed
    ∙ ap (λ l. rows_touched_by (c.args.change.now.removed ++ l) rows) added
