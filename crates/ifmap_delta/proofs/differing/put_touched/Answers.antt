use Rattle.std.proofs.Common.{◌≡◌, ◌∙◌, ap, sym, ◌+◌, ◌++◌, [], ◌∷◌, take}
use Rattle.std.proofs.lemmas.List.{append-nil, append_assoc, take_more}
use Rattle.ifmap_delta.specs.Touched.{rows_touched_by}
use Rattle.ifmap_delta.proofs.differing.put_touched.Goals as goal

pub loop-row-init : goal.loop-row-init
loop-row-init c = record {
  rising = c.requires.found;
  found = λ earlier is. is ∙ ap (λ l. rows_touched_by l c.args.rows.now) (sym (append-nil earlier));
}

pub loop-row-preserved : goal.loop-row-preserved
loop-row-preserved c =
    let these = c.args.these.now
    in let i = c.loop-row.row-index
    in let x = c.row-item.result
    in let more : take i these ++ x ∷ [] ≡ take (i + 1) these
    = ap (λ y. take i these ++ y ∷ []) c.row-item.is ∙ sym (take_more these i x c.loop-row-test.true)
    in record {
      rising = c.in_ok-put_like.ensures.rising;
      found = λ earlier is. c.in_ok-put_like.ensures.found (earlier ++ take i these) (c.loop-row.invariant.found earlier is)
          ∙ ap (λ l. rows_touched_by l c.args.rows.now)
          (append_assoc earlier (take i these) (x ∷ []) ∙ ap (λ l. earlier ++ l) more);
    }
