use Rattle.std.proofs.Common.{◌∙◌, ap, sym, not, Bool, [], ◌∷◌, ◌++◌}
use Rattle.std.specs.List.{list_any}
use Rattle.std.specs.Ordering.{eq_by_cmp}
use Rattle.ifmap_lemmas.specs.Stepping.{kept_more, passed_more}
use Rattle.ifmap_meta.specs.declared.stored.Stored.{Stored}
use Rattle.ifmap_plans.specs.ifmap_view.Attachments.{stored_order}
use Rattle.ifmap_rows.proofs.index.share_others_in_index.Goals as goal
use Rattle.ifmap_rows.proofs.index.share_others_in_index.Goals.{then-not-is_among+in_ok-share+in_ok-push, else-not-is_among}

pub loop-worded-preserved : goal.loop-worded-preserved
loop-worded-preserved c =
    let p : Stored → Bool = λ s. not (list_any (λ r. eq_by_cmp stored_order r s) c.args.removed.now) in
    let i = c.loop-worded.worded-index in
    let x : Stored = c.worded-item.result in
    let same = ap (λ (s : Stored). list_any (λ r. eq_by_cmp stored_order r s) c.args.removed.now) (sym c.row.ensures) in
    elim c.if-not-is_among.branch [
      | then-not-is_among+in_ok-share+in_ok-push w ↦
          ap (λ v. v.items) w.others-is ∙ w.in_ok-push.ensures.items
          ∙ ap (λ (y : Stored). c.loop-worded.others.items ++ y ∷ []) w.in_ok-share.ensures
          ∙ kept_more p c.args.index.now i x c.loop-worded-test.true c.worded-item.is c.loop-worded.others.items c.loop-worded.invariant
          (ap not (same ∙ sym c.is_among.ensures ∙ w.if-not-is_among.true))
      | else-not-is_among w ↦
          ap (λ v. v.items) w.others-is
          ∙ passed_more p c.args.index.now i x c.loop-worded-test.true c.worded-item.is c.loop-worded.others.items c.loop-worded.invariant
          (ap not (same ∙ sym c.is_among.ensures ∙ w.if-not-is_among.false))
    ]
