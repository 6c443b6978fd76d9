use Rattle.std.proofs.Common.{◌≡◌, ◌∙◌, ap, sym, Bool, [], ◌∷◌, ◌++◌}
use Rattle.ifmap_lemmas.specs.Stepping.{kept_more, passed_more}
use Rattle.ifmap_meta.specs.declared.stored.Stored.{Stored}
use Rattle.ifmap_publish.specs.Retract.{is_of}
use Rattle.ifmap_publish.proofs.retracting.rows_of.Goals as goal
use Rattle.ifmap_publish.proofs.retracting.rows_of.Goals.{then-is_of+in_ok-share+in_ok-push, else-is_of}

pub loop-row-preserved : goal.loop-row-preserved
loop-row-preserved c =
    let p : Stored → Bool = is_of c.args.who.now in
    let i = c.loop-row.row-index in
    let x : Stored = c.row-item.result in
    let told : p x ≡ c.is_of.result = sym (c.is_of.ensures ∙ ap p c.stored_element.ensures) in
    elim c.if-is_of.branch [
      | then-is_of+in_ok-share+in_ok-push w ↦
          ap (λ v. v.items) w.list-is ∙ w.in_ok-push.ensures.items
          ∙ ap (λ (y : Stored). c.loop-row.list.items ++ y ∷ []) w.in_ok-share.ensures
          ∙ kept_more p c.args.rows.now i x c.loop-row-test.true c.row-item.is c.loop-row.list.items c.loop-row.invariant
          (told ∙ w.if-is_of.true)
      | else-is_of w ↦
          ap (λ v. v.items) w.list-is
          ∙ passed_more p c.args.rows.now i x c.loop-row-test.true c.row-item.is c.loop-row.list.items c.loop-row.invariant
          (told ∙ w.if-is_of.false)
    ]
