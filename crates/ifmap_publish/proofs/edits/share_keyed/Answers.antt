use Rattle.std.proofs.Common.{◌∙◌, ◌∷◌, ◌++◌, [], ap, arith, take}
use Rattle.std.proofs.lemmas.List.{take_all}
use Rattle.ifmap_meta.specs.declared.stored.Stored.{Stored}
use Rattle.ifmap_publish.proofs.Gathering.{keyed_more, keyed_none, keyed_sorted, none_keyed}
use Rattle.ifmap_publish.proofs.edits.share_keyed.Goals as goal
use Rattle.ifmap_publish.proofs.edits.share_keyed.Goals.{in-Some+in_ok-share+in_ok-push, in_default}

pub loop-row-init : goal.loop-row-init
loop-row-init c = none_keyed c.args.rows.now c.requires.rows _ c.new-found.ensures.items

pub loop-row-preserved : goal.loop-row-preserved
loop-row-preserved c =
    elim c.match-row_with_key.branch [
      | in-Some+in_ok-share+in_ok-push w ↦
          keyed_more c.args.rows.now c.requires.rows c.args.keys.now
          c.loop-row.row-index c.row-item.result c.loop-row-test.true c.row-item.is c.requires.keys c.loop-row.found.items
          c.loop-row.invariant w.in-Some.other.now w.in-Some.ensures.found.0 w.in-Some.ensures.found.1 _
          (ap (λ v. v.items) w.found-is ∙ w.in_ok-push.ensures.items
          ∙ ap (λ (s : Stored). c.loop-row.found.items ++ s ∷ []) w.in_ok-share.ensures)
      | in_default w ↦
          keyed_none c.args.rows.now c.requires.rows c.args.keys.now
          c.loop-row.row-index c.row-item.result c.loop-row-test.true c.row-item.is c.requires.keys c.loop-row.found.items
          c.loop-row.invariant w.in_default.ensures.none _ (ap (λ v. v.items) w.found-is)
    ]

pub returns : goal.returns
returns c =
    keyed_sorted c.args.rows.now (take c.loop-row.row-index c.args.keys.now) c.args.keys.now c.loop-row.found.items _
    c.in_ok-sort_by.ensures.permutation (take_all c.loop-row.row-index c.args.keys.now (omega (arith, c.loop-row-test.false)))
    c.loop-row.invariant
