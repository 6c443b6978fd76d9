use Rattle.std.proofs.Common.{◌∙◌, ◌∷◌, ◌++◌, [], ap, arith, take}
use Rattle.std.proofs.lemmas.List.{take_all}
use Rattle.ifmap_meta.specs.declared.stored.Stored.{Stored}
use Rattle.ifmap_view.specs.Rows.{stored_on}
use Rattle.ifmap_publish.proofs.Gathering.{keyed_more, keyed_none, keyed_sorted, none_keyed}
use Rattle.ifmap_publish.proofs.Graphs.{sound_on}
use Rattle.ifmap_publish.proofs.edits.share_stored.Goals as goal
use Rattle.ifmap_publish.proofs.edits.share_stored.Goals.{in-Some+in_ok-share+in_ok-push, in_default}

pub loop-row-init : goal.loop-row-init
loop-row-init g c =
    let rows = g.V.View.rows c.args.view.now in
    none_keyed (stored_on c.args.item.now rows) (sound_on c.args.item.now rows c.requires.graph c.requires.whole) _
    c.new-found.ensures.items

pub loop-row-preserved : goal.loop-row-preserved
loop-row-preserved g c =
    let rows = g.V.View.rows c.args.view.now in
    elim c.match-row_with_key.branch [
      | in-Some+in_ok-share+in_ok-push w ↦
          keyed_more (stored_on c.args.item.now rows) (sound_on c.args.item.now rows c.requires.graph c.requires.whole) c.args.keys.now
          c.loop-row.row-index c.row-item.result c.loop-row-test.true c.row-item.is c.requires.keys c.loop-row.found.items
          c.loop-row.invariant w.in-Some.other.now w.in-Some.ensures.found.0 w.in-Some.ensures.found.1 _
          (ap (λ v. v.items) w.found-is ∙ w.in_ok-push.ensures.items
          ∙ ap (λ (s : Stored). c.loop-row.found.items ++ s ∷ []) w.in_ok-share.ensures)
      | in_default w ↦
          keyed_none (stored_on c.args.item.now rows) (sound_on c.args.item.now rows c.requires.graph c.requires.whole) c.args.keys.now
          c.loop-row.row-index c.row-item.result c.loop-row-test.true c.row-item.is c.requires.keys c.loop-row.found.items
          c.loop-row.invariant w.in_default.ensures.none _ (ap (λ v. v.items) w.found-is)
    ]

pub returns : goal.returns
returns g c =
    let rows = g.V.View.rows c.args.view.now in
    keyed_sorted (stored_on c.args.item.now rows) (take c.loop-row.row-index c.args.keys.now) c.args.keys.now c.loop-row.found.items _
    c.in_ok-sort_by.ensures.permutation (take_all c.loop-row.row-index c.args.keys.now (omega (arith, c.loop-row-test.false)))
    c.loop-row.invariant
