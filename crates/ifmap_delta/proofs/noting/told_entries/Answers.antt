use Rattle.std.proofs.Common.{◌∙◌, ap, sym, ◌++◌, ◌∷◌, []}
use Rattle.ifmap_ident.specs.Items.{IsCanonItem}
use Rattle.ifmap_folds.specs.Notes.{told_notes}
use Rattle.ifmap_delta.specs.Located.{IsLocated}
use Rattle.ifmap_delta.specs.SeenViews.{view_seen}
use Rattle.ifmap_delta.proofs.Along.{notes_more}
use Rattle.ifmap_delta.proofs.InStep.{each_at}
use Rattle.ifmap_delta.proofs.noting.told_entries.Goals as goal
use Rattle.ifmap_lemmas.specs.Stepping.{member_holds}

pub add_told-requires-clause-canon : goal.add_told-requires-clause-canon
add_told-requires-clause-canon g c =
    member_holds (λ n. IsCanonItem n.item) c.args.notes.now c.loop-i.i c.index-notes-i.result c.loop-i-test.true
    c.index-notes-i.is c.requires.canon

pub add_told-requires-clause-located : goal.add_told-requires-clause-located
add_told-requires-clause-located g c =
    let view = c.args.after.now.view.now
    in each_at (λ n l. IsLocated (view_seen g.D.View.rows g.D.View.id_at g.D.View.links view) n.item l) c.args.notes.now
    c.args.located.now c.loop-i.i c.index-notes-i.result c.index-located-i.result c.requires.located c.loop-i-test.true
    c.index-notes-i.is c.index-located-i.is

pub loop-i-preserved : goal.loop-i-preserved
loop-i-preserved g c =
    let rows = g.D.View.rows c.args.after.now.view.now
    in let s = c.args.after.now.search.now
    in c.in_ok-add_told.ensures ∙ ap (λ l. l ++ told_notes rows s (c.index-notes-i.result ∷ [])) c.loop-i.invariant
    ∙ sym (notes_more rows s c.args.notes.now c.loop-i.i c.index-notes-i.result c.loop-i-test.true c.index-notes-i.is)
