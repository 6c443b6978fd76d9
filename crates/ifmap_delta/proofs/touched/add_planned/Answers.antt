use Rattle.std.proofs.Common.{Bool, ◌∙◌, ap, sym, ◌++◌, ◌||◌, ◌∷◌, [], take, append_assoc}
use Rattle.ifmap_fresh.specs.Fresh.{is_looked_at}
use Rattle.ifmap_ident.specs.Items.{IsCanonItem}
use Rattle.ifmap_ident.specs.declared.items.Item.{Item}
use Rattle.ifmap_delta.specs.Located.{IsLocatedTwice}
use Rattle.ifmap_delta.specs.SeenViews.{view_seen}
use Rattle.ifmap_delta.specs.Touched.{planned_items}
use Rattle.ifmap_delta.proofs.Along.{planned_more}
use Rattle.ifmap_delta.proofs.InStep.{each_at}
use Rattle.ifmap_delta.proofs.touched.add_planned.Goals as goal
use Rattle.ifmap_lemmas.specs.Stepping.{member_holds}

pub add_changed-requires-clause-canon : goal.add_changed-requires-clause-canon
add_changed-requires-clause-canon g c =
    member_holds (λ d. IsCanonItem d.item) c.args.changes.now c.loop-i.i c.index-changes-i.result c.loop-i-test.true
    c.index-changes-i.is c.requires.canon

pub add_changed-requires-clause-located : goal.add_changed-requires-clause-located
add_changed-requires-clause-located g c =
    let old = view_seen g.G.View.rows g.G.View.id_at g.G.View.links c.args.before.now.view.now
    in let new = view_seen g.D.View.rows g.D.View.id_at g.D.View.links c.args.after.now.view.now
    in each_at (λ d l. IsLocatedTwice old new d.item l) c.args.changes.now c.args.located.now c.loop-i.i c.index-changes-i.result
    c.index-located-i.result c.requires.located c.loop-i-test.true c.index-changes-i.is c.index-located-i.is

pub loop-i-preserved : goal.loop-i-preserved
loop-i-preserved g c =
    let changes = c.args.changes.now
    in let p : Item → Bool = λ x. is_looked_at (g.G.View.rows c.args.before.now.view.now) c.args.before.now.search.now x
    || is_looked_at (g.D.View.rows c.args.after.now.view.now) c.args.after.now.search.now x
    in let one = planned_items p (c.index-changes-i.result ∷ [])
    in c.in_ok-add_changed.ensures ∙ ap (λ l. l ++ one) c.loop-i.invariant
    ∙ append_assoc c.args.items.now.items (planned_items p (take c.loop-i.i changes)) one
    ∙ sym (ap (λ l. c.args.items.now.items ++ l)
    (planned_more p changes c.loop-i.i c.index-changes-i.result c.loop-i-test.true c.index-changes-i.is))
