use Rattle.std.proofs.Common.{rules, ◌≡◌, ◌∙◌, ap, length, sym, subst}
use Rattle.std.specs.List.{AllByRecursion}
use Rattle.ifmap_ident.specs.Items.{IsCanonItem}
use Rattle.ifmap_delta.specs.Located.{AreNotesLocated, IsLocated}
use Rattle.ifmap_delta.specs.SeenViews.{view_seen}
use Rattle.ifmap_delta.proofs.InStep.{each_long}
use Rattle.ifmap_delta.proofs.noting.notes.Goals as goal

pub told_entries-requires-clause-marks : goal.told_entries-requires-clause-marks
told_entries-requires-clause-marks g c =
    (c.args.subscription.now.region.start, c.args.subscription.now.region.max_depth, c.requires.marks)

pub told_entries-requires-clause-canon : goal.told_entries-requires-clause-canon
told_entries-requires-clause-canon g c =
    let at : c.as_slice.result.now ≡ c.args.located.now.plan.now.notes = search rules
    in subst (AllByRecursion (λ n. IsCanonItem n.item)) (sym at) c.requires.canon

pub told_entries-requires-clause-located : goal.told_entries-requires-clause-located
told_entries-requires-clause-located g c =
    let new = view_seen g.D.View.rows g.D.View.id_at g.D.View.links c.args.draft.now
    in let at : c.as_slice.result.now ≡ c.args.located.now.plan.now.notes = search rules
    in let on : c.deref.result.now ≡ c.args.located.now.notes.items = search rules
    in subst (λ ns. AreNotesLocated new ns c.deref.result.now) (sym at)
    (subst (λ ls. AreNotesLocated new c.args.located.now.plan.now.notes ls) (sym on) c.requires.located)

pub told_entries-requires-clause-long : goal.told_entries-requires-clause-long
told_entries-requires-clause-long g c =
    let new = view_seen g.D.View.rows g.D.View.id_at g.D.View.links c.args.draft.now
    in let at : c.as_slice.result.now ≡ c.args.located.now.plan.now.notes = search rules
    in let on : c.deref.result.now ≡ c.args.located.now.notes.items = search rules
    in ap length on
    ∙ each_long (λ n l. IsLocated new n.item l) c.args.located.now.plan.now.notes c.args.located.now.notes.items c.requires.located
    ∙ ap length (sym at)
