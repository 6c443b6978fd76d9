use Rattle.std.proofs.Common.{◌∙◌, ap, sym, subst, drop, length, slice_get}
use Rattle.std.proofs.lemmas.Result.{on_ok_weaker}
use Rattle.ifmap_lemmas.specs.Fronts.{front_taken}
use Rattle.ifmap_tellings.specs.ifmap_delta.SeenViews.{IsUpToDate}
use Rattle.ifmap_graph.specs.Inside.{GraphInside}
use Rattle.ifmap_changes.specs.Changes.{seen_next}
use Rattle.ifmap_changes.proofs.changes.tell_standing.Goals as goal

pub tell_change-requires-clause-can : goal.tell_change-requires-clause-can
tell_change-requires-clause-can g c = record {
  flags = c.requires.flags ∙ sym (ap length c.deref_mut.ensures.value);
  kept = λ i x e f. c.requires.kept i x (ap (λ l. slice_get l i) (sym c.deref_mut.ensures.value) ∙ e) f;
}

pub returns-clause-kept : goal.returns-clause-kept
returns-clause-kept g c =
    let new = c.tell_change.new.standing
    in let front = front_taken c.args.parts.now.standing.len new (drop (length new) c.args.parts.now.standing.items)
    (c.tell_change.ensures.same.long ∙ c.deref_mut.ensures.len)
    in on_ok_weaker c.tell_change.result
    (λ f i x e flag. subst (λ (h : GraphInside). IsUpToDate (seen_next h) x.subscription) c.of-draft.ensures
    (f.kept i x (ap (λ l. slice_get l i) (sym front) ∙ e) flag)) c.tell_change.ensures.brought
