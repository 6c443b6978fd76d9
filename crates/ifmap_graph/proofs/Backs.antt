-- Ways back stay where what is stored and the links do, and each shelf that a way back needs.
use Rattle.std.proofs.Common.{◌≡◌, ◌≢◌, ℕ, zero, suc, ◌≤◌, List, [], length, refl, ap, ◌∙◌, sym, subst, arith, ◌∷◌, inl, inr}
use Rattle.ifmap_ident.specs.declared.items.Item.{Item}
use Rattle.ifmap_view.specs.declared.attachments.Attachment.{Attachment}
use Rattle.ifmap_view.specs.declared.views.LinkSeen.{LinkSeen}
use Rattle.ifmap_view.specs.Rows.{stored_on}
use Rattle.ifmap_graph.specs.declared.changes.Undo.{Undo}
use Rattle.ifmap_graph.specs.Back.{AreLinks, AreBothEnds, IsUndoTo, KeepsBacks, KeepsOtherBacks, stand_each}
use Rattle.ifmap_graph.specs.Inside.{GraphInside}
use Rattle.ifmap_graph.specs.Out.{items_changed}
use Rattle.ifmap_graph.specs.Seen.{AreAwaited, AwaitsLess, AwaitsMore, links_now, rows_now}
use Rattle.ifmap_graph.specs.Stays.{HasSameShelf, StayPlaced}
use Rattle.ifmap_graph.specs.Waits.{times_in}
use Rattle.ifmap_graph.proofs.Turns.{restored_alike, still_within}
use Rattle.std.proofs.lemmas.Bool.{cases_Bool}
use Rattle.std.specs.BTreeMap.{is_at}
use Rattle.ifmap_ident.specs.Items.{item_order}
use Rattle.ifmap_meta.specs.declared.stored.Stored.{Stored}

-- links stay where the shelves of all that has something stay
pub links_stay : (rows : List Attachment) (links : ℕ → List LinkSeen) (old new : GraphInside)
    → ((x : Item) → stored_on x rows ≢ [] → HasSameShelf old new x)
    → AreLinks rows links old → AreLinks rows links new
links_stay rows links old new f is = record {
  only = λ v seen c.
      let p = is.only v seen c
      in let t = f p.0 p.3
      in (p.0, t.0 ∙ p.1, subst (λ o. AreBothEnds o v seen.other) (sym t.1) p.2, p.3);
  each = λ x v w at e two full.
      let t = f x full
      in is.each x v w at (sym t.0 ∙ e) (subst (λ o. AreBothEnds o v w) t.1 two) full;
  once = is.once;
}

-- lists that stand on these items stand on no other
pub stand_others : (items : List Item) (lists : List (List Stored)) (x : Item) (before : List Stored) → times_in items x ≡ 0
    → stand_each items lists x before ≡ before
stand_others [] lists x before e = refl
stand_others (i ∷ is) [] x before e = refl
stand_others (i ∷ is) (l ∷ ls) x before e = elim (cases_Bool (is_at (item_order i) x)) [
  | inl t ↦ let some = rw t at e in absurd (omega (arith, some))
  | inr f ↦ let rest = rw f at e in rw f (stand_others is ls x before (omega (arith, rest)))
]

module _ (old new : GraphInside) (rows : rows_now new ≡ rows_now old) (links : (v : ℕ) → links_now new v ≡ links_now old v)
    (long : length old.links ≤ length new.links) (stay : StayPlaced old new) where
  -- where the items of a way back are still waited for, it stays
  pub back_stays : (u : Undo) (before : List Attachment) (seen : ℕ → List LinkSeen) → AreAwaited (items_changed u.plan.changes) new
      → IsUndoTo u before seen old → IsUndoTo u before seen new
  back_stays u before seen waits b = record {
    graph = b.graph;
    stored = λ x. b.stored x ∙ ap (λ r. stand_each (items_changed u.plan.changes) u.lists x (stored_on x r)) (sym rows);
    linked = λ v. b.linked v ∙ sym (restored_alike u.ways old.links new.links links long v b.within);
    slots = links_stay before seen old new there b.slots;
    lists = b.lists;
    within = still_within u.ways (length old.links) (length new.links) long b.within;
    waits = waits;
  }
    where
      there : (x : Item) → stored_on x before ≢ [] → HasSameShelf old new x
      there x n = by (times_in (items_changed u.plan.changes) x) refl
        where
          by : (t : ℕ) → times_in (items_changed u.plan.changes) x ≡ t → HasSameShelf old new x
          by zero e =
              let same : stored_on x before ≡ stored_on x (rows_now old)
              = b.stored x ∙ stand_others (items_changed u.plan.changes) u.lists x (stored_on x (rows_now old)) e
              in stay.full x (λ q. n (same ∙ q)) (λ q. n (same ∙ ap (stored_on x) (sym rows) ∙ q))
          by (suc k) e = stay.waited x (omega (arith, b.waits x, e)) (omega (arith, waits x, e))

  -- ways back stay, and so do those of which the items are waited for beside these
  pub keeps_backs : AwaitsMore [] old new → KeepsBacks old new
  keeps_backs more u before seen b = back_stays u before seen (more (items_changed u.plan.changes) b.waits) b

  pub keeps_other_backs : (items : List Item) → AwaitsLess items old new → KeepsOtherBacks items old new
  keeps_other_backs items less u before seen waits b = back_stays u before seen (less (items_changed u.plan.changes) waits) b

-- one after the other: where a change comes to be out, and is given up again
pub keeps_both : (items : List Item) (old mid new : GraphInside) → AwaitsMore items old mid → KeepsBacks old mid
    → KeepsOtherBacks items mid new → KeepsBacks old new
keeps_both items old mid new more one other u rows links b = other u rows links (more (items_changed u.plan.changes) b.waits)
    (one u rows links b)
