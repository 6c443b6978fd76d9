-- An item's shelf goes: the others stand where they stood.
use Rattle.std.proofs.Common.{◌≡◌, ◌≢◌, ℕ, Bool, true, false, cond, Option, Some, None, [], ◌∷◌, refl, ◌∙◌, sym, subst, inl, inr}
use Rattle.std.proofs.lemmas.Option.{none-some}
use Rattle.std.specs.BTreeMap.{is_at}
use Rattle.std.specs.Map.{lookup, remove_entry}
use Rattle.slab.specs.Slab.{get}
use Rattle.ifmap_lemmas.specs.Having.{Has, all_has, has_all}
use Rattle.ifmap_ident.specs.declared.items.Item.{Item}
use Rattle.ifmap_ident.specs.Items.{item_order}
use Rattle.ifmap_graph.specs.declared.shelves.Shelf.{Shelf}
use Rattle.ifmap_graph.specs.declared.shelves.Shelves.{Shelves}
use Rattle.ifmap_graph.specs.Drafted.{AreBare, NoDraft}
use Rattle.ifmap_graph.specs.Shelved.{AreShelved, IsPlaced, ItemsRise, slot_of_item}
use Rattle.ifmap_graph.proofs.Following.{entry_hits, lookup_tied, looked_up}
use Rattle.ifmap_graph.proofs.Leaving.{removed_has, slots_kept}
use Rattle.ifmap_graph.proofs.Shelving.{Entries}
use Rattle.ifmap_graph.proofs.Writes.{other_slot}

-- entries that are left were there
has_left : (test : Item → Bool) (es : Entries) (x : Item × ℕ) → Has (remove_entry test es) x → Has es x
has_left test [] x h = h
has_left test (e ∷ es) x h = by (test e.0) (has_left test es x) h
  where
    by : (b : Bool) → (Has (remove_entry test es) x → Has es x) → Has (cond b es (e ∷ remove_entry test es)) x → Has (e ∷ es) x
    by true rest h = inr h
    by false rest (inl p) = inl p
    by false rest (inr h) = inr (rest h)

module _ (es new : Entries) (look later : ℕ → Option Shelf) (item : Item) (at : ℕ) (is : IsPlaced look es)
    (here : lookup (is_at (item_order item)) es ≡ Some at)
    (gone : later at ≡ None) (others : (o : ℕ) → o ≢ at → later o ≡ look o) (removes : new ≡ remove_entry (is_at (item_order item)) es)
    (rises : ItemsRise new) where
  -- the shelf that an item has stood there before
  pub was_there : (x : Item) (n : ℕ) → lookup (is_at (item_order x)) new ≡ Some n → (lookup (is_at (item_order x)) es ≡ Some n)
      × (later n ≡ look n)
  was_there x n e =
      let h = looked_up new x n e
      in let i : Has es (h.0, n) = has_left (is_at (item_order item)) es (h.0, n) (subst (λ l. Has l (h.0, n)) removes h.1)
      in (
        lookup_tied x h.0 es h.2 ∙ entry_hits es h.0 n is.rising i,
        all_has (λ e. later e.1 ≡ look e.1) new (slots_kept es new look later item at is here gone others removes rises) (h.0, n) h.1,
      )

  -- the shelf of another item stays
  pub stays_there : (x : Item) → is_at (item_order item) x ≡ false → lookup (is_at (item_order x)) new ≡ lookup (is_at (item_order x)) es
  stays_there x f = by (lookup (is_at (item_order x)) es) refl (lookup (is_at (item_order x)) new) refl
    where
      by : (o : Option ℕ) → lookup (is_at (item_order x)) es ≡ o → (p : Option ℕ) → lookup (is_at (item_order x)) new ≡ p
          → lookup (is_at (item_order x)) new ≡ lookup (is_at (item_order x)) es
      by None e None q = q ∙ sym e
      by None e (Some n) q = absurd (none-some _ (sym e ∙ (was_there x n q).0))
      by (Some n) e p q =
          let h = looked_up es x n e
          in lookup_tied x h.0 new h.2
          ∙ entry_hits new h.0 n rises
          (subst (λ l. Has l (h.0, n)) (sym removes) (removed_has (is_at (item_order item)) es at n h.0 here
          (other_slot es item at is.apart here x n f e) h.1))
          ∙ sym e

module _ (s t : Shelves)
    (before : (x : Item) (at : ℕ) → slot_of_item t x ≡ Some at → (slot_of_item s x ≡ Some at) × (get t.slots at ≡ get s.slots at)) where
  -- where no shelf had a draft, none has
  pub bare_left : AreShelved t → AreBare s → AreBare t
  bare_left is b = has_all (λ e. NoDraft (get t.slots e.1)) t.places.entries (λ e h.
      let p = before e.0 e.1 (entry_hits t.places.entries e.0 e.1 is.rising h)
      in let q = looked_up s.places.entries e.0 e.1 p.0
      in subst NoDraft (sym p.1) (all_has (λ e. NoDraft (get s.slots e.1)) s.places.entries b (q.0, e.1) q.1))
