-- Shelves that nobody waits for have something on them: so it stays where an item is waited for once less, and the shelf goes that is empty
-- then.
use Rattle.std.proofs.Common.{◌≡◌, ◌≢◌, ◌⊎◌, ◌<◌, true, false, IsSome, [], ◌∷◌, ap, ◌∙◌, sym, subst, inl, inr, arith}
use Rattle.std.proofs.lemmas.Bool.{cases_Bool}
use Rattle.std.specs.BTreeMap.{is_at}
use Rattle.std.specs.Map.{lookup}
use Rattle.std.specs.Cmp.{Equal-is}
use Rattle.slab.specs.Slab.{get}
use Rattle.ifmap_ident.specs.declared.items.Item.{Item}
use Rattle.ifmap_ident.specs.Items.{item_order}
use Rattle.ifmap_view.specs.Rows.{stored_on}
use Rattle.ifmap_graph.specs.declared.shelves.Shelves.{Shelves}
use Rattle.ifmap_graph.specs.Bringing.{BringsShelves}
use Rattle.ifmap_graph.specs.Releasing.{AreFilled}
use Rattle.ifmap_graph.specs.Shelved.{slot_of_item, rows_on_side}
use Rattle.ifmap_graph.specs.Sides.{list_now}
use Rattle.ifmap_graph.specs.Waits.{WaitsFor, waits_on, waits_there}
use Rattle.ifmap_graph.proofs.Brought.{other_absent}
use Rattle.ifmap_graph.proofs.Following.{lookup_tied}
use Rattle.ifmap_plans.specs.laws.OnItemLaws.{stored_tied}

-- items that tie are waited for alike
waits_tied : (s : Shelves) (x y : Item) → is_at (item_order x) y ≡ true → waits_on s x ≡ waits_on s y
waits_tied s x y t = ap (waits_there (get s.slots)) (lookup_tied x y s.places.entries ((Equal-is (item_order x y)).0 t))

module _ (s t : Shelves) (item : Item) (places : t.places ≡ s.places) (rows : rows_on_side list_now t ≡ rows_on_side list_now s)
    (waits : WaitsFor (item ∷ []) t s) where
  had_place : (x : Item) → IsSome (slot_of_item t x) → IsSome (slot_of_item s x)
  had_place x h = subst IsSome (ap (λ p. lookup (is_at (item_order x)) p.entries) places) h

  -- what is stored on another item, which is not waited for
  filled_else : AreFilled s → (x : Item) → is_at (item_order item) x ≡ false → IsSome (slot_of_item t x) → waits_on t x ≡ 0
      → stored_on x (rows_on_side list_now s) ≢ []
  filled_else f x other place none =
      let w = rw other at (waits x)
      in f x (had_place x place) (omega (arith, w, none))

  pub filled_still : (0 < waits_on t item) ⊎ (stored_on item (rows_on_side list_now s) ≢ []) → AreFilled s → AreFilled t
  filled_still why f x place none = elim (cases_Bool (is_at (item_order item) x)) [
    | inr other ↦ λ e. filled_else f x other place none (sym (ap (stored_on x) rows) ∙ e)
    | inl tie ↦ elim why [
      | inl some ↦ absurd (omega (arith, some, none, waits_tied t item x tie))
      | inr full ↦ λ e. full (stored_tied item x (rows_on_side list_now s) ((Equal-is (item_order item x)).0 tie)
          ∙ sym (ap (stored_on x) rows) ∙ e)
    ]
  ]

  pub filled_less : (u : Shelves) → BringsShelves (item ∷ []) u t → rows_on_side list_now u ≡ rows_on_side list_now t → AreFilled s
      → AreFilled u
  filled_less u taken less f x place none =
      let other = other_absent u (item ∷ []) x taken.absent place
      in λ e. filled_else f x other.0 (subst IsSome (sym (taken.places x other)) place) (taken.waits x ∙ none)
      (sym (ap (stored_on x) (less ∙ rows)) ∙ e)
