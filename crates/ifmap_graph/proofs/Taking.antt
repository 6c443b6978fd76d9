-- A change that was made can be taken back: what was there stands in its lists, and nothing else has changed.
use Rattle.std.proofs.Common.{◌≡◌, ℕ, ◌+◌, true, Option, Some, None, List, [], ◌∷◌, map, length, refl, ap, ◌∙◌, sym, subst, inl, inr, arith}
use Rattle.std.proofs.lemmas.Bool.{cases_Bool}
use Rattle.std.proofs.lemmas.List.{length-map}
use Rattle.std.specs.BTreeMap.{is_at}
use Rattle.std.specs.Ordering.{is_eq}
use Rattle.std.specs.declared.cmp.Ordering.TheVariants.{Equal}
use Rattle.std.proofs.lemmas.Simd.{map-map}
use Rattle.std.specs.Cmp.{Equal-is}
use Rattle.slab.specs.Slab.{get}
use Rattle.ifmap_lemmas.specs.Having.{Has}
use Rattle.ifmap_ident.specs.declared.identifiers.Identifier.{Identifier}
use Rattle.ifmap_ident.specs.declared.items.Item.{Item}
use Rattle.ifmap_ident.specs.Items.{item_order}
use Rattle.ifmap_meta.specs.declared.stored.Stored.{Stored}
use Rattle.ifmap_plans.specs.declared.plans.ItemChange.{ItemChange}
use Rattle.ifmap_pool.specs.Holdings.{Holdings}
use Rattle.ifmap_view.specs.declared.attachments.Attachment.{Attachment}
use Rattle.ifmap_view.specs.declared.views.LinkSeen.{LinkSeen}
use Rattle.ifmap_view.specs.Attachments.{IsGraph}
use Rattle.ifmap_view.specs.Rows.{stored_on}
use Rattle.ifmap_graph.specs.declared.changes.Ready.{Ready}
use Rattle.ifmap_graph.specs.declared.changes.Undo.{Undo}
use Rattle.ifmap_graph.specs.declared.shelves.Shelves.{Shelves}
use Rattle.ifmap_graph.specs.Back.{IsUndoTo, stand_each}
use Rattle.ifmap_graph.specs.Drafted.{AreOut, ends_at}
use Rattle.ifmap_graph.specs.Inside.{IsInside, links_at, shown_shelves}
use Rattle.ifmap_graph.specs.Out.{items_changed}
use Rattle.ifmap_graph.specs.Seen.{AreAwaited, links_now, rows_now}
use Rattle.ifmap_graph.specs.Shelved.{AreShelved, HasDraft, list_at, slot_of_item, rows_by, rows_on_side}
use Rattle.ifmap_graph.specs.Sides.{Sides, list_next, list_now}
use Rattle.ifmap_graph.specs.Stays.{HasSameShelf}
use Rattle.ifmap_graph.specs.Turning.{AreDrafted, AreWithin, NoOthers, accept_each, backs, restore_each}
use Rattle.ifmap_graph.specs.Waits.{times_in, waits_on}
use Rattle.ifmap_graph.proofs.Backs.{links_stay}
use Rattle.ifmap_graph.proofs.Bare.{list_bare, no_draft}
use Rattle.ifmap_graph.proofs.Finding.{unlisted_empty, entry_stores}
use Rattle.ifmap_graph.proofs.Graphs.{graph_is}
use Rattle.ifmap_graph.proofs.Insides.{rows_shown}
use Rattle.ifmap_graph.proofs.Seeing.{links_by_items, seen_of, stays_there}
use Rattle.ifmap_graph.proofs.Settled.{waits_shown}
use Rattle.ifmap_graph.proofs.Turns.{backs_within, gone_again, same_length}
use Rattle.ifmap_plans.specs.laws.OnItemLaws.{stored_tied}

-- lists that are those of attachments stand again: on these items they do, and elsewhere nothing has changed
stands_again : (rows : List Attachment) (items : List Item) (x : Item) (before : List Stored)
    → (times_in items x ≡ 0 → before ≡ stored_on x rows)
    → stand_each items (map (λ i. stored_on i rows) items) x before ≡ stored_on x rows
stands_again rows [] x before f = f refl
stands_again rows (i ∷ is) x before f = elim (cases_Bool (is_at (item_order i) x)) [
  | inl t ↦ rw t (stands_again rows is x (stored_on i rows) (λ e. stored_tied i x rows ((Equal-is (item_order i x)).0 t)))
  | inr n ↦ rw n (stands_again rows is x before (λ e. f (rw n (omega (arith, e)))))
]

pub has_times : (items : List Item) (x i : Item) → Has items i → item_order i x ≡ Equal → times_in items x ≡ 0 → ⊥
has_times [] x i h e t = h
has_times (k ∷ ks) x i (inl p) e t =
    let q : is_at (item_order k) x ≡ true = ap (λ y. is_eq (item_order y x)) p ∙ ap is_eq e
    in let r : 1 + times_in ks x ≡ 0 = rw q at t
    in absurd (omega (arith, r))
has_times (k ∷ ks) x i (inr h) e t = has_times ks x i h e (omega (arith, t))

-- on an item without a draft both sides are the same
pub else_same : (s : Shelves) (x : Item) → AreShelved s → (HasDraft s x → ⊥) → stored_on x (rows_on_side list_next s) ≡ stored_on x
    (rows_on_side list_now s)
else_same s x is f = by (slot_of_item s x) refl
  where
    by : (o : Option ℕ) → slot_of_item s x ≡ o → stored_on x (rows_on_side list_next s) ≡ stored_on x (rows_on_side list_now s)
    by None e = sym (unlisted_empty (λ n. list_at list_next (get s.slots n)) x s.places.entries e)
        ∙ unlisted_empty (λ n. list_at list_now (get s.slots n)) x s.places.entries e
    by (Some at) e =
        sym (entry_stores (λ n. list_at list_next (get s.slots n)) x s.places.entries at is.rising e)
        ∙ list_bare (get s.slots at) (no_draft (get s.slots at) (λ shelf here has. f (at, shelf, e, here, has)))
        ∙ entry_stores (λ n. list_at list_now (get s.slots n)) x s.places.entries at is.rising e

module _ (names : Holdings Identifier) (s t : Shelves) (links moved : List (Sides LinkSeen))
    (is : IsInside names (get s.slots) s.places.entries links)
    (places : t.places ≡ s.places) (ends : (at : ℕ) → ends_at t at ≡ ends_at s at) (waits : (x : Item) → waits_on t x ≡ waits_on s x)
    (rows : rows_on_side list_now t ≡ rows_on_side list_next s)
    (ready : Ready) (result : Undo) (out : AreOut (items_changed ready.plan.changes) s)
    (drafted : AreDrafted ready.ways links) (others : NoOthers ready.ways links) (turned : moved ≡ accept_each ready.ways links)
    (plan : result.plan ≡ ready.plan)
    (lists : result.lists ≡ map
    (λ c. stored_on c.item (rows_by (list_at list_now) (shown_shelves (get s.slots) s.places.entries))) ready.plan.changes)
    (ways : result.ways ≡ backs ready.ways links) where
  abbrev before : List Attachment
  before = rows_by (list_at list_now) (shown_shelves (get s.slots) s.places.entries)

  abbrev items : List Item
  items = items_changed ready.plan.changes

  same_items : items_changed result.plan.changes ≡ items
  same_items = ap (λ p. items_changed p.changes) plan

  lists_are : result.lists ≡ map (λ i. stored_on i before) items
  lists_are = lists ∙ sym (map-map (λ i. stored_on i before) (λ (c : ItemChange). c.item) ready.plan.changes)

  -- what is stored now on an item of none of these
  stays_stored : (x : Item) → times_in items x ≡ 0
      → stored_on x (rows_by (list_at list_now) (shown_shelves (get t.slots) t.places.entries)) ≡ stored_on x before
  stays_stored x e =
      ap (stored_on x) (rows_shown list_now (get t.slots) t.places.entries ∙ rows)
      ∙ else_same s x is.placed (λ d. let w = out.within x d in has_times items x w.0 w.1 w.2 e)
      ∙ sym (ap (stored_on x) (rows_shown list_now (get s.slots) s.places.entries))

  pub can_go_back : AreAwaited items (seen_of (get s.slots) s.places.entries names links)
      → IsUndoTo result (rows_now (seen_of (get s.slots) s.places.entries names links))
      (links_now (seen_of (get s.slots) s.places.entries names links))
      (seen_of (get t.slots) t.places.entries names moved)
  can_go_back awaited = record {
    graph = subst IsGraph (sym (rows_shown list_now (get s.slots) s.places.entries))
        (graph_is (λ at. list_at list_now (get s.slots at)) s.places.entries is.placed.rising is.placed.canon is.side.lists);
    stored = λ x.
        sym (stands_again before items x (stored_on x (rows_by (list_at list_now) (shown_shelves (get t.slots) t.places.entries)))
        (stays_stored x))
        ∙ sym (ap (λ l. stand_each items l x (stored_on x (rows_by (list_at list_now) (shown_shelves (get t.slots) t.places.entries))))
        lists_are)
        ∙ sym (ap (λ l. stand_each l result.lists x
        (stored_on x (rows_by (list_at list_now) (shown_shelves (get t.slots) t.places.entries)))) same_items);
    linked = λ v.
        sym (gone_again ready.ways links v drafted others)
        ∙ sym (ap (λ l. links_at list_now (restore_each l (accept_each ready.ways links)) v) ways)
        ∙ sym (ap (λ l. links_at list_now (restore_each result.ways l) v) turned);
    slots = links_stay before (links_at list_now links) (seen_of (get s.slots) s.places.entries names links)
        (seen_of (get t.slots) t.places.entries names moved)
        (λ x n. subst
        (λ p. HasSameShelf (seen_of (get s.slots) s.places.entries names links) (seen_of (get t.slots) p.entries names moved) x)
        (sym places)
        (stays_there (get s.slots) (get t.slots) s.places.entries names names links moved ends x))
        (links_by_items (get s.slots) s.places.entries names links before (links_at list_now links) is.placed is.used
        (λ x. sym (ap (stored_on x) (rows_shown list_now (get s.slots) s.places.entries))) is.side.listed is.side.once);
    lists = ap length lists ∙ length-map ready.plan.changes (λ c. stored_on c.item before) ∙ sym (ap (λ p. length p.changes) plan);
    within = subst (λ w. AreWithin w (length moved)) (sym ways)
        (subst (λ n. AreWithin (backs ready.ways links) n) (sym (ap length turned ∙ same_length ready.ways links))
        (backs_within ready.ways links drafted));
    waits = subst (λ l. AreAwaited l (seen_of (get t.slots) t.places.entries names moved)) (sym same_items)
        (λ x. omega (arith, awaited x, waits_shown names s links x, waits_shown names t moved x, waits x));
  }
