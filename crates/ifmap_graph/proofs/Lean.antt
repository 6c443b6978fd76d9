-- Nothing is left behind, as contracts see it: what is so of the shelves, and after each change.
use Rattle.std.proofs.Common.{◌≡◌, ℕ, ◌≤◌, true, false, Option, Some, None, IsSome, List, [], ◌∷◌, ◌++◌, option_map, refl, ap, ◌∙◌, sym, subst, inl, inr, arith}
use Rattle.std.proofs.lemmas.Bool.{cases_Bool}
use Rattle.std.specs.BTreeMap.{is_at}
use Rattle.std.specs.Map.{lookup}
use Rattle.slab.specs.Slab.{get}
use Rattle.ifmap_ident.specs.declared.identifiers.Identifier.{Identifier}
use Rattle.ifmap_ident.specs.declared.items.Item.{Item}
use Rattle.ifmap_ident.specs.Items.{item_order}
use Rattle.ifmap_meta.specs.declared.stored.Stored.{Stored}
use Rattle.ifmap_plans.specs.declared.plans.ItemChange.{ItemChange}
use Rattle.ifmap_pool.specs.Holdings.{Holdings}
use Rattle.ifmap_view.specs.declared.views.LinkSeen.{LinkSeen}
use Rattle.ifmap_view.specs.Rows.{stored_on}
use Rattle.ifmap_graph.specs.declared.shelves.Shelves.{Shelves}
use Rattle.ifmap_graph.specs.Back.{stand_each}
use Rattle.ifmap_graph.specs.Bringing.{IsOther, graph_fields}
use Rattle.ifmap_graph.specs.Drafted.{AreOut}
use Rattle.ifmap_graph.specs.Making.{IsMade, IsUnmade}
use Rattle.ifmap_graph.specs.Out.{items_changed}
use Rattle.ifmap_graph.specs.Releasing.{AreFilled}
use Rattle.ifmap_graph.specs.Seen.{AreAwaited, HasShelf, IsLean, StaysLean, StaysLeanWith, StaysLeanWithout}
use Rattle.ifmap_graph.specs.Shelved.{AreShelved, slot_of_item, rows_on_side}
use Rattle.ifmap_graph.specs.Sides.{Sides, list_next, list_now}
use Rattle.ifmap_graph.specs.Waits.{WaitsFor, times_in, waits_on}
use Rattle.ifmap_graph.proofs.Insides.{lookup_shown, rows_shown}
use Rattle.ifmap_graph.proofs.Settled.{inside_of, waits_shown}
use Rattle.ifmap_graph.proofs.Taking.{else_same, has_times}
use Rattle.ifmap_graph.proofs.Waited.{times_append}
use Rattle.ifmap_graph.proofs.Backs.{stand_others}

-- what is none of some is not among them
never_times : (items : List Item) (x : Item) → times_in items x ≡ 0 → IsOther items x
never_times [] x e = tt
never_times (i ∷ is) x e = elim (cases_Bool (is_at (item_order i) x)) [
  | inl t ↦ let some = rw t at e in absurd (omega (arith, some))
  | inr f ↦ let rest = rw f at e in (f, never_times is x (omega (arith, rest)))
]

module _ (names : Holdings Identifier) (s : Shelves) (links : List (Sides LinkSeen)) where
  pub shelf_place : (x : Item) → HasShelf (inside_of names s links) x → IsSome (slot_of_item s x)
  shelf_place x h = by (slot_of_item s x) (subst IsSome (lookup_shown (get s.slots) (is_at (item_order x)) s.places.entries) h)
    where
      by : (o : Option ℕ) → IsSome (option_map (get s.slots) o) → IsSome o
      by None e = e
      by (Some at) e = refl

  pub place_shelf : (x : Item) → IsSome (slot_of_item s x) → HasShelf (inside_of names s links) x
  place_shelf x h = subst IsSome (sym (lookup_shown (get s.slots) (is_at (item_order x)) s.places.entries)) (by (slot_of_item s x) h)
    where
      by : (o : Option ℕ) → IsSome o → IsSome (option_map (get s.slots) o)
      by None e = e
      by (Some at) e = refl

  pub lean_from : (items : List Item) → IsLean items (inside_of names s links) → AreFilled s
  lean_from items lean x place none e =
      lean.full x (place_shelf x place) (waits_shown names s links x ∙ none)
      (ap (stored_on x) (rows_shown list_now (get s.slots) s.places.entries) ∙ e)

  pub lean_to : (items : List Item) → ((x : Item) → waits_on s x ≤ times_in items x) → AreFilled s → IsLean items (inside_of names s links)
  lean_to items waits filled = record {
    waits = λ x. omega (arith, waits x, waits_shown names s links x);
    full = λ x h w e.
        filled x (shelf_place x h) (sym (waits_shown names s links x) ∙ w)
        (sym (ap (stored_on x) (rows_shown list_now (get s.slots) s.places.entries)) ∙ e);
  }

module _ (names later : Holdings Identifier) (s t : Shelves) (links moved : List (Sides LinkSeen)) where
  -- shelves went
  pub less_lean : (items : List Item) → WaitsFor items t s → (AreFilled s → AreFilled t)
      → StaysLeanWithout items (inside_of names s links) (inside_of later t moved)
  less_lean items waits filled rest lean =
      lean_to later t moved rest
      (λ x. omega (arith, lean.waits x, waits x, waits_shown names s links x, times_append items rest x))
      (filled (lean_from names s links (items ++ rest) lean))

  -- shelves stay, and so does what is stored on items that nobody waits for
  pub same_lean : ((x : Item) → waits_on t x ≡ waits_on s x)
      → ((x : Item) → waits_on s x ≡ 0 → slot_of_item t x ≡ slot_of_item s x)
      → ((x : Item) → waits_on s x ≡ 0 → stored_on x (rows_on_side list_now t) ≡ stored_on x (rows_on_side list_now s))
      → StaysLean (inside_of names s links) (inside_of later t moved)
  same_lean waits places rows rest lean =
      lean_to later t moved rest (λ x. omega (arith, lean.waits x, waits x, waits_shown names s links x))
      (λ x place none e.
      let idle : waits_on s x ≡ 0 = sym (waits x) ∙ none
      in lean_from names s links rest lean x (subst IsSome (places x idle) place) idle (sym (rows x idle) ∙ e))

  -- a change came to be out
  pub made_lean : (changes : List ItemChange) (ways : List (ℕ × List LinkSeen))
      → IsMade changes ways (graph_fields names s links) (graph_fields later t moved)
      → StaysLeanWith (items_changed changes) (inside_of names s links) (inside_of later t moved)
  made_lean changes ways made rest lean =
      lean_to later t moved (items_changed changes ++ rest)
      (λ x. omega (arith, lean.waits x, made.waits x, waits_shown names s links x, times_append (items_changed changes) rest x))
      (λ x place none e.
      let both = made.waits x
      in let other = never_times (items_changed changes) x (omega (arith, both, none))
      in lean_from names s links rest lean x (subst IsSome (made.same x other) place) (omega (arith, both, none))
      (sym (ap (stored_on x) made.rows) ∙ e))

  -- it did not
  pub unmade_lean : IsUnmade (graph_fields names s links) (graph_fields later t moved) → StaysLean (inside_of names s links)
      (inside_of later t moved)
  unmade_lean un = same_lean un.shelves.waits (λ x none. un.shelves.places x tt) (λ x none. ap (stored_on x) un.rows)

  -- the drafts of these items, which are waited for, came to be the lists
  pub turned_lean : (items : List Item) → AreAwaited items (inside_of names s links) → AreShelved s → AreOut items s
      → ((x : Item) → waits_on t x ≡ waits_on s x) → t.places ≡ s.places → rows_on_side list_now t ≡ rows_on_side list_next s
      → StaysLean (inside_of names s links) (inside_of later t moved)
  turned_lean items awaits is out waits places rows =
      same_lean waits (λ x none. ap (λ p. lookup (is_at (item_order x)) p.entries) places)
      (λ x none. ap (stored_on x) rows
      ∙ else_same s x is (λ d. let w = out.within x d
      in has_times items x w.0 w.1 w.2 (omega (arith, awaits x, none, waits_shown names s links x))))

  -- lists came to stand on these items, which are waited for
  pub stood_lean : (items : List Item) → AreAwaited items (inside_of names s links) → ((x : Item) → waits_on t x ≡ waits_on s x)
      → t.places ≡ s.places → (lists : List (List Stored))
      → ((x : Item) → stored_on x (rows_on_side list_now t) ≡ stand_each items lists x (stored_on x (rows_on_side list_now s)))
      → StaysLean (inside_of names s links) (inside_of later t moved)
  stood_lean items awaits waits places lists stands =
      same_lean waits (λ x none. ap (λ p. lookup (is_at (item_order x)) p.entries) places)
      (λ x none. stands x
      ∙ stand_others items lists x (stored_on x (rows_on_side list_now s)) (omega (arith, awaits x, none, waits_shown names s links x)))

-- nothing at all is left behind of nothing
pub none_lean : (names : Holdings Identifier) → IsLean [] (record { shelves = []; names = names; links = []; places = [] })
none_lean names = record { waits = λ x. omega arith; full = λ x h w. let e : false ≡ true = h in cc }
