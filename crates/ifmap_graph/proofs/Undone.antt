-- A change that was made is taken back: what a way back says is stored and linked, and all parts are in order.
use Rattle.std.proofs.Common.{◌≡◌, ℕ, zero, suc, ◌<◌, Option, Some, None, IsSome, List, [], ◌∷◌, length, nat_eq, refl, ap, ◌∙◌, sym, subst, inl, inr, arith}
use Rattle.std.proofs.lemmas.Cmp.{tied_itself}
use Rattle.std.specs.List.{AllByRecursion, Contains, IsDistinct}
use Rattle.slab.specs.Slab.{get}
use Rattle.ifmap_lemmas.specs.Having.{Has, all_has}
use Rattle.ifmap_ident.specs.declared.identifiers.Identifier.{Identifier}
use Rattle.ifmap_ident.specs.declared.items.Item.{Item}
use Rattle.ifmap_plans.specs.Lists.{IsList}
use Rattle.ifmap_plans.specs.laws.GraphLists.{list_on}
use Rattle.ifmap_pool.specs.Holdings.{Holdings}
use Rattle.ifmap_view.specs.declared.attachments.Attachment.{Attachment}
use Rattle.ifmap_view.specs.declared.views.LinkSeen.{LinkSeen}
use Rattle.ifmap_view.specs.Rows.{stored_on}
use Rattle.ifmap_graph.specs.declared.changes.Undo.{Undo}
use Rattle.ifmap_graph.specs.declared.shelves.Shelf.{Shelf}
use Rattle.ifmap_graph.specs.declared.shelves.Shelves.{Shelves}
use Rattle.ifmap_graph.specs.Back.{AreLinks, IsUndoTo, stand_each}
use Rattle.ifmap_graph.specs.Drafted.{AreBare, NoDraft, StayInPlace}
use Rattle.ifmap_graph.specs.Inside.{GraphInside, IsInside, IsSide, links_at}
use Rattle.ifmap_graph.specs.Linked.{link_places}
use Rattle.ifmap_graph.specs.Out.{items_changed}
use Rattle.ifmap_graph.specs.Seen.{AreAwaited, IsStill, KeepsOwn, StaysLean, links_now, rows_now}
use Rattle.ifmap_graph.specs.Shelved.{IsPlaced, list_at, slot_of_item, rows_by, rows_on_side}
use Rattle.ifmap_graph.specs.Sides.{Sides, list_next, list_now}
use Rattle.ifmap_graph.specs.Turning.{restore_each, sides_at}
use Rattle.ifmap_graph.specs.Waits.{times_in, waits_on}
use Rattle.ifmap_graph.proofs.Backs.{links_stay}
use Rattle.ifmap_graph.proofs.Bare.{list_bare}
use Rattle.ifmap_graph.proofs.Finding.{entry_stores}
use Rattle.ifmap_graph.proofs.Following.{entry_hits}
use Rattle.ifmap_graph.proofs.Graphs.{graph_is}
use Rattle.ifmap_graph.proofs.Insides.{rows_shown}
use Rattle.ifmap_graph.proofs.Lean.{stood_lean}
use Rattle.ifmap_graph.proofs.Lessening.{waited_there}
use Rattle.ifmap_graph.proofs.Moved.{inside_anew, placed_still, side_moved, used_still}
use Rattle.ifmap_graph.proofs.OnItems.{rows_same}
use Rattle.ifmap_graph.proofs.Seeing.{links_by_slots, seen_of, stays_there}
use Rattle.ifmap_graph.proofs.Settled.{bare_to, inside_of, waits_shown}
use Rattle.ifmap_graph.proofs.Shelving.{Entries}
use Rattle.ifmap_graph.proofs.Staying.{ends_of}
use Rattle.ifmap_graph.proofs.Taking.{has_times}
use Rattle.ifmap_graph.proofs.Turns.{next_of_bare, restored_drafts, restored_length}
use Rattle.ifmap_graph.proofs.Written.{own_stays, waits_stay_seen}
use Rattle.ifmap_ident.specs.SameLaws.{items_total, BytesTellIdentifiers}

-- links that are alike at each number
links_alike : (rows : List Attachment) (links moved : ℕ → List LinkSeen) (h : GraphInside) → ((v : ℕ) → moved v ≡ links v)
    → AreLinks rows links h → AreLinks rows moved h
links_alike rows links moved h f is = record {
  only = λ v seen c. is.only v seen (subst (λ l. Contains l seen) (f v) c);
  each = λ x v w at e two full. subst (λ l. Contains l (record { other = w; at = at })) (sym (f v)) (is.each x v w at e two full);
  once = λ v. subst (λ l. IsDistinct nat_eq (link_places l)) (sym (f v)) (is.once v);
}

module _ (names : Holdings Identifier) (look later : ℕ → Option Shelf) (es : Entries) (links moved : List (Sides LinkSeen))
    (is : IsInside names look es links)
    (ends : (at : ℕ) → ends_of (later at) ≡ ends_of (look at)) (bare : AllByRecursion (λ e. NoDraft (later e.1)) es)
    (none : (v : ℕ) → (sides_at links v).draft ≡ None)
    (u : Undo) (rows : List Attachment) (seen : ℕ → List LinkSeen) (back : IsUndoTo u rows seen (seen_of look es names links))
    (stands : (x : Item) → stored_on x (rows_by (λ at. list_at list_now (later at)) es)
    ≡ stand_each (items_changed u.plan.changes) u.lists x (stored_on x (rows_by (λ at. list_at list_now (look at)) es)))
    (turned : moved ≡ restore_each u.ways links) where
  later_is_placed : IsPlaced later es
  later_is_placed = placed_still look later ends es is.placed

  later_is_used : (at : ℕ) → IsSome (later at) → (item : Item) × Has es (item, at)
  later_is_used = used_still look later ends es is.used

  -- on each item stands what is to stand there again
  stored_as_before : (x : Item) → stored_on x (rows_by (λ at. list_at list_now (later at)) es) ≡ stored_on x rows
  stored_as_before x =
      stands x ∙ sym (ap (λ r. stand_each (items_changed u.plan.changes) u.lists x (stored_on x r)) (rows_shown list_now look es))
      ∙ sym (back.stored x)

  pub back_links : (v : ℕ) → links_at list_now moved v ≡ seen v
  back_links v = ap (λ l. links_at list_now l v) turned ∙ sym (back.linked v)

  pub back_bare : (v : ℕ) → (sides_at moved v).draft ≡ None
  back_bare v = ap (λ l. (sides_at l v).draft) turned ∙ restored_drafts u.ways links v back.within ∙ none v

  lists : (xs : Entries) → ((e : Item × ℕ) → Has xs e → Has es e) → AllByRecursion (λ e. IsList (list_at list_now (later e.1))) xs
  lists [] f = tt
  lists (e ∷ xs) f = (
    subst IsList (sym (entry_stores (λ at. list_at list_now (later at)) e.0 es e.1 later_is_placed.rising
        (entry_hits es e.0 e.1 later_is_placed.rising (f e (inl refl))) ∙ stored_as_before e.0))
        (list_on e.0 rows back.graph),
    lists xs (λ x h. f x (inr h)),
  )

  slots : AreLinks rows (links_at list_now moved) (seen_of later es names moved)
  slots =
      links_alike rows seen (links_at list_now moved) (seen_of later es names moved) back_links
      (links_stay rows seen (seen_of look es names links) (seen_of later es names moved)
      (λ x n. stays_there look later es names names links moved ends x) back.slots)

  side : IsSide list_now later es (links_at list_now moved)
  side = record {
    lists = lists es (λ e h. h);
    listed = links_by_slots later es names moved rows (links_at list_now moved) later_is_placed later_is_used stored_as_before slots;
    once = slots.once;
  }

  bare_at : (at : ℕ) → NoDraft (later at)
  bare_at at = by (later at) refl
    where
      by : (o : Option Shelf) → later at ≡ o → NoDraft (later at)
      by None e = subst NoDraft (sym e) tt
      by (Some shelf) e =
          let h = later_is_used at (subst (λ (o : Option Shelf). IsSome o) (sym e) refl)
          in all_has (λ (e : Item × ℕ). NoDraft (later e.1)) es bare (h.0, at) h.1

  next_side : IsSide list_next later es (links_at list_next moved)
  next_side =
      side_moved later later (λ at. refl) list_now list_next (λ at. list_bare (later at) (bare_at at)) (links_at list_now moved)
      (links_at list_next moved)
      (λ v. sym (next_of_bare (sides_at moved v) (back_bare v))) es side

  pub back_inside : IsInside names later es moved
  back_inside = inside_anew look later ends names es links moved (ap length turned ∙ restored_length u.ways links) side next_side is

  pub back_rows : BytesTellIdentifiers → rows_now (seen_of later es names moved) ≡ rows
  back_rows tells =
      rows_shown list_now later es
      ∙ rows_same tells (rows_by (λ at. list_at list_now (later at)) es) rows
      (graph_is (λ at. list_at list_now (later at)) es later_is_placed.rising later_is_placed.canon side.lists)
      back.graph stored_as_before

-- items that are waited for have shelves
pub all_there : (names : Holdings Identifier) (s : Shelves) (links : List (Sides LinkSeen)) (items : List Item)
    → AreAwaited items (inside_of names s links)
    → AllByRecursion (λ x. IsSome (slot_of_item s x)) items
all_there names s links items a = by items (λ x h. h)
  where
    waited : (x : Item) → Has items x → (t : ℕ) → times_in items x ≡ t → 0 < waits_on s x
    waited x h zero e = absurd (has_times items x x h (tied_itself items_total x) e)
    waited x h (suc k) e = omega (arith, a x, waits_shown names s links x, e)

    by : (xs : List Item) → ((x : Item) → Has xs x → Has items x) → AllByRecursion (λ x. IsSome (slot_of_item s x)) xs
    by [] f = tt
    by (x ∷ xs) f = (
      let q = waited_there s x (waited x (f x (inl refl)) (times_in items x) refl) in subst IsSome (sym q.1) refl,
      by xs (λ y h. f y (inr h)),
    )

-- a graph goes back: its shelves stay in their places, on the items of a way back stand the lists of before, and the links have taken
-- the places of those that had taken theirs
pub record GoesBack (names : Holdings Identifier) (s t : Shelves) (links moved : List (Sides LinkSeen)) (u : Undo) : Type 0 where
  pub stay : StayInPlace s t
  pub is : IsInside names (get s.slots) s.places.entries links
  pub bare : AreBare t
  pub none : (v : ℕ) → (sides_at links v).draft ≡ None
  pub stands : (x : Item) → stored_on x (rows_on_side list_now t)
      ≡ stand_each (items_changed u.plan.changes) u.lists x (stored_on x (rows_on_side list_now s))
  pub turned : moved ≡ restore_each u.ways links

-- the same of shelves that stay in their places
module _ {names : Holdings Identifier} {s t : Shelves} {links moved : List (Sides LinkSeen)} {u : Undo}
    (goes : GoesBack names s t links moved u) where
  pub undone_own : KeepsOwn (inside_of names s links) (inside_of names t moved)
  undone_own = own_stays names links moved goes.stay

  pub undone_waits : (items : List Item) → AreAwaited items (inside_of names s links) → AreAwaited items (inside_of names t moved)
  undone_waits = waits_stay_seen names links moved goes.stay

  module _ (rows : List Attachment) (seen : ℕ → List LinkSeen) (back : IsUndoTo u rows seen (inside_of names s links)) where
    still_bare : AllByRecursion (λ e. NoDraft (get t.slots e.1)) s.places.entries
    still_bare = subst (λ p. AllByRecursion (λ e. NoDraft (get t.slots e.1)) p.entries) goes.stay.places goes.bare

    still_stands : (x : Item) → stored_on x (rows_by (λ at. list_at list_now (get t.slots at)) s.places.entries)
        ≡ stand_each (items_changed u.plan.changes) u.lists x (stored_on x (rows_on_side list_now s))
    still_stands x =
        ap (λ p. stored_on x (rows_by (λ at. list_at list_now (get t.slots at)) p.entries)) (sym goes.stay.places) ∙ goes.stands x

    pub undone_inside : IsInside names (get t.slots) t.places.entries moved
    undone_inside =
        subst (λ p. IsInside names (get t.slots) p.entries moved) (sym goes.stay.places)
        (back_inside names (get s.slots) (get t.slots) s.places.entries links moved goes.is goes.stay.ends still_bare goes.none u rows seen
        back still_stands goes.turned)

    pub undone_rows : BytesTellIdentifiers → rows_now (inside_of names t moved) ≡ rows
    undone_rows tells =
        ap (λ p. rows_now (seen_of (get t.slots) p.entries names moved)) goes.stay.places
        ∙ back_rows names (get s.slots) (get t.slots) s.places.entries links moved goes.is goes.stay.ends still_bare goes.none u rows seen
        back still_stands goes.turned tells

    pub undone_links : (v : ℕ) → links_now (inside_of names t moved) v ≡ seen v
    undone_links = back_links names (get s.slots) (get t.slots) s.places.entries links moved goes.is goes.stay.ends still_bare goes.none u
        rows seen back still_stands goes.turned

    pub undone_still : IsStill (inside_of names t moved)
    undone_still =
        bare_to names t moved goes.bare
        (back_bare names (get s.slots) (get t.slots) s.places.entries links moved goes.is goes.stay.ends still_bare goes.none u rows seen
        back still_stands goes.turned)

    pub undone_lean : StaysLean (inside_of names s links) (inside_of names t moved)
    undone_lean = stood_lean names names s t links moved (items_changed u.plan.changes) back.waits goes.stay.waits goes.stay.places u.lists
        goes.stands
