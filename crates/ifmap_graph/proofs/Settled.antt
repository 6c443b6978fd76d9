-- What contracts see of shelves, and what they see after some went.
use Rattle.std.proofs.Common.{◌≡◌, ℕ, ◌+◌, ◌<◌, Option, Some, None, IsSome, List, option_map, refl, ap, ◌∙◌, sym, subst, arith}
use Rattle.std.specs.BTreeMap.{is_at}
use Rattle.slab.specs.Slab.{get}
use Rattle.ifmap_ident.specs.declared.identifiers.Identifier.{Identifier}
use Rattle.ifmap_ident.specs.declared.items.Item.{Item}
use Rattle.ifmap_ident.specs.Identifiers.{identifier_order}
use Rattle.ifmap_ident.specs.Items.{item_order}
use Rattle.ifmap_meta.specs.declared.stored.Stored.{Stored}
use Rattle.ifmap_pool.specs.Holdings.{Holdings, IsHeld}
use Rattle.ifmap_view.specs.declared.views.LinkSeen.{LinkSeen}
use Rattle.ifmap_view.specs.Rows.{stored_on}
use Rattle.ifmap_graph.specs.declared.ends.ItemEnds.{ItemEnds}
use Rattle.ifmap_graph.specs.declared.shelves.Shelves.{Shelves}
use Rattle.ifmap_graph.specs.Bringing.{HaveFewOwn, graph_fields}
use Rattle.ifmap_graph.specs.Drafted.{AreBare, NoDraft, ends_at}
use Rattle.ifmap_graph.specs.Inside.{GraphInside, shown_shelves}
use Rattle.ifmap_graph.specs.Out.{IsDrafted}
use Rattle.ifmap_graph.specs.Releasing.{IsLess}
use Rattle.ifmap_graph.specs.Seen.{AreAwaited, AwaitsLess, HasFewOwn, IsStill, KeepsOwn, rows_next, rows_now, waits_in, waits_there_in}
use Rattle.ifmap_graph.specs.Shelved.{AreShelved, slot_of_item}
use Rattle.ifmap_graph.specs.Sides.{Sides, list_next, list_now}
use Rattle.ifmap_graph.specs.Stays.{HasSameShelf, StayPlaced, ends_in, ends_there_in}
use Rattle.ifmap_graph.specs.Turning.{sides_at}
use Rattle.ifmap_graph.specs.Waits.{AreWaited, WaitsFor, waits_on, waits_there}
use Rattle.ifmap_graph.proofs.Bare.{none_left, sides_same}
use Rattle.ifmap_graph.proofs.Following.{looked_up}
use Rattle.ifmap_graph.proofs.Insides.{lookup_shown, named_shown, rows_shown}
use Rattle.ifmap_graph.proofs.Outs.{from_shown, to_shown}
use Rattle.ifmap_graph.proofs.Lessening.{waited_there}
use Rattle.ifmap_graph.proofs.Waited.{times_append}
use Rattle.ifmap_lemmas.specs.Having.{all_has}

-- what contracts see of a graph's parts
abbrev pub inside_of : Holdings Identifier → Shelves → List (Sides LinkSeen) → GraphInside
inside_of names s links = record {
  shelves = shown_shelves (get s.slots) s.places.entries;
  names = names;
  links = links;
  places = s.places.entries;
}

-- the numbers of a slot, where there is one
abbrev pub ends_there : Shelves → Option ℕ → Option ItemEnds
ends_there s None = None
ends_there s (Some at) = ends_at s at

module _ (names : Holdings Identifier) (s : Shelves) (links : List (Sides LinkSeen)) where
  -- an item is waited for as often as its slot is
  pub waits_shown : (x : Item) → waits_in (inside_of names s links) x ≡ waits_on s x
  waits_shown x =
      ap waits_there_in (lookup_shown (get s.slots) (is_at (item_order x)) s.places.entries) ∙ by (slot_of_item s x)
    where
      by : (o : Option ℕ) → waits_there_in (option_map (get s.slots) o) ≡ waits_there (get s.slots) o
      by None = refl
      by (Some at) = refl

  pub ends_shown : (x : Item) → ends_in (inside_of names s links) x ≡ ends_there s (slot_of_item s x)
  ends_shown x =
      ap ends_there_in (lookup_shown (get s.slots) (is_at (item_order x)) s.places.entries) ∙ by (slot_of_item s x)
    where
      by : (o : Option ℕ) → ends_there_in (option_map (get s.slots) o) ≡ ends_there s o
      by None = refl
      by (Some at) = refl

  -- items are waited for as slots are
  pub waited_from : (items : List Item) → AreAwaited items (inside_of names s links) → AreWaited items (waits_on s)
  waited_from items a x = omega (arith, a x, waits_shown x)

  pub waited_to : (items : List Item) → AreWaited items (waits_on s) → AreAwaited items (inside_of names s links)
  waited_to items a x = omega (arith, a x, waits_shown x)

  -- others hold identifiers as often as contracts see it
  pub few_from : HasFewOwn (inside_of names s links) → HaveFewOwn (graph_fields names s links)
  few_from few a =
      let f = few a
      in (f.0, subst (λ (n : ℕ). IsHeld identifier_order names a (n + f.0)) (named_shown (get s.slots) s.places.entries a) f.1, f.2)

  -- where nothing is out, no shelf has a draft
  pub bare_from : AreShelved s → IsStill (inside_of names s links) → AreBare s
  bare_from is still = none_left s is (λ x d. absurd (still.shelves x (to_shown s x d)))

  no_draft_there : (x : Item) → AreBare s → IsDrafted (shown_shelves (get s.slots) s.places.entries) x → ⊥
  no_draft_there x bare d =
      let h = from_shown s x d
      in let q = looked_up s.places.entries x h.0 h.2
      in let none : NoDraft (Some h.1) = subst NoDraft h.3 (all_has (λ e. NoDraft (get s.slots e.1)) s.places.entries bare (q.0, h.0) q.1)
      in let r : IsSome {T = List Stored} None = subst (λ (o : Option (List Stored)). IsSome o) none h.4 in cc

  pub bare_to : AreBare s → ((v : ℕ) → (sides_at links v).draft ≡ None) → IsStill (inside_of names s links)
  bare_to bare none = record { shelves = λ x d. no_draft_there x bare d; links = none }

-- some shelves went
module _ (names left : Holdings Identifier) (s t : Shelves) (links : List (Sides LinkSeen)) (less : IsLess names left s t) where
  pub less_now : rows_now (inside_of left t links) ≡ rows_now (inside_of names s links)
  less_now = rows_shown list_now (get t.slots) t.places.entries ∙ less.rows ∙ sym (rows_shown list_now (get s.slots) s.places.entries)

  pub less_next : AreBare s → rows_next (inside_of left t links) ≡ rows_next (inside_of names s links)
  less_next bare =
      rows_shown list_next (get t.slots) t.places.entries ∙ sides_same t (less.bare bare) ∙ less.rows ∙ sym (sides_same s bare)
      ∙ sym (rows_shown list_next (get s.slots) s.places.entries)

  pub less_own : KeepsOwn (inside_of names s links) (inside_of left t links)
  less_own a own h =
      subst (λ (n : ℕ). IsHeld identifier_order left a (n + own)) (sym (named_shown (get t.slots) t.places.entries a))
      (less.own a own (subst (λ (n : ℕ). IsHeld identifier_order names a (n + own)) (named_shown (get s.slots) s.places.entries a) h))

  pub less_waits : (items : List Item) → WaitsFor items t s → AwaitsLess items (inside_of names s links) (inside_of left t links)
  less_waits items f rest a x =
      omega (arith, a x, f x, waits_shown names s links x, waits_shown left t links x, times_append items rest x)

  -- a shelf that is in its slot has its numbers
  there_by : (x : Item) → slot_of_item t x ≡ slot_of_item s x → HasSameShelf (inside_of names s links) (inside_of left t links) x
  there_by x e = (e, ends_shown left t links x ∙ by (slot_of_item t x) refl ∙ sym (ends_shown names s links x))
    where
      by : (o : Option ℕ) → slot_of_item t x ≡ o → ends_there t (slot_of_item t x) ≡ ends_there s (slot_of_item s x)
      by None q = ap (ends_there t) q ∙ sym (ap (ends_there s) (sym e ∙ q))
      by (Some at) q = ap (ends_there t) q ∙ (less.before x at q).1 ∙ sym (ap (ends_there s) (sym e ∙ q))

  pub less_stay : StayPlaced (inside_of names s links) (inside_of left t links)
  less_stay = record {
    waited = λ x a b.
        let w : 0 < waits_on t x = omega (arith, b, waits_shown left t links x)
        in let q = waited_there t x w
        in there_by x (q.1 ∙ sym (less.before x q.0 q.1).0);
    full = λ x a b. there_by x (less.full x (λ m. a (ap (stored_on x) (rows_shown list_now (get s.slots) s.places.entries) ∙ m)));
  }
