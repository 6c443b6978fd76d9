-- What holds of a graph's parts (`IsInside`) as its names get room, and as an item's shelf comes.
-- 1. Where the same identifiers live, more room changes nothing that holds (`holds_with_more_room`).
-- 2. An item's shelf comes, empty on both sides: its ends are held once more (`inside_comes`).
-- 3. A number that is live was live where it is named as before (`was_live`).
-- 4. An empty shelf goes: the entry that has it is found (`entry_there`), its ends are held once
--    less (`own_stays`), and all else stays (`inside_goes`).
-- 5. An identifier is held once more for itself (`inside_held`).
use Rattle.std.proofs.Common.{◌≡◌, ◌≢◌, ℕ, ◌+◌, ◌-◌, ◌≤◌, Option, Some, None, IsSome, List, [], ◌∷◌, length, option_map, refl, ap, ◌∙◌, sym, subst, arith}
use Rattle.std.proofs.Math.Nat.{add_assoc}
use Rattle.std.specs.BTreeMap.{is_at, insert_entry}
use Rattle.std.specs.FinMap.{get}
use Rattle.std.specs.List.{AllByRecursion}
use Rattle.std.specs.Map.{lookup, remove_entry}
use Rattle.std.specs.declared.cmp.Ordering.TheVariants.{Equal}
use Rattle.ifmap_lemmas.specs.Having.{Has, all_has}
use Rattle.ifmap_ident.specs.declared.identifiers.Identifier.{Identifier}
use Rattle.ifmap_ident.specs.declared.items.Item.{Item}
use Rattle.ifmap_ident.specs.Identifiers.{identifier_order}
use Rattle.ifmap_ident.specs.Items.{IsCanonItem, IsItem, item_order}
use Rattle.ifmap_pool.specs.Holdings.{Holdings, IsHeld, IsPool, Names, entry_at, once}
use Rattle.ifmap_view.specs.declared.views.LinkSeen.{LinkSeen}
use Rattle.ifmap_graph.specs.declared.shelves.Shelf.{Shelf}
use Rattle.ifmap_graph.specs.Inside.{IsInside, links_at}
use Rattle.ifmap_graph.specs.Named.{AreEnds, AreIdentifiers, AreNumbered, HasEnds, uses_of, uses_in}
use Rattle.ifmap_graph.specs.Shelved.{IsPlaced, ItemsRise, list_at}
use Rattle.ifmap_graph.specs.Sides.{Sides, list_next, list_now}
use Rattle.ifmap_graph.specs.Turning.{sides_at}
use Rattle.ifmap_graph.proofs.Alike.{alike_equal}
use Rattle.ifmap_graph.proofs.Departing.{numbered_stay}
use Rattle.ifmap_graph.proofs.Empty.{side_comes, side_goes, side_same}
use Rattle.ifmap_graph.proofs.Following.{looked_up}
use Rattle.ifmap_graph.proofs.KeyHolds.{numbered_kept}
use Rattle.ifmap_graph.proofs.Leaving.{comes, goes, named_tied, slots_kept, stays_placed, still_used}
use Rattle.ifmap_graph.proofs.Finding.{all_left}
use Rattle.ifmap_graph.proofs.Shelving.{Entries}

-- what lives is the same
module _ (old new : Holdings Identifier) (live : new.live ≡ old.live) where
  pub names_alike : (v : ℕ) (a : Identifier) → Names identifier_order old v a → Names identifier_order new v a
  names_alike v a n = (n.0, ap (λ l. get l v) live ∙ n.1, n.2)

  pub all_same : (look : ℕ → Option Shelf) (es : Entries) → AllByRecursion (λ e. look e.1 ≡ look e.1) es
  all_same look [] = tt
  all_same look (e ∷ es) = (refl, all_same look es)

  pub numbered_alike : (look : ℕ → Option Shelf) (es : Entries) → AreNumbered old look es → AreNumbered new look es
  numbered_alike look es a = numbered_kept old new names_alike look look es (all_same look es) a

  pub keys_alike : AreIdentifiers old → AreIdentifiers new
  keys_alike all v a e = all v a (sym (ap (λ l. option_map (λ x. x.0) (get l v)) live) ∙ e)

  pub held_alike : (a : Identifier) (n : ℕ) → IsHeld identifier_order old a n → IsHeld identifier_order new a n
  held_alike a n h = subst (λ l. IsHeld identifier_order (record { live = l; spare = new.spare; limit = new.limit }) a n) (sym live) h

  -- there is more room
  pub holds_with_more_room : (look : ℕ → Option Shelf) (es : Entries) (links longer : List (Sides LinkSeen)) → IsPool identifier_order new
      → ((v : ℕ) → sides_at longer v ≡ sides_at links v) → length links ≤ length longer → IsInside old look es links
      → IsInside new look es longer
  holds_with_more_room look es links longer pool same more is = record {
    placed = is.placed;
    used = is.used;
    numbered = numbered_alike look es is.numbered;
    pool = pool;
    keys = keys_alike is.keys;
    held = λ a. let h = is.held a in (h.0, held_alike a _ h.1);
    table = λ v s. let k = is.table v (subst (λ (o : Option (Identifier × ℕ)). IsSome o) (ap (λ l. get l v) live) s) in omega
        (arith, k, more);
    side = side_same list_now look es (links_at list_now links) (links_at list_now longer) (λ v. ap list_now (same v)) is.side;
    next_side = side_same list_next look es (links_at list_next links) (links_at list_next longer)
        (λ v. ap list_next (same v)) is.next_side;
  }

counts_add : (n own k : ℕ) → (n + own) + k ≡ (k + n) + own
counts_add n own k = omega arith

-- an item's shelf comes, still empty
pub inside_comes : (old new : Holdings Identifier) (look later : ℕ → Option Shelf) (es entries : Entries) (links : List (Sides LinkSeen))
    (item : Item) (at : ℕ)
    (shelf : Shelf) → IsInside old look es links → IsPlaced later entries → ((n : ℕ) → IsSome (later n) → (k : Item) × Has entries (k, n))
    → AreNumbered new later entries → IsPool identifier_order new → AreIdentifiers new → new.limit ≤ length links
    → ((a : Identifier) (count : ℕ) → IsHeld identifier_order old a count → IsHeld identifier_order new a (count + uses_of item a))
    → lookup (is_at (item_order item)) es ≡ None → entries ≡ insert_entry item_order es item at → look at ≡ None → later at ≡ Some shelf
    → shelf.stored ≡ record { now = []; draft = None } → ((o : ℕ) → o ≢ at → later o ≡ look o) → IsInside new later entries links
inside_comes old new look later es entries links item at shelf is placed used numbered pool keys table held none inserts vacant there
    empty others = record {
      placed = placed;
      used = used;
      numbered = numbered;
      pool = pool;
      keys = keys;
      held = λ a.
          let h = is.held a
          in (
            h.0,
            subst (λ (n : ℕ). IsHeld identifier_order new a n)
                (counts_add (uses_in es a) h.0 (uses_of item a) ∙ ap (λ n. n + h.0)
                (sym (ap (λ l. uses_in l a) inserts ∙ comes es item at a none)))
                (held a (uses_in es a + h.0) h.1),
          );
      table = λ v s. let k = pool.below v s in omega (arith, k, table);
      side = side_comes list_now look later at (ap (list_at list_now) vacant)
          (ap (list_at list_now) there ∙ ap list_now empty) others es entries item
          (links_at list_now links) none inserts is.side;
      next_side =
          side_comes list_next look later at (ap (list_at list_next) vacant)
          (ap (list_at list_next) there ∙ ap list_next empty) others es entries item
          (links_at list_next links) none inserts
          is.next_side;
    }

-- a number that is live was live, where names were named before
pub was_live : (old new : Holdings Identifier) → ((v : ℕ) (a : Identifier) → Names identifier_order new v a
    → Names identifier_order old v a)
    → (v : ℕ) (o : Option (Identifier × ℕ)) → entry_at new v ≡ o → IsSome o → IsSome (entry_at old v)
was_live old new before v None e s = let q : IsSome {T = Identifier × ℕ} None = s in cc
was_live old new before v (Some x) e s =
    let n = before v x.0 (x, e, alike_equal x.0 x.0 refl)
    in subst (λ (o : Option (Identifier × ℕ)). IsSome o) (sym n.1) refl

-- what is named and held is less by what goes
counts_less : (n left own k by : ℕ) → by + left ≡ n → k ≡ by → (n + own) - k ≡ left + own
counts_less n left own k by e f = omega (arith, e, f)

-- an item's shelf goes, which is empty on both sides
module _ (old new : Holdings Identifier) (look later : ℕ → Option Shelf) (es entries : Entries) (links : List (Sides LinkSeen))
    (item : Item) (at : ℕ) (shelf : Shelf)
    (is : IsInside old look es links) (here : lookup (is_at (item_order item)) es ≡ Some at) (there : look at ≡ Some shelf)
    (empty : shelf.stored ≡ record { now = []; draft = None }) where
  -- the item of its entry, which ties with the one that is asked for, and whose numbers the shelf has
  pub entry_there : (k : Item) × Has es (k, at) × (item_order item k ≡ Equal)
  entry_there = looked_up es item at here

  pub its_ends : AreEnds old entry_there.0 shelf.ends
  its_ends =
      subst (λ o. HasEnds old entry_there.0 o) there
      (all_has (λ e. HasEnds old e.0 (look e.1)) es is.numbered (entry_there.0, at) entry_there.1)

  pub its_order : IsItem entry_there.0
  its_order = (all_has (λ e. IsCanonItem e.0) es is.placed.canon (entry_there.0, at) entry_there.1).ordered

  module _ (gone : later at ≡ None) (others : (o : ℕ) → o ≢ at → later o ≡ look o) (removes : entries ≡ remove_entry
      (is_at (item_order item)) es)
      (rises : ItemsRise entries) (pool : IsPool identifier_order new) (keys : AreIdentifiers new)
      (before : (v : ℕ) (a : Identifier) → Names identifier_order new v a → Names identifier_order old v a)
      (held : (i : Item) (a : Identifier) (count : ℕ) → AreEnds old i shelf.ends → IsHeld identifier_order old a count
      → IsHeld identifier_order new a (count - uses_of i a)) where
    pub own_stays : (a : Identifier) (own : ℕ) → IsHeld identifier_order old a (uses_in es a + own) → IsHeld identifier_order new a
        (uses_in entries a + own)
    own_stays a own h =
        let left : uses_of item a + uses_in entries a ≡ uses_in es a = ap (λ l. uses_of item a + uses_in l a) removes
        ∙ goes es item at a here
        in subst (λ (n : ℕ). IsHeld identifier_order new a n)
        (counts_less (uses_in es a) (uses_in entries a) own (uses_of entry_there.0 a) (uses_of item a) left
        (named_tied item entry_there.0 a entry_there.2))
        (held entry_there.0 a (uses_in es a + own) its_ends h)

    still_held : (a : Identifier) → (own : ℕ) × IsHeld identifier_order new a (uses_in entries a + own)
    still_held a = let h = is.held a in (h.0, own_stays a h.0 h.1)

    pub inside_goes : IsInside new later entries links
    inside_goes = record {
      placed = stays_placed es entries look later item at is.placed here gone others removes rises;
      used = still_used es entries look later item at is.placed here gone others removes rises is.used;
      numbered = numbered_stay old new is.pool before entries still_held look later entries (λ e h. h)
          (slots_kept es entries look later item at is.placed here gone others removes rises)
          (subst (λ l. AreNumbered old look l) (sym removes) (all_left (λ e. HasEnds old e.0 (look e.1)) (is_at (item_order item)) es
          is.numbered));
      pool = pool;
      keys = keys;
      held = still_held;
      table = λ v s. is.table v (was_live old new before v (entry_at new v) refl s);
      side = side_goes list_now look later at (ap (list_at list_now) there ∙ ap list_now empty)
          (ap (list_at list_now) gone) others es entries item
          (links_at list_now links) removes is.side;
      next_side =
          side_goes list_next look later at (ap (list_at list_next) there ∙ ap list_next empty)
          (ap (list_at list_next) gone) others es entries item
          (links_at list_next links) removes is.next_side;
    }

-- an identifier is held once more
pub inside_held : (old new : Holdings Identifier) (look : ℕ → Option Shelf) (es : Entries) (links : List (Sides LinkSeen))
    (id : Identifier) → IsInside old look es links
    → ((v : ℕ) (a : Identifier) → Names identifier_order old v a → Names identifier_order new v a) → IsPool identifier_order new
    → AreIdentifiers new
    → new.limit ≤ length links
    → ((a : Identifier) (count : ℕ) → IsHeld identifier_order old a count → IsHeld identifier_order new a
    (count + once identifier_order id a))
    → IsInside new look es links
inside_held old new look es links id is kept pool keys room held = record {
  placed = is.placed;
  used = is.used;
  numbered = numbered_kept old new kept look look es (all_same old old refl look es) is.numbered;
  pool = pool;
  keys = keys;
  held = λ a.
      let h = is.held a
      in (
        h.0 + once identifier_order id a,
        subst (λ (n : ℕ). IsHeld identifier_order new a n) (add_assoc (uses_in es a) h.0 (once identifier_order id a))
            (held a (uses_in es a + h.0) h.1),
      );
  table = λ v s. let k = pool.below v s in omega (arith, k, room);
  side = is.side;
  next_side = is.next_side;
}
