-- A graph's parts after its shelves were written, and none came or went: each side moves with its lists.
use Rattle.std.proofs.Common.{◌≡◌, ℕ, ◌<◌, Option, Some, None, IsSome, List, [], ◌∷◌, length, nat_eq, refl, ap, ◌∙◌, sym, subst}
use Rattle.std.proofs.lemmas.Option.{same_Some, none-some}
use Rattle.std.specs.List.{AllByRecursion, Contains, IsDistinct}
use Rattle.slab.specs.Slab.{get}
use Rattle.ifmap_lemmas.specs.Having.{Has}
use Rattle.ifmap_ident.specs.declared.identifiers.Identifier.{Identifier}
use Rattle.ifmap_ident.specs.declared.items.Item.{Item}
use Rattle.ifmap_pool.specs.Holdings.{Holdings}
use Rattle.ifmap_plans.specs.Lists.{IsList}
use Rattle.ifmap_view.specs.declared.views.LinkSeen.{LinkSeen}
use Rattle.ifmap_view.specs.Rows.{stored_on}
use Rattle.ifmap_graph.specs.declared.shelves.Shelf.{Shelf}
use Rattle.ifmap_graph.specs.declared.shelves.Shelves.{Shelves}
use Rattle.ifmap_graph.specs.Drafted.{ends_at}
use Rattle.ifmap_graph.specs.Inside.{IsInside, IsSide, links_at}
use Rattle.ifmap_graph.specs.Joined.{is_not_empty, joined_pair, two_of}
use Rattle.ifmap_graph.specs.Linked.{link_places}
use Rattle.ifmap_graph.specs.Named.{AreEnds, AreNumbered, HasEnds}
use Rattle.ifmap_graph.specs.Shelved.{AreShelved, IsPlaced, StoredSide, list_at, rows_on_side}
use Rattle.ifmap_graph.specs.Sides.{Sides, list_next, list_now}
use Rattle.ifmap_graph.proofs.Finding.{entry_stores}
use Rattle.ifmap_graph.proofs.Following.{entry_hits}
use Rattle.ifmap_graph.proofs.Shelving.{Entries}
use Rattle.ifmap_graph.proofs.Staying.{ends_of}
use Rattle.ifmap_graph.proofs.Links.{joins_alike}

joined_by : (o p : Option Shelf) → ends_of o ≡ ends_of p → joined_pair o ≡ joined_pair p
joined_by None None e = refl
joined_by None (Some t) e = absurd (none-some _ e)
joined_by (Some s) None e = absurd (none-some _ (sym e))
joined_by (Some s) (Some t) e = ap two_of (same_Some _ _ e)

pub live_by : (o p : Option Shelf) → ends_of o ≡ ends_of p → IsSome p → IsSome o
live_by None None e s = s
live_by None (Some t) e s = absurd (none-some _ e)
live_by (Some a) p e s = refl

has_by : (names : Holdings Identifier) (item : Item) (o p : Option Shelf) → ends_of o ≡ ends_of p → HasEnds names item p
    → HasEnds names item o
has_by names item None None e h = h
has_by names item None (Some t) e h = absurd (none-some _ e)
has_by names item (Some s) None e h = absurd (none-some _ (sym e))
has_by names item (Some s) (Some t) e h = subst (AreEnds names item) (sym (same_Some _ _ e)) h

module _ (look later : ℕ → Option Shelf) (ends : (at : ℕ) → ends_of (later at) ≡ ends_of (look at)) where
  all_live : (es : Entries) → AllByRecursion (λ e. IsSome (look e.1)) es → AllByRecursion (λ e. IsSome (later e.1)) es
  all_live [] a = tt
  all_live (e ∷ es) a = (live_by (later e.1) (look e.1) (ends e.1) a.0, all_live es a.1)

  pub still_numbered : (names : Holdings Identifier) (es : Entries) → AreNumbered names look es → AreNumbered names later es
  still_numbered names [] a = tt
  still_numbered names (e ∷ es) a = (has_by names e.0 (later e.1) (look e.1) (ends e.1) a.0, still_numbered names es a.1)

  -- the lists and the links of one side come to be those of another
  module _ (side other : StoredSide) (lists : (at : ℕ) → list_at other (later at) ≡ list_at side (look at))
      (links moved : ℕ → List LinkSeen)
      (same : (v : ℕ) → moved v ≡ links v) where
    all_lists : (es : Entries) → AllByRecursion (λ e. IsList (list_at side (look e.1))) es → AllByRecursion
        (λ e. IsList (list_at other (later e.1))) es
    all_lists [] a = tt
    all_lists (e ∷ es) a = (subst IsList (sym (lists e.1)) a.0, all_lists es a.1)

    pub side_moved : (es : Entries) → IsSide side look es links → IsSide other later es moved
    side_moved es is = record {
      lists = all_lists es is.lists;
      listed = record {
        only = λ v seen c.
            let p = is.listed.only v seen (subst (λ l. Contains l seen) (same v) c)
            in (
              joins_alike (λ n. joined_pair (look n)) (λ n. joined_pair (later n)) seen.at v seen.other
                  (joined_by (later seen.at) (look seen.at) (ends seen.at)) p.0,
              ap is_not_empty (lists seen.at) ∙ p.1,
            );
        each = λ v w at e f.
            subst (λ l. Contains l (record { other = w; at = at })) (sym (same v))
            (is.listed.each v w at (joins_alike (λ n. joined_pair (later n)) (λ n. joined_pair (look n)) at v w
            (sym (joined_by (later at) (look at) (ends at))) e) (sym (ap is_not_empty (lists at)) ∙ f));
      };
      once = λ v. subst (λ l. IsDistinct nat_eq (link_places l)) (sym (same v)) (is.once v);
    }

  pub placed_still : (es : Entries) → IsPlaced look es → IsPlaced later es
  placed_still es is = record { rising = is.rising; canon = is.canon; live = all_live es is.live; apart = is.apart }

  pub used_still : (es : Entries) → ((at : ℕ) → IsSome (look at) → (item : Item) × Has es (item, at))
      → (at : ℕ) → IsSome (later at) → (item : Item) × Has es (item, at)
  used_still es f at s = f at (live_by (look at) (later at) (sym (ends at)) s)

  -- all parts together, where both sides are in order
  pub inside_anew : (names : Holdings Identifier) (es : Entries) (links moved : List (Sides LinkSeen)) → length moved ≡ length links
      → IsSide list_now later es (links_at list_now moved) → IsSide list_next later es (links_at list_next moved)
      → IsInside names look es links
      → IsInside names later es moved
  inside_anew names es links moved long first second is = record {
    placed = placed_still es is.placed;
    used = used_still es is.used;
    numbered = still_numbered names es is.numbered;
    pool = is.pool;
    keys = is.keys;
    held = is.held;
    table = λ v s. subst (λ (n : ℕ). v < n) (sym long) (is.table v s);
    side = first;
    next_side = second;
  }

  -- all parts together, where both sides come to be what one was
  pub inside_moved : (names : Holdings Identifier) (es : Entries) (links moved : List (Sides LinkSeen)) (one two : StoredSide)
      (from : (Sides LinkSeen → List LinkSeen)) (then : (Sides LinkSeen → List LinkSeen))
      → ((at : ℕ) → list_at list_now (later at) ≡ list_at one (look at)) → ((at : ℕ) → list_at list_next (later at) ≡ list_at two (look at))
      → ((v : ℕ) → links_at list_now moved v ≡ links_at from links v) → ((v : ℕ) → links_at list_next moved v ≡ links_at then links v)
      → length moved ≡ length links
      → IsSide one look es (links_at from links) → IsSide two look es (links_at then links) → IsInside names look es links
      → IsInside names later es moved
  inside_moved names es links moved one two from then f g ln lx long first second is =
      inside_anew names es links moved long (side_moved one list_now f (links_at from links) (links_at list_now moved) ln es first)
      (side_moved two list_next g (links_at then links) (links_at list_next moved) lx es second) is

-- lists are the same at each slot where the same is stored on each item
module _ (s t : Shelves) (is : AreShelved s) (later : AreShelved t) (places : t.places ≡ s.places)
    (used : (at : ℕ) → IsSome (get s.slots at) → (item : Item) × Has s.places.entries (item, at))
    (ends : (at : ℕ) → ends_at t at ≡ ends_at s at) (side other : StoredSide) (rows : rows_on_side other t ≡ rows_on_side side s) where
  at_item : (at : ℕ) (item : Item) → Has s.places.entries (item, at) → list_at other (get t.slots at) ≡ list_at side (get s.slots at)
  at_item at item h =
      entry_stores (λ n. list_at other (get t.slots n)) item t.places.entries at later.rising
      (entry_hits t.places.entries item at later.rising (subst (λ p. Has p.entries (item, at)) (sym places) h))
      ∙ ap (stored_on item) rows
      ∙ sym (entry_stores (λ n. list_at side (get s.slots n)) item s.places.entries at is.rising
      (entry_hits s.places.entries item at is.rising h))

  none_there : (o p : Option Shelf) → ends_of p ≡ ends_of o → o ≡ None → list_at other p ≡ list_at side o
  none_there None None e n = refl
  none_there None (Some x) e n = absurd (none-some _ (sym e))
  none_there (Some x) p e n = absurd (none-some _ (sym n))

  pub lists_stay : (at : ℕ) → list_at other (get t.slots at) ≡ list_at side (get s.slots at)
  lists_stay at = by (get s.slots at) refl
    where
      by : (o : Option Shelf) → get s.slots at ≡ o → list_at other (get t.slots at) ≡ list_at side (get s.slots at)
      by None e = none_there (get s.slots at) (get t.slots at) (ends at) e
      by (Some shelf) e = let h = used at (subst (λ (o : Option Shelf). IsSome o) (sym e) refl) in at_item at h.0 h.1
