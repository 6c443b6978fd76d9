-- An item is waited for once less, and its shelf goes where that is empty and nothing waits for it: what is left.
use Rattle.std.proofs.Common.{◌≡◌, ℕ, ◌+◌, ◌<◌, false, Option, Some, None, List, [], option_map, refl, ap, ◌∙◌, sym, subst, inl, inr, arith}
use Rattle.std.proofs.lemmas.Bool.{cases_Bool}
use Rattle.std.specs.BTreeMap.{is_at}
use Rattle.std.specs.Map.{lookup}
use Rattle.std.specs.declared.cmp.Ordering.TheVariants.{Equal}
use Rattle.std.specs.Cmp.{Equal-is}
use Rattle.slab.specs.Slab.{get}
use Rattle.ifmap_ident.specs.declared.identifiers.Identifier.{Identifier}
use Rattle.ifmap_ident.specs.declared.items.Item.{Item}
use Rattle.ifmap_ident.specs.Identifiers.{identifier_order}
use Rattle.ifmap_ident.specs.Items.{item_order}
use Rattle.ifmap_meta.specs.declared.stored.Stored.{Stored}
use Rattle.ifmap_pool.specs.Holdings.{Holdings, IsHeld, Names}
use Rattle.ifmap_view.specs.declared.views.LinkSeen.{LinkSeen}
use Rattle.ifmap_view.specs.Rows.{stored_on}
use Rattle.ifmap_graph.specs.declared.shelves.Shelf.{Shelf}
use Rattle.ifmap_graph.specs.declared.shelves.Shelves.{Shelves}
use Rattle.ifmap_graph.specs.Drafted.{AreBare, NoDraft, ends_at}
use Rattle.ifmap_graph.specs.Inside.{IsInside}
use Rattle.ifmap_graph.specs.Named.{uses_in}
use Rattle.ifmap_graph.specs.Releasing.{IsLess}
use Rattle.ifmap_graph.specs.Shelved.{AreShelved, HasEmptyShelf, ItemsRise, list_at, slot_of_item, rows_by, rows_on_side}
use Rattle.ifmap_graph.specs.Sides.{Sides, list_next, list_now}
use Rattle.ifmap_graph.specs.Waits.{waits_on, waits_there}
use Rattle.ifmap_graph.proofs.Finding.{unlisted_empty, entry_stores}
use Rattle.ifmap_graph.proofs.Following.{lookup_tied, looked_up}
use Rattle.ifmap_graph.proofs.Gone.{bare_left}
use Rattle.ifmap_graph.proofs.Moved.{inside_moved, lists_stay}
use Rattle.ifmap_graph.proofs.Shelving.{Entries}
use Rattle.ifmap_graph.proofs.Writes.{slot_live}
use Rattle.ifmap_lemmas.specs.Having.{all_has}
use Rattle.ifmap_lemmas.specs.Options.{some_is}

-- nothing went
pub less_itself : (names : Holdings Identifier) (s : Shelves) → IsLess names names s s
less_itself names s = record {
  inside = λ links is. is;
  bare = λ b. b;
  rows = refl;
  before = λ x at e. (e, refl);
  full = λ x n. refl;
  named = λ v a n. n;
  own = λ a own h. h;
}

-- one after the other
pub less_on : (one two three : Holdings Identifier) (s t u : Shelves) → IsLess one two s t → IsLess two three t u → IsLess one three s u
less_on one two three s t u p q = record {
  inside = λ links is. q.inside links (p.inside links is);
  bare = λ b. q.bare (p.bare b);
  rows = q.rows ∙ p.rows;
  before = λ x at e. let j = q.before x at e in let i = p.before x at j.0 in (i.0, j.1 ∙ i.1);
  full = λ x n. q.full x (λ m. n (sym (ap (stored_on x) p.rows) ∙ m)) ∙ p.full x n;
  named = λ v a n. p.named v a (q.named v a n);
  own = λ a own h. q.own a own (p.own a own h);
}

-- shelves are written that show the same, on both sides
module _ (names : Holdings Identifier) (s t : Shelves) (later : AreShelved t) (places : t.places ≡ s.places)
    (ends : (at : ℕ) → ends_at t at ≡ ends_at s at)
    (rows : rows_on_side list_now t ≡ rows_on_side list_now s) (same : rows_on_side list_next t ≡ rows_on_side list_next s) where
  pub inside_written : (links : List (Sides LinkSeen)) → IsInside names (get s.slots) s.places.entries links
      → IsInside names (get t.slots) t.places.entries links
  inside_written links is =
      subst (λ p. IsInside names (get t.slots) p.entries links) (sym places)
      (inside_moved (get s.slots) (get t.slots) ends names s.places.entries links links list_now list_next list_now list_next
      (lists_stay s t is.placed later places is.used ends list_now list_now rows)
      (lists_stay s t is.placed later places is.used ends list_next list_next same)
      (λ v. refl) (λ v. refl) refl is.side is.next_side is)

  pub less_written : (AreBare s → AreBare t) → IsLess names names s t
  less_written bare = record {
    inside = inside_written;
    bare = bare;
    rows = rows;
    before = λ x at e. (sym (ap (λ p. lookup (is_at (item_order x)) p.entries) places) ∙ e, ends at);
    full = λ x n. ap (λ p. lookup (is_at (item_order x)) p.entries) places;
    named = λ v a n. n;
    own = λ a own h. subst (λ p. IsHeld identifier_order names a (uses_in p.entries a + own)) (sym places) h;
  }

-- on items that tie the same is stored
stored_tied : (list_of : ℕ → List Stored) (es : Entries) → ItemsRise es → (x y : Item) → item_order x y ≡ Equal
    → stored_on x (rows_by list_of es) ≡ stored_on y (rows_by list_of es)
stored_tied list_of es rising x y t = by (lookup (is_at (item_order y)) es) refl
  where
    by : (o : Option ℕ) → lookup (is_at (item_order y)) es ≡ o → stored_on x (rows_by list_of es) ≡ stored_on y (rows_by list_of es)
    by None e = sym (unlisted_empty list_of x es (lookup_tied x y es t ∙ e)) ∙ unlisted_empty list_of y es e
    by (Some at) e = sym (entry_stores list_of x es at rising (lookup_tied x y es t ∙ e)) ∙ entry_stores list_of y es at rising e

-- the shelf of an item goes, on which nothing is stored
pub less_removed : (names left : Holdings Identifier) (s t : Shelves) (item : Item) → AreShelved s → AreShelved t
    → stored_on item (rows_on_side list_now s) ≡ []
    → ((links : List (Sides LinkSeen)) → IsInside names (get s.slots) s.places.entries links
    → IsInside left (get t.slots) t.places.entries links)
    → rows_on_side list_now t ≡ rows_on_side list_now s
    → ((x : Item) (at : ℕ) → slot_of_item t x ≡ Some at → (slot_of_item s x ≡ Some at) × (get t.slots at ≡ get s.slots at))
    → ((x : Item) → is_at (item_order item) x ≡ false → slot_of_item t x ≡ slot_of_item s x)
    → ((v : ℕ) (a : Identifier) → Names identifier_order left v a → Names identifier_order names v a)
    → ((a : Identifier) (own : ℕ) → IsHeld identifier_order names a (uses_in s.places.entries a + own)
    → IsHeld identifier_order left a (uses_in t.places.entries a + own))
    → IsLess names left s t
less_removed names left s t item is later empty inside rows before others named own = record {
  inside = inside;
  bare = bare_left s t before later;
  rows = rows;
  before = λ x at e. let p = before x at e in (p.0, ap (option_map (λ (shelf : Shelf). shelf.ends)) p.1);
  full = λ x n. elim (cases_Bool (is_at (item_order item) x)) [
    | inl y ↦ let tie = (Equal-is (item_order item x)).0 y
        in absurd (n (sym (stored_tied (λ at. list_at list_now (get s.slots at)) s.places.entries is.rising item x tie) ∙ empty))
    | inr f ↦ others x f
  ];
  named = named;
  own = own;
}

-- an item that is waited for has a shelf
pub waited_there : (s : Shelves) (x : Item) → 0 < waits_on s x → (at : ℕ) × (slot_of_item s x ≡ Some at)
waited_there s x w = by (slot_of_item s x) refl w
  where
    by : (o : Option ℕ) → slot_of_item s x ≡ o → 0 < waits_on s x → (at : ℕ) × (slot_of_item s x ≡ Some at)
    by None e w = let zero : waits_on s x ≡ 0 = ap (waits_there (get s.slots)) e in absurd (omega (arith, w, zero))
    by (Some at) e w = (at, e)

-- places that stay
pub is_there_still : (s t : Shelves) (x : Item) (at : ℕ) → t.places ≡ s.places → slot_of_item s x ≡ Some at → slot_of_item t x ≡ Some at
is_there_still s t x at places e = ap (λ p. lookup (is_at (item_order x)) p.entries) places ∙ e

both : (x : Sides Stored) → x.now ≡ [] → x.draft ≡ None → x ≡ record { now = []; draft = None }
both x e f = ap (λ n. record { now = n; draft = x.draft }) e ∙ ap (λ d. record { now = []; draft = d }) f

-- where no shelf has a draft, a shelf on whose item nothing is stored is empty
pub is_bare : (s : Shelves) (item : Item) (at : ℕ) → AreShelved s → AreBare s → slot_of_item s item ≡ Some at
    → stored_on item (rows_on_side list_now s) ≡ [] → HasEmptyShelf s item
is_bare s item at is bare here empty =
    let l = some_is (get s.slots at) (slot_live (get s.slots) s.places.entries item at is here)
    in let q = looked_up s.places.entries item at here
    in let none : NoDraft (Some l.0) = subst NoDraft l.1 (all_has (λ e. NoDraft (get s.slots e.1)) s.places.entries bare (q.0, at) q.1)
    in (
      at,
      l.0,
      here,
      l.1,
      both l.0.stored
          (sym (ap (list_at list_now) l.1)
          ∙ entry_stores (λ n. list_at list_now (get s.slots n)) item s.places.entries at is.rising here ∙ empty)
          none,
    )
