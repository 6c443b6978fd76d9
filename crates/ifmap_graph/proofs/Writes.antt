-- One shelf changes: what is stored on its item is what the shelf has then, and on no other item anything changes.
-- Plan: (1) a slot is one item's, and no other entry has it; (2) lists that are alike at each slot give the same rows; (3) the
-- slab after a write has the new shelf there, and the old ones elsewhere; (4) so what is stored on the item is what its
-- shelf has then, and on no other item anything changes.
use Rattle.std.proofs.Common.{◌≡◌, ◌≢◌, ℕ, zero, suc, ◌<◌, length, get_or, true, false, cond, Option, Some, None, IsSome, List, [], ◌∷◌, ◌++◌, map, nat_eq, refl, ap, ◌∙◌, sym, subst, inl, inr, arith}
use Rattle.std.proofs.lemmas.Bool.{cases_Bool, cases_eq, eqb-false}
use Rattle.std.proofs.lemmas.List.{get_or-set_other, get_or-set_same}
use Rattle.std.proofs.lemmas.Option.{none-some, same_Some}
use Rattle.std.specs.BTreeMap.{is_at}
use Rattle.std.specs.List.{AllByRecursion, IsDistinct}
use Rattle.std.specs.Map.{lookup}
use Rattle.std.specs.Ordering.{is_eq}
use Rattle.std.specs.declared.cmp.Ordering.TheVariants.{Equal}
use Rattle.std.specs.Cmp.{Equal-is, tied_back}
use Rattle.std.proofs.lemmas.Map.Keys.{IsDistinct-head, IsDistinct-tail}
use Rattle.slab.specs.Slab.{Slab, get, with_value}
use Rattle.ifmap_lemmas.specs.Having.{Has}
use Rattle.ifmap_ident.specs.declared.items.Item.{Item}
use Rattle.ifmap_ident.specs.Items.{item_order}
use Rattle.ifmap_meta.specs.declared.stored.Stored.{Stored}
use Rattle.ifmap_view.specs.Attachments.{row_on}
use Rattle.ifmap_view.specs.Rows.{stored_on}
use Rattle.ifmap_graph.specs.declared.shelves.Shelf.{Shelf}
use Rattle.ifmap_graph.specs.Shelved.{IsPlaced, StoredSide, list_at, rows_by}
use Rattle.ifmap_graph.specs.Waits.{waits_at, waits_of, waits_there}
use Rattle.ifmap_graph.proofs.Following.{lookup_tied, looked_up}
use Rattle.ifmap_graph.proofs.Finding.{unlisted_empty, entry_stores, live_at}
use Rattle.ifmap_graph.proofs.Shelving.{Entries, slots_of}
use Rattle.ifmap_ident.specs.SameLaws.{items_total}
use Rattle.ifmap_lemmas.specs.Options.{some_is}

-- a slot that no entry has is none of these entries'
no_entry : (m n : ℕ) (k : Item) (es : Entries) → AllByRecursion (λ y. nat_eq m y ≡ false) (slots_of es) → Has es (k, n) → m ≡ n → ⊥
no_entry m n k [] a h e = h
no_entry m n k (x ∷ xs) a (inl p) e = eqb-false m x.1 a.0 (e ∙ sym (ap (λ p. p.1) p))
no_entry m n k (x ∷ xs) a (inr h) e = no_entry m n k xs a.1 h e

-- a slot is one item's
pub one_item : (es : Entries) (k l : Item) (n : ℕ) → IsDistinct nat_eq (slots_of es) → Has es (k, n) → Has es (l, n) → k ≡ l
one_item [] k l n d h i = absurd h
one_item (e ∷ es) k l n d (inl p) (inl q) = ap (λ x. x.0) (sym p ∙ q)
one_item (e ∷ es) k l n d (inl p) (inr i) = absurd (no_entry e.1 n l es (IsDistinct-head nat_eq e.1 (slots_of es) d) i (ap (λ x. x.1) p))
one_item (e ∷ es) k l n d (inr h) (inl q) = absurd (no_entry e.1 n k es (IsDistinct-head nat_eq e.1 (slots_of es) d) h (ap (λ x. x.1) q))
one_item (e ∷ es) k l n d (inr h) (inr i) = one_item es k l n (IsDistinct-tail nat_eq e.1 (slots_of es) d) h i

-- lists that are alike at each slot give the same rows
pub rows_alike : (one other : ℕ → List Stored) → ((n : ℕ) → one n ≡ other n) → (es : Entries) → rows_by one es ≡ rows_by other es
rows_alike one other f [] = refl
rows_alike one other f (e ∷ es) =
    ap (λ l. map (row_on e.0) l ++ rows_by one es) (f e.1) ∙ ap (λ l. map (row_on e.0) (other e.1) ++ l) (rows_alike one other f es)

-- an item that does not tie with another has another slot
pub other_slot : (es : Entries) (item : Item) (at : ℕ) → IsDistinct nat_eq (slots_of es) → lookup (is_at (item_order item)) es ≡ Some at
    → (x : Item) (bt : ℕ) → is_at (item_order item) x ≡ false → lookup (is_at (item_order x)) es ≡ Some bt → bt ≢ at
other_slot es item at apart here x bt f e q =
    let h = looked_up es x bt e
    in let i = looked_up es item at here
    in let same : h.0 ≡ i.0 = one_item es h.0 i.0 at apart (subst (λ n. Has es (h.0, n)) q h.1) i.1
    in let tie : item_order item x ≡ Equal
    = items_total.congr item i.0 x i.2 ∙ ap (λ y. item_order y x) (sym same) ∙ tied_back items_total x h.0 h.2
    in let r : false ≡ true = sym f ∙ ap is_eq tie in cc

module _ (look later : ℕ → Option Shelf) (es : Entries) (is : IsPlaced look es) (item : Item) (at : ℕ)
    (here : lookup (is_at (item_order item)) es ≡ Some at)
    (others : (o : ℕ) → o ≢ at → later o ≡ look o) where
  -- what ties with the item is looked up at its slot, and nothing else is
  pub tied_there : (x : Item) → is_at (item_order item) x ≡ true → lookup (is_at (item_order x)) es ≡ Some at
  tied_there x t = sym (lookup_tied item x es ((Equal-is (item_order item x)).0 t)) ∙ here

  pub on_item : (side : StoredSide) (x : Item) → is_at (item_order item) x ≡ true
      → stored_on x (rows_by (λ n. list_at side (later n)) es) ≡ list_at side (later at)
  on_item side x t = sym (entry_stores (λ n. list_at side (later n)) x es at is.rising (tied_there x t))

  pub on_others : (side : StoredSide) (x : Item) → is_at (item_order item) x ≡ false
      → stored_on x (rows_by (λ n. list_at side (later n)) es) ≡ stored_on x (rows_by (λ n. list_at side (look n)) es)
  on_others side x f = by (lookup (is_at (item_order x)) es) refl
    where
      by : (o : Option ℕ) → lookup (is_at (item_order x)) es ≡ o
          → stored_on x (rows_by (λ n. list_at side (later n)) es) ≡ stored_on x (rows_by (λ n. list_at side (look n)) es)
      by None e = sym (unlisted_empty (λ n. list_at side (later n)) x es e) ∙ unlisted_empty (λ n. list_at side (look n)) x es e
      by (Some bt) e =
          sym (entry_stores (λ n. list_at side (later n)) x es bt is.rising e)
          ∙ ap (list_at side) (others bt (other_slot es item at is.apart here x bt f e))
          ∙ entry_stores (λ n. list_at side (look n)) x es bt is.rising e

  live_later : IsSome (later at) → (es : Entries) → AllByRecursion (λ e. IsSome (look e.1)) es → AllByRecursion (λ e. IsSome (later e.1)) es
  live_later s [] a = tt
  live_later s (e ∷ es) a = (
    elim (cases_eq e.1 at) [
      | inl q ↦ subst (λ (o : Option Shelf). IsSome o) (ap later (sym q)) s
      | inr n ↦ subst (λ (o : Option Shelf). IsSome o) (sym (others e.1 n)) a.0
    ],
    live_later s es a.1,
  )

  pub stays_placed : IsSome (later at) → IsPlaced later es
  stays_placed s = record { rising = is.rising; canon = is.canon; live = live_later s es is.live; apart = is.apart }

  -- a side that the change leaves shows the same rows
  pub same_side : (side : StoredSide) → list_at side (later at) ≡ list_at side (look at)
      → rows_by (λ n. list_at side (later n)) es ≡ rows_by (λ n. list_at side (look n)) es
  same_side side e = rows_alike (λ n. list_at side (later n)) (λ n. list_at side (look n)) (λ n. elim (cases_eq n at) [
    | inl q ↦ ap (λ m. list_at side (later m)) q ∙ e ∙ ap (λ m. list_at side (look m)) (sym q)
    | inr q ↦ ap (list_at side) (others n q)
  ]) es

-- the slot of an item that has a shelf is live
pub slot_live : (look : ℕ → Option Shelf) (es : Entries) (item : Item) (at : ℕ) → IsPlaced look es → lookup (is_at (item_order item)) es ≡
    Some at → IsSome (look at)
slot_live look es item at is h = live_at (λ n. IsSome (look n)) (is_at (item_order item)) es at is.live h

-- the slab after a write has the new shelf there, and the old ones elsewhere
inside : (slots : List (Option Shelf)) (at : ℕ) (s : Shelf) → get_or slots at None ≡ Some s → at < length slots
inside [] at s e = absurd (none-some _ e)
inside (x ∷ xs) zero s e = omega arith
inside (x ∷ xs) (suc n) s e = omega (arith, inside xs n s e)

pub written_there : (slots new : Slab Shelf) (at : ℕ) (s t : Shelf) → get slots at ≡ Some s → new ≡ with_value slots at t
    → get new at ≡ Some t
written_there slots new at s t had e = ap (λ x. get x at) e ∙ get_or-set_same slots.slots at (Some t) None (inside slots.slots at s had)

pub written_elsewhere : (slots new : Slab Shelf) (at : ℕ) (t : Shelf) → new ≡ with_value slots at t → (o : ℕ) → o ≢ at
    → get new o ≡ get slots o
written_elsewhere slots new at t e o n = ap (λ x. get x o) e ∙ get_or-set_other slots.slots at o (Some t) None n

-- a write to the shelf of an item, which was one and is another
pub record Write : Type 0 where
  pub slots : Slab Shelf
  pub new : Slab Shelf
  pub es : Entries
  pub is : IsPlaced (get slots) es
  pub item : Item
  pub at : ℕ
  pub here : lookup (is_at (item_order item)) es ≡ Some at
  pub was : Shelf
  pub later : Shelf
  pub had : get slots at ≡ Some was
  pub wrote : new ≡ with_value slots at later

-- the slot of an item has a shelf, which is written so
abbrev pub write_of : (slots new : Slab Shelf) (es : Entries) → IsPlaced (get slots) es → (item : Item) (at : ℕ)
    → lookup (is_at (item_order item)) es ≡ Some at → (write : Shelf → Shelf)
    → ((s : Shelf) → get slots at ≡ Some s → new ≡ with_value slots at (write s)) → Write
write_of slots new es is item at here write wrote =
    let s = some_is (get slots at) (slot_live (get slots) es item at is here) in record {
      slots = slots;
      new = new;
      es = es;
      is = is;
      item = item;
      at = at;
      here = here;
      was = s.0;
      later = write s.0;
      had = s.1;
      wrote = wrote s.0 s.1;
    }

-- the shelf of an item has a draft
abbrev pub DraftedIn : Slab Shelf → Entries → Item → Type 0
DraftedIn slab es x = (bt : ℕ) × (shelf : Shelf) × (lookup (is_at (item_order x)) es ≡ Some bt) × (get slab bt ≡ Some shelf)
    × IsSome shelf.stored.draft

module _ (w : Write) where
  pub has : get w.new w.at ≡ Some w.later
  has = written_there w.slots w.new w.at w.was w.later w.had w.wrote

  pub elsewhere : (o : ℕ) → o ≢ w.at → get w.new o ≡ get w.slots o
  elsewhere = written_elsewhere w.slots w.new w.at w.later w.wrote

  -- what ties with the item is looked up there, and what does not has the shelf that it had
  pub tied_here : (x : Item) → is_at (item_order w.item) x ≡ true → lookup (is_at (item_order x)) w.es ≡ Some w.at
  tied_here = tied_there (get w.slots) (get w.new) w.es w.is w.item w.at w.here elsewhere

  pub others_there : (x : Item) (bt : ℕ) → is_at (item_order w.item) x ≡ false → lookup (is_at (item_order x)) w.es ≡ Some bt
      → get w.new bt ≡ get w.slots bt
  others_there x bt f e = elsewhere bt (other_slot w.es w.item w.at w.is.apart w.here x bt f e)

  pub is_shelved : IsPlaced (get w.new) w.es
  is_shelved = stays_placed (get w.slots) (get w.new) w.es w.is w.item w.at w.here elsewhere
      (subst (λ (o : Option Shelf). IsSome o) (sym has) refl)

  pub side_stays : (side : StoredSide) → side w.later.stored ≡ side w.was.stored
      → rows_by (λ n. list_at side (get w.new n)) w.es ≡ rows_by (λ n. list_at side (get w.slots n)) w.es
  side_stays side e =
      same_side (get w.slots) (get w.new) w.es w.is w.item w.at w.here elsewhere side (ap (list_at side) has ∙ e
      ∙ sym (ap (list_at side) w.had))

  -- what was stored on what ties with the item
  pub stood_on : (side : StoredSide) (x : Item) → is_at (item_order w.item) x ≡ true → side w.was.stored ≡ stored_on x
      (rows_by (λ n. list_at side (get w.slots n)) w.es)
  stood_on side x e =
      sym (ap (list_at side) w.had) ∙ entry_stores (λ n. list_at side (get w.slots n)) x w.es w.at w.is.rising (tied_here x e)

  -- what is stored on each item now
  pub shows : (side : StoredSide) (list : List Stored) → side w.later.stored ≡ list → (x : Item)
      → stored_on x (rows_by (λ n. list_at side (get w.new n)) w.es)
      ≡ cond (is_at (item_order w.item) x) list (stored_on x (rows_by (λ n. list_at side (get w.slots n)) w.es))
  shows side list e x = elim (cases_Bool (is_at (item_order w.item) x)) [
    | inl y ↦ rw y (on_item (get w.slots) (get w.new) w.es w.is w.item w.at w.here elsewhere side x y ∙ ap (list_at side) has ∙ e)
    | inr f ↦ rw f (on_others (get w.slots) (get w.new) w.es w.is w.item w.at w.here elsewhere side x f)
  ]

  -- the same, where the new list is that of a side before
  pub comes : (side other : StoredSide) → side w.later.stored ≡ other w.was.stored → (x : Item)
      → stored_on x (rows_by (λ n. list_at side (get w.new n)) w.es)
      ≡ stored_on x (cond (is_at (item_order w.item) x) (rows_by (λ n. list_at other (get w.slots n)) w.es)
      (rows_by (λ n. list_at side (get w.slots n)) w.es))
  comes side other e x = elim (cases_Bool (is_at (item_order w.item) x)) [
    | inl y ↦ rw y (on_item (get w.slots) (get w.new) w.es w.is w.item w.at w.here elsewhere side x y
        ∙ ap (list_at side) has ∙ e ∙ stood_on other x y)
    | inr f ↦ rw f (on_others (get w.slots) (get w.new) w.es w.is w.item w.at w.here elsewhere side x f)
  ]

  -- how often what ties with the item was waited for, and is now; and nothing else is otherwise
  pub waits_had : (x : Item) → is_at (item_order w.item) x ≡ true → waits_at (get w.slots) w.es x ≡ w.was.waits
  waits_had x e = ap (waits_there (get w.slots)) (tied_here x e) ∙ ap waits_of w.had

  pub waits_has : (x : Item) → is_at (item_order w.item) x ≡ true → waits_at (get w.new) w.es x ≡ w.later.waits
  waits_has x e = ap (waits_there (get w.new)) (tied_here x e) ∙ ap waits_of has

  pub waits_others : (x : Item) → is_at (item_order w.item) x ≡ false → waits_at (get w.new) w.es x ≡ waits_at (get w.slots) w.es x
  waits_others x f = by (lookup (is_at (item_order x)) w.es) refl
    where
      by : (o : Option ℕ) → lookup (is_at (item_order x)) w.es ≡ o → waits_at (get w.new) w.es x ≡ waits_at (get w.slots) w.es x
      by None e = ap (waits_there (get w.new)) e ∙ sym (ap (waits_there (get w.slots)) e)
      by (Some bt) e =
          ap (waits_there (get w.new)) e ∙ ap waits_of (others_there x bt f e) ∙ sym (ap (waits_there (get w.slots)) e)

  -- a write that leaves no draft: those that are left are of other items, and were there
  pub drafts_left : w.later.stored.draft ≡ None → (x : Item) → DraftedIn w.new w.es x
      → DraftedIn w.slots w.es x × (is_at (item_order w.item) x ≡ false)
  drafts_left none x d = elim (cases_Bool (is_at (item_order w.item) x)) [
    | inl y ↦ let same : d.0 ≡ w.at = same_Some _ _ (sym d.2 ∙ tied_here x y)
        in let shelf : d.1 ≡ w.later = same_Some _ _ (sym d.3 ∙ ap (get w.new) same ∙ has)
        in let q : IsSome {T = List Stored} None = subst (λ (o : Option (List Stored)). IsSome o) (ap (λ s. s.stored.draft) shelf ∙ none)
        d.4 in cc
    | inr f ↦ ((d.0, d.1, d.2, sym (others_there x d.0 f d.2) ∙ d.3, d.4), f)
  ]

  -- the drafts of other items stay
  pub drafts_kept : (x : Item) → is_at (item_order w.item) x ≡ false → DraftedIn w.slots w.es x → DraftedIn w.new w.es x
  drafts_kept x f d = (d.0, d.1, d.2, others_there x d.0 f d.2 ∙ d.3, d.4)
