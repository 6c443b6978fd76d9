-- Shelves that come for items that had none, one after another, and go again.
-- Plan: (1) an item that had no shelf is none of those that have one; (2) nothing came (`brings_none`), and first these, then
-- those (`brings_both`); (3) one of them goes again (`brings_less`); (4) lists of shelves are written, which changes no
-- place; (5) the shelf of one item comes.
use Rattle.std.proofs.Common.{◌≡◌, ℕ, ◌+◌, Bool, true, false, cond, Option, Some, None, IsSome, List, [], ◌∷◌, ◌++◌, refl, ap, ◌∙◌, sym, subst, inl, inr, arith}
use Rattle.std.proofs.lemmas.Bool.{cases_Bool}
use Rattle.std.proofs.lemmas.Cmp.{tied_itself}
use Rattle.std.specs.BTreeMap.{is_at, insert_entry}
use Rattle.std.specs.List.{AllByRecursion}
use Rattle.std.specs.Map.{lookup, remove_entry}
use Rattle.std.specs.Ordering.{is_eq}
use Rattle.std.specs.Cmp.{Equal-is}
use Rattle.slab.specs.Slab.{get}
use Rattle.ifmap_ident.specs.declared.identifiers.Identifier.{Identifier}
use Rattle.ifmap_ident.specs.declared.items.Item.{Item}
use Rattle.ifmap_ident.specs.Items.{item_order, items_tie, same_item}
use Rattle.ifmap_graph.specs.declared.shelves.Shelf.{Shelf}
use Rattle.ifmap_graph.specs.declared.shelves.Shelves.{Shelves}
use Rattle.ifmap_graph.specs.Bringing.{BringsShelves, IsOther, flagged_items, uses_by}
use Rattle.ifmap_graph.specs.Drafted.{AreBare, NoDraft, ends_at}
use Rattle.ifmap_graph.specs.Named.{uses_of, uses_in}
use Rattle.ifmap_graph.specs.Shelved.{AreShelved, slot_of_item}
use Rattle.ifmap_graph.specs.Waits.{waits_of, waits_on, waits_there}
use Rattle.ifmap_graph.proofs.Finding.{all_inserted}
use Rattle.ifmap_graph.proofs.Following.{lookup_tied}
use Rattle.ifmap_graph.proofs.Leaving.{comes, goes}
use Rattle.ifmap_graph.proofs.Shelving.{Entries, slots_stay}
use Rattle.ifmap_graph.proofs.Staying.{ends_of}
use Rattle.ifmap_graph.proofs.Writes.{slot_live}
use Rattle.ifmap_ident.specs.SameLaws.{items_total}
use Rattle.ifmap_lemmas.specs.Filters.{all_weaker}
use Rattle.ifmap_lemmas.specs.Members.{both_all}
use Rattle.ifmap_lemmas.specs.Options.{is_some_of, some_none}

-- what ties is in one place
place_tied : (s : Shelves) (x y : Item) → is_at (item_order x) y ≡ true → slot_of_item s x ≡ slot_of_item s y
place_tied s x y t = lookup_tied x y s.places.entries ((Equal-is (item_order x y)).0 t)

-- an item that has no shelf is none of those that have one; and one that has is none of those that have none
other_there : (s : Shelves) (xs : List Item) (y : Item) → AllByRecursion (λ x. IsSome (slot_of_item s x)) xs → slot_of_item s y ≡ None
    → IsOther xs y
other_there s [] y a e = tt
other_there s (x ∷ xs) y a e = (
  elim (cases_Bool (is_at (item_order x) y)) [
    | inl t ↦ absurd (some_none (slot_of_item s x) a.0 (place_tied s x y t ∙ e))
    | inr f ↦ f
  ],
  other_there s xs y a.1 e,
)

pub other_absent : (s : Shelves) (xs : List Item) (y : Item) → AllByRecursion (λ x. slot_of_item s x ≡ None) xs → IsSome (slot_of_item s y)
    → IsOther xs y
other_absent s [] y a e = tt
other_absent s (x ∷ xs) y a e = (
  elim (cases_Bool (is_at (item_order x) y)) [
    | inl t ↦ absurd (some_none (slot_of_item s y) e (sym (place_tied s x y t) ∙ a.0))
    | inr f ↦ f
  ],
  other_absent s xs y a.1 e,
)

-- what is none of some is none of those that are flagged
pub other_flagged : (xs : List Item) (flags : List Bool) (y : Item) → IsOther xs y → IsOther (flagged_items xs flags) y
other_flagged [] flags y o = tt
other_flagged (x ∷ xs) [] y o = tt
other_flagged (x ∷ xs) (true ∷ fs) y o = (o.0, other_flagged xs fs y o.1)
other_flagged (x ∷ xs) (false ∷ fs) y o = other_flagged xs fs y o.1

other_parts : (xs ys : List Item) (x : Item) → IsOther (xs ++ ys) x → IsOther xs x × IsOther ys x
other_parts [] ys x o = (tt, o)
other_parts (z ∷ zs) ys x o = let p = other_parts zs ys x o.1 in ((o.0, p.0), p.1)

named_joined : (xs ys : List Item) (a : Identifier) → uses_by (xs ++ ys) a ≡ uses_by xs a + uses_by ys a
named_joined [] ys a = omega arith
named_joined (x ∷ xs) ys a = omega (arith, named_joined xs ys a)

-- nothing came
pub brings_none : (s t : Shelves) → t.places.entries ≡ s.places.entries → ((at : ℕ) → ends_at t at ≡ ends_at s at)
    → ((x : Item) → waits_on t x ≡ waits_on s x)
    → BringsShelves [] s t
brings_none s t entries ends waits = record {
  absent = tt;
  there = tt;
  places = λ x o. ap (lookup (is_at (item_order x))) entries;
  ends = λ x at e. ends at;
  waits = waits;
  named = λ a. omega (arith, ap (λ es. uses_in es a) entries);
}

-- first these, then those
pub brings_both : (xs ys : List Item) (s t u : Shelves) → BringsShelves xs s t → BringsShelves ys t u → BringsShelves (xs ++ ys) s u
brings_both xs ys s t u p q = record {
  absent = both_all (λ x. slot_of_item s x ≡ None) xs ys p.absent
      (all_weaker (λ y. slot_of_item t y ≡ None) (λ y. slot_of_item s y ≡ None)
      (λ y e. sym (p.places y (other_there t xs y p.there e)) ∙ e) ys q.absent);
  there = both_all (λ x. IsSome (slot_of_item u x)) xs ys
      (all_weaker (λ x. IsSome (slot_of_item t x)) (λ x. IsSome (slot_of_item u x))
      (λ x h. subst (λ (o : Option ℕ). IsSome o) (sym (q.places x (other_absent t ys x q.absent h))) h) xs p.there) q.there;
  places = λ x o. let r = other_parts xs ys x o in q.places x r.1 ∙ p.places x r.0;
  ends = λ x at e. q.ends x at (p.places x (other_absent s xs x p.absent (is_some_of (slot_of_item s x) at e)) ∙ e) ∙ p.ends x at e;
  waits = λ x. q.waits x ∙ p.waits x;
  named = λ a. omega (arith, p.named a, q.named a, named_joined xs ys a);
}

-- one of them goes again
pub brings_less : (x : Item) (rest : List Item) (s t u : Shelves) → BringsShelves (x ∷ rest) s u → BringsShelves (x ∷ []) t u
    → AllByRecursion (λ y. same_item x y ≡ false) rest → BringsShelves rest s t
brings_less x rest s t u p q apart = record {
  absent = p.absent.1;
  there = all_there rest apart p.there.1;
  places = λ z o. elim (cases_Bool (is_at (item_order x) z)) [
    | inl y ↦ sym (place_tied t x z y) ∙ q.absent.0 ∙ sym p.absent.0 ∙ place_tied s x z y
    | inr f ↦ sym (q.places z (f, tt)) ∙ p.places z (f, o)
  ];
  ends = λ z at e.
      let o = other_absent s (x ∷ rest) z p.absent (is_some_of (slot_of_item s z) at e)
      in sym (q.ends z at (sym (q.places z (o.0, tt)) ∙ p.places z o ∙ e)) ∙ p.ends z at e;
  waits = λ z. sym (q.waits z) ∙ p.waits z;
  named = λ a. omega (arith, p.named a, q.named a);
}
  where
    all_there : (ys : List Item) → AllByRecursion (λ y. same_item x y ≡ false) ys → AllByRecursion (λ y. IsSome (slot_of_item u y)) ys
        → AllByRecursion (λ y. IsSome (slot_of_item t y)) ys
    all_there [] a b = tt
    all_there (y ∷ ys) a b = (
      subst (λ (o : Option ℕ). IsSome o) (q.places y (sym (items_tie x y) ∙ a.0, tt)) b.0,
      all_there ys a.1 b.1,
    )

-- lists of shelves were written
pub brings_written : (items : List Item) (s t u : Shelves) → BringsShelves items s t → u.places ≡ t.places
    → ((at : ℕ) → ends_at u at ≡ ends_at t at)
    → ((x : Item) → waits_on u x ≡ waits_on t x) → BringsShelves items s u
brings_written items s t u p places ends waits = record {
  absent = p.absent;
  there = all_weaker (λ x. IsSome (slot_of_item t x)) (λ x. IsSome (slot_of_item u x))
      (λ x h. subst (λ (o : Option ℕ). IsSome o) (sym (ap (λ p. lookup (is_at (item_order x)) p.entries) places)) h) items p.there;
  places = λ x o. ap (λ p. lookup (is_at (item_order x)) p.entries) places ∙ p.places x o;
  ends = λ x at e. ends at ∙ p.ends x at e;
  waits = λ x. waits x ∙ p.waits x;
  named = λ a. ap (λ p. uses_in p.entries a) places ∙ p.named a;
}

-- the shelf of one item comes
pub brings_one : (s t : Shelves) (item : Item) (at : ℕ) (shelf : Shelf) → AreShelved s → slot_of_item s item ≡ None
    → ((x : Item) → slot_of_item t x ≡ cond (is_at (item_order item) x) (Some at) (slot_of_item s x))
    → t.places.entries ≡ insert_entry item_order s.places.entries item at
    → get s.slots at ≡ None → get t.slots at ≡ Some shelf → shelf.waits ≡ 0 → ((o : ℕ) → (o ≡ at → ⊥) → get t.slots o ≡ get s.slots o)
    → BringsShelves (item ∷ []) s t
brings_one s t item at shelf is none updates inserts vacant has zero others = record {
  absent = (none, tt);
  there = (is_some_of (slot_of_item t item) at (here item (ap is_eq (tied_itself items_total item))), tt);
  places = λ x o. elsewhere x o.0;
  ends = λ x n e. ap ends_of (others n (λ q. vacant_not x n e q));
  waits = λ x. elim (cases_Bool (is_at (item_order item) x)) [
    | inl y ↦ ap (waits_there (get t.slots)) (here x y) ∙ ap waits_of has ∙ zero
        ∙ sym (ap (waits_there (get s.slots)) (sym (place_tied s item x y) ∙ none))
    | inr f ↦ waits_same x f (slot_of_item s x) refl
  ];
  named = λ a. ap (λ es. uses_in es a) inserts ∙ comes s.places.entries item at a none
      ∙ plus (uses_of item a) (uses_in s.places.entries a);
}
  where
    plus : (n m : ℕ) → n + m ≡ (n + 0) + m
    plus n m = omega arith

    here : (x : Item) → is_at (item_order item) x ≡ true → slot_of_item t x ≡ Some at
    here x y = updates x ∙ ap (λ b. cond b (Some at) (slot_of_item s x)) y

    elsewhere : (x : Item) → is_at (item_order item) x ≡ false → slot_of_item t x ≡ slot_of_item s x
    elsewhere x f = updates x ∙ ap (λ b. cond b (Some at) (slot_of_item s x)) f

    vacant_not : (x : Item) (n : ℕ) → slot_of_item s x ≡ Some n → n ≡ at → ⊥
    vacant_not x n e q = some_none (get s.slots n) (slot_live (get s.slots) s.places.entries x n is e) (ap (get s.slots) q ∙ vacant)

    waits_same : (x : Item) → is_at (item_order item) x ≡ false → (o : Option ℕ) → slot_of_item s x ≡ o → waits_on t x ≡ waits_on s x
    waits_same x f None e = ap (waits_there (get t.slots)) (elsewhere x f ∙ e) ∙ sym (ap (waits_there (get s.slots)) e)
    waits_same x f (Some n) e =
        ap (waits_there (get t.slots)) (elsewhere x f ∙ e) ∙ ap waits_of (others n (vacant_not x n e))
        ∙ sym (ap (waits_there (get s.slots)) e)

-- the shelf of one item goes
pub brings_taken : (s t : Shelves) (item : Item) (at : ℕ) → slot_of_item s item ≡ Some at
    → ((x : Item) → slot_of_item t x ≡ cond (is_at (item_order item) x) None (slot_of_item s x))
    → t.places.entries ≡ remove_entry (is_at (item_order item)) s.places.entries
    → ((x : Item) (n : ℕ) → slot_of_item t x ≡ Some n → get t.slots n ≡ get s.slots n) → waits_on s item ≡ 0 → BringsShelves (item ∷ []) t s
brings_taken s t item at here updates removes before zero = record {
  absent = (gone item (ap is_eq (tied_itself items_total item)), tt);
  there = (is_some_of (slot_of_item s item) at here, tt);
  places = λ x o. sym (elsewhere x o.0);
  ends = λ x n e. sym (ap ends_of (before x n e));
  waits = λ x. elim (cases_Bool (is_at (item_order item) x)) [
    | inl y ↦ ap (waits_there (get s.slots)) (sym (place_tied s item x y)) ∙ zero ∙ sym (ap (waits_there (get t.slots)) (gone x y))
    | inr f ↦ waits_same x f (slot_of_item t x) refl
  ];
  named = λ a. sym (goes s.places.entries item at a here) ∙ ap (λ es. uses_of item a + uses_in es a) (sym removes)
      ∙ plus (uses_of item a) (uses_in t.places.entries a);
}
  where
    plus : (n m : ℕ) → n + m ≡ (n + 0) + m
    plus n m = omega arith

    gone : (x : Item) → is_at (item_order item) x ≡ true → slot_of_item t x ≡ None
    gone x y = updates x ∙ ap (λ b. cond b None (slot_of_item s x)) y

    elsewhere : (x : Item) → is_at (item_order item) x ≡ false → slot_of_item t x ≡ slot_of_item s x
    elsewhere x f = updates x ∙ ap (λ b. cond b None (slot_of_item s x)) f

    waits_same : (x : Item) → is_at (item_order item) x ≡ false → (o : Option ℕ) → slot_of_item t x ≡ o → waits_on s x ≡ waits_on t x
    waits_same x f None e = ap (waits_there (get s.slots)) (sym (elsewhere x f) ∙ e) ∙ sym (ap (waits_there (get t.slots)) e)
    waits_same x f (Some n) e =
        ap (waits_there (get s.slots)) (sym (elsewhere x f) ∙ e) ∙ sym (ap waits_of (before x n e)) ∙ sym (ap (waits_there (get t.slots)) e)

-- nothing goes
pub brings_unless : (items : List Item) (s t u : Shelves) → BringsShelves items s u → BringsShelves [] t u → BringsShelves items s t
brings_unless items s t u p q = record {
  absent = p.absent;
  there = all_weaker (λ x. IsSome (slot_of_item u x)) (λ x. IsSome (slot_of_item t x))
      (λ x h. subst (λ (o : Option ℕ). IsSome o) (q.places x tt) h) items p.there;
  places = λ x o. sym (q.places x tt) ∙ p.places x o;
  ends = λ x at e.
      let o = other_absent s items x p.absent (is_some_of (slot_of_item s x) at e)
      in sym (q.ends x at (sym (q.places x tt) ∙ p.places x o ∙ e)) ∙ p.ends x at e;
  waits = λ x. sym (q.waits x) ∙ p.waits x;
  named = λ a. omega (arith, p.named a, q.named a);
}

-- shelves that had come do not change what is there
pub there_still : (items : List Item) (s t : Shelves) → BringsShelves items s t → (x : Item) → IsSome (slot_of_item s x) → IsSome
    (slot_of_item t x)
there_still items s t p x h = subst (λ (o : Option ℕ). IsSome o) (sym (p.places x (other_absent s items x p.absent h))) h

-- who has no shelf is not waited for
pub never_waited : (s : Shelves) (x : Item) → slot_of_item s x ≡ None → waits_on s x ≡ 0
never_waited s x e = ap (waits_there (get s.slots)) e

-- a shelf that comes has no draft
pub bare_comes : (s t : Shelves) (item : Item) (at : ℕ) (shelf : Shelf) → AreShelved s → AreBare s → slot_of_item s item ≡ None
    → t.places.entries ≡ insert_entry item_order s.places.entries item at → get s.slots at ≡ None → get t.slots at ≡ Some shelf
    → shelf.stored.draft ≡ None
    → ((o : ℕ) → (o ≡ at → ⊥) → get t.slots o ≡ get s.slots o) → AreBare t
bare_comes s t item at shelf is bare none inserts vacant has empty others =
    subst (λ es. AllByRecursion (λ e. NoDraft (get t.slots e.1)) es) (sym inserts)
    (all_inserted (λ e. NoDraft (get t.slots e.1)) s.places.entries item at none
    (still s.places.entries (slots_stay (get s.slots) (get t.slots) at vacant others s.places.entries is.live) bare)
    (subst NoDraft (sym has) empty))
  where
    still : (es : Entries) → AllByRecursion (λ e. get t.slots e.1 ≡ get s.slots e.1) es → AllByRecursion (λ e. NoDraft (get s.slots e.1)) es
        → AllByRecursion (λ e. NoDraft (get t.slots e.1)) es
    still [] a b = tt
    still (e ∷ es) a b = (subst NoDraft (sym a.0) b.0, still es a.1 b.1)
