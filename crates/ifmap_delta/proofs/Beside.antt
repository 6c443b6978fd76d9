-- Changes beside their items, from the last change on. In order: the items rise by what they are (`rises_on`); at first no item
-- has a change (`unpaired_paired`); a change of another item is none of this one (`other_change`), and one of it is the first
-- (`its_change`); so one that is put beside its item (`set_paired`), or has no item among these (`none_paired`), is one more with
-- which all are paired.
use Rattle.std.proofs.Common.{◌≡◌, inl, inr, ℕ, zero, suc, ◌<◌, ◌+◌, true, false, List, [], ◌∷◌, map, length, get_or, set, drop}
use Rattle.std.proofs.Common.{Some, refl, ap, ◌∙◌, sym, subst, arith}
use Rattle.std.proofs.lemmas.Bool.{cases_Bool}
use Rattle.std.proofs.lemmas.Cmp.{alike_right, on_total}
use Rattle.std.proofs.lemmas.List.{drop_all, drop_more}
use Rattle.std.proofs.lemmas.Option.{slice_get_read}
use Rattle.std.specs.Cmp.{IsTotalOrder}
use Rattle.std.specs.List.{AllByRecursion, list_any}
use Rattle.std.specs.List.Sorted.{IsStrictlySortedBy}
use Rattle.std.specs.Ordering.{is_eq, on, ordering_reverse}
use Rattle.std.specs.declared.cmp.Ordering.{Ordering}
use Rattle.std.specs.declared.cmp.Ordering.TheVariants.{Less, Equal}
use Rattle.ifmap_ident.specs.declared.items.Item.{Item}
use Rattle.ifmap_ident.specs.Items.{item_order, items_tie, same_item}
use Rattle.ifmap_lemmas.specs.Having.{all_has, Has, any_has, has_any, has_map}
use Rattle.ifmap_lemmas.specs.Rising.{head_rises, tail_rises}
use Rattle.ifmap_plans.specs.declared.plans.ItemChange.{ItemChange}
use Rattle.ifmap_plans.specs.Plans.{change_of}
use Rattle.ifmap_delta.specs.declared.pairing.TouchedItem.{TouchedItem}
use Rattle.ifmap_delta.specs.Touched.{IsPaired, change_at, items_touched, with_no_place}
use Rattle.ifmap_ident.specs.SameLaws.{same_equal, less_item_differs, items_total}

abbrev pub touched_order : TouchedItem → TouchedItem → Ordering
touched_order = on (λ (t : TouchedItem). t.item) item_order

pub touched_total : IsTotalOrder touched_order
touched_total = on_total (λ (t : TouchedItem). t.item) items_total

all_on : (x : Item) (ts : List TouchedItem) → AllByRecursion (λ y. item_order x y ≡ Less) (items_touched ts)
    → AllByRecursion (λ t. item_order x t.item ≡ Less) ts
all_on x [] a = tt
all_on x (t ∷ ts) a = (a.0, all_on x ts a.1)

pub rises_on : (ts : List TouchedItem) → IsStrictlySortedBy item_order (items_touched ts) → IsStrictlySortedBy touched_order ts
unfolding IsStrictlySortedBy
rises_on [] r = tt
rises_on (t ∷ ts) r = (all_on t.item ts r.0, rises_on ts r.1)

greater_differs : (a b : Item) → item_order b a ≡ Less → same_item a b ≡ false
greater_differs a b e = items_tie a b ∙ ap is_eq (items_total.antisymm a b ∙ ap ordering_reverse e)

pub same_turned : (a b : Item) → item_order b a ≡ Equal → same_item a b ≡ true
same_turned a b e = items_tie a b ∙ ap is_eq (items_total.antisymm a b ∙ ap ordering_reverse e)

pub none_same : (x : Item) (ts : List TouchedItem) → list_any (λ t. is_eq (item_order t.item x)) ts ≡ false
    → list_any (λ t. same_item x t.item) ts ≡ false
none_same x ts none = elim (cases_Bool (list_any (λ (t : TouchedItem). same_item x t.item) ts)) [
  | inl e ↦
      let t = any_has (λ (t : TouchedItem). same_item x t.item) ts e
      in let equal : item_order t.0.item x ≡ Equal = items_total.antisymm t.0.item x ∙ ap ordering_reverse (same_equal x t.0.item t.2)
      in let q : false ≡ true = sym none ∙ has_any (λ (t : TouchedItem). is_eq (item_order t.item x)) ts t.0 t.1 (ap is_eq equal)
      in cc
  | inr e ↦ e
]

pub items_unpaired : (xs : List Item) → items_touched (map with_no_place xs) ≡ xs
items_unpaired [] = refl
items_unpaired (x ∷ xs) = ap (λ l. x ∷ l) (items_unpaired xs)

pub unpaired_paired : (changes : List ItemChange) (n : ℕ) → n ≡ length changes → (xs : List Item)
    → AllByRecursion (IsPaired changes n) (map with_no_place xs)
unpaired_paired changes n e [] = tt
unpaired_paired changes n e (x ∷ xs) = (
  ap (λ l. change_of l x) (drop_all n changes (omega (arith, e))),
  unpaired_paired changes n e xs,
)

module _ (changes : List ItemChange) (place : ℕ) (c : ItemChange) (low : place < length changes) (at : c ≡ get_or changes place c) where
  front : drop place changes ≡ c ∷ drop (place + 1) changes
  front = subst (λ y. drop place changes ≡ y ∷ drop (place + 1) changes) (sym at) (drop_more changes place c low)

  other_change : (t : TouchedItem) → same_item c.item t.item ≡ false → IsPaired changes (place + 1) t → IsPaired changes place t
  other_change t e h =
      let passed : change_of (c ∷ drop (place + 1) changes) t.item ≡ change_of (drop (place + 1) changes) t.item = rw e refl
      in ap (λ l. change_of l t.item) front ∙ passed ∙ h

  its_change : (t u : TouchedItem) → same_item c.item t.item ≡ true → u.item ≡ t.item → u.place ≡ Some place → IsPaired changes place u
  its_change t u e same is =
      let found : change_of (c ∷ drop (place + 1) changes) t.item ≡ Some c = rw e refl
      in ap (change_of (drop place changes)) same ∙ ap (λ l. change_of l t.item) front ∙ found
      ∙ sym (ap (change_at changes) is ∙ slice_get_read changes (length changes) place c refl low at)

  all_others : (ts : List TouchedItem) → ((t : TouchedItem) → Has ts t → same_item c.item t.item ≡ false)
      → AllByRecursion (IsPaired changes (place + 1)) ts → AllByRecursion (IsPaired changes place) ts
  all_others [] f a = tt
  all_others (t ∷ ts) f a = (other_change t (f t (inl refl)) a.0, all_others ts (λ u h. f u (inr h)) a.1)

  pub none_paired : (ts : List TouchedItem) → list_any (λ t. same_item c.item t.item) ts ≡ false
      → AllByRecursion (IsPaired changes (place + 1)) ts → AllByRecursion (IsPaired changes place) ts
  none_paired ts none a = all_others ts (λ t h. elim (cases_Bool (same_item c.item t.item)) [
    | inl e ↦ let q : false ≡ true = sym none ∙ has_any (λ (t : TouchedItem). same_item c.item t.item) ts t h e in cc
    | inr e ↦ e
  ]) a

  below : (t : TouchedItem) (ts : List TouchedItem) → IsStrictlySortedBy item_order (items_touched (t ∷ ts)) → (u : TouchedItem) → Has ts u
      → item_order t.item u.item ≡ Less
  below t ts up u h = all_has (λ y. item_order t.item y ≡ Less) (items_touched ts)
      (head_rises item_order t.item (items_touched ts) up) u.item (has_map (λ (t : TouchedItem). t.item) ts u h)

  has_at : (ts : List TouchedItem) (i : ℕ) (d : TouchedItem) → i < length ts → Has ts (get_or ts i d)
  has_at [] i d lt = absurd (omega (arith, lt))
  has_at (t ∷ ts) zero d lt = inl refl
  has_at (t ∷ ts) (suc i) d lt = inr (has_at ts i d (omega (arith, lt)))

  pub set_paired : (ts : List TouchedItem) (i : ℕ) (u : TouchedItem) → IsStrictlySortedBy item_order (items_touched ts) → i < length ts
      → same_item c.item (get_or ts i u).item ≡ true → u.item ≡ (get_or ts i u).item → u.place ≡ Some place
      → AllByRecursion (IsPaired changes (place + 1)) ts → AllByRecursion (IsPaired changes place) (set ts i u)
  set_paired [] i u up lt e same is a = absurd (omega (arith, lt))
  set_paired (t ∷ ts) zero u up lt e same is a = (
    its_change t u e same is,
    all_others ts (λ v h. less_item_differs c.item v.item
        (items_total.congr c.item t.item v.item (same_equal c.item t.item e) ∙ below t ts up v h)) a.1,
  )
  set_paired (t ∷ ts) (suc i) u up lt e same is a =
      let under : i < length ts = omega (arith, lt)
      in let v = get_or ts i u
      in let less : item_order t.item v.item ≡ Less = below t ts up v (has_at ts i u under)
      in let equal : item_order v.item c.item ≡ Equal
      = items_total.antisymm v.item c.item ∙ ap ordering_reverse (same_equal c.item v.item e)
      in (
        other_change t (greater_differs c.item t.item (sym (alike_right items_total v.item c.item t.item equal) ∙ less)) a.0,
        set_paired ts i u (tail_rises item_order t.item (items_touched ts) up) under e same is a.1,
      )

pub same_items : (ts : List TouchedItem) (i : ℕ) (u : TouchedItem) → u.item ≡ (get_or ts i u).item
    → items_touched (set ts i u) ≡ items_touched ts
same_items [] i u at = refl
same_items (t ∷ ts) zero u at = ap (λ x. x ∷ items_touched ts) at
same_items (t ∷ ts) (suc i) u at = ap (λ l. t.item ∷ l) (same_items ts i u at)
