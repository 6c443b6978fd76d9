-- What is gathered item by item is a filter of the list.
use Rattle.std.proofs.Common.{◌≡◌, ℕ, true, false, List, [], ◌∷◌, ◌++◌, map, refl, ap, ◌∙◌, sym, subst, Option, Some, nat_eq}
use Rattle.std.proofs.Common.{inl, inr}
use Rattle.std.proofs.lemmas.Bool.{cases_Bool, or_parts, eqb-true}
use Rattle.std.specs.List.{AllByRecursion, filter}
use Rattle.std.specs.List.Sorted.{IsStrictlySortedBy}
use Rattle.std.specs.Ordering.{is_eq, is_gt, ordering_reverse, ordering_then}
use Rattle.std.specs.declared.cmp.Ordering.{Ordering}
use Rattle.std.specs.declared.cmp.Ordering.TheVariants.{Less, Equal, Greater}
use Rattle.ifmap_ident.specs.declared.items.Item.{Item}
use Rattle.ifmap_ident.specs.Items.{IsCanonItem, item_order, items_tie, same_item}
use Rattle.ifmap_view.specs.declared.attachments.Attachment.{Attachment}
use Rattle.ifmap_view.specs.Attachments.{attachment_order, row_on}
use Rattle.ifmap_view.specs.Rows.{stored_on}
use Rattle.ifmap_fresh.specs.Gathered.{IsGrouped, gathered_rows, has_item}
use Rattle.std.proofs.lemmas.Option.{none-some}
use Rattle.ifmap_lemmas.specs.Having.{Has}
use Rattle.ifmap_region.specs.Marks.{row_of}
use Rattle.ifmap_fresh.specs.Collected.{numbers_of}
use Rattle.ifmap_ident.specs.SameLaws.{BytesTellIdentifiers, items_total, AreCanon, same_item_is}
use Rattle.ifmap_search.specs.declared.results.Entry.{Entry}

-- items that the order tells apart are not the same
pub apart_items_differ : (x y : Item) (o : Ordering) → item_order x y ≡ o → is_eq o ≡ false → same_item x y ≡ false
apart_items_differ x y o e d = items_tie x y ∙ ap is_eq e ∙ d

-- an item below another is not one at or above that one
below_item_differs : (i k s : Item) → item_order i k ≡ Less → is_gt (item_order k s) ≡ false → same_item s i ≡ false
below_item_differs i k s l g = by (item_order k s) refl g
  where
    later : item_order i s ≡ Less → same_item s i ≡ false
    later e = apart_items_differ s i Greater (items_total.antisymm s i ∙ ap ordering_reverse e) refl

    by : (o : Ordering) → item_order k s ≡ o → is_gt o ≡ false → same_item s i ≡ false
    by Less e h = later (items_total.trans i k s l e)
    by Equal e h = later (items_total.antisymm i s ∙ ap ordering_reverse
        (sym (items_total.congr k s i e) ∙ items_total.antisymm k i ∙ ap ordering_reverse l))
    by Greater e h = let q : true ≡ false = h in cc

first_rises : (i : Item) (is : List Item) → IsStrictlySortedBy item_order (i ∷ is) → AllByRecursion (λ y. item_order i y ≡ Less) is
    × IsStrictlySortedBy item_order is
unfolding IsStrictlySortedBy
first_rises i is r = r

-- nothing stands on an item that is below all
nothing_below : (i k : Item) (rs : List Attachment) → item_order i k ≡ Less
    → AllByRecursion (λ s. is_gt (item_order k s.item) ≡ false) rs → stored_on i rs ≡ []
nothing_below i k [] l a = refl
nothing_below i k (s ∷ ss) l a = rw (below_item_differs i k s.item l a.0) (nothing_below i k ss l a.1)

-- items that are all above another have it not
not_among : (k : Item) (is : List Item) → AllByRecursion (λ y. item_order k y ≡ Less) is → has_item is k ≡ false
not_among k [] a = refl
not_among k (i ∷ is) a = rw (apart_items_differ k i Less a.0 refl) (not_among k is a.1)

-- what is among items that are all above another is above it
among_above : BytesTellIdentifiers → (i : Item) (is : List Item) → AllByRecursion AreCanon is → (k : Item) → AreCanon k
    → AllByRecursion (λ y. item_order i y ≡ Less) is
    → has_item is k ≡ true → item_order i k ≡ Less
among_above tells i [] c k ck a h = let q : false ≡ true = h in cc
among_above tells i (j ∷ is) c k ck a h = elim (cases_Bool (same_item k j)) [
  | inl t ↦ subst (λ x. item_order i x ≡ Less) (sym (same_item_is tells k j ck c.0 t)) a.0
  | inr t ↦ among_above tells i is c.1 k ck a.1 (rw t at h)
]

-- one attachment more changes nothing where its item is not among them
without : (r : Attachment) (rs : List Attachment) (is : List Item) → has_item is r.item ≡ false
    → gathered_rows (r ∷ rs) is ≡ gathered_rows rs is
without r rs [] h = refl
without r rs (i ∷ is) h =
    let p : (same_item r.item i ≡ false) × (has_item is r.item ≡ false) = or_parts (same_item r.item i) (has_item is r.item) h
    in rw p.0 (ap (λ l. map (row_on i) (stored_on i rs) ++ l) (without r rs is p.1))

-- and stands in front of all, where it is among them and at or below all
gathers_first : BytesTellIdentifiers → (r : Attachment) (rs : List Attachment) (is : List Item) → AreCanon r.item
    → AllByRecursion AreCanon is
    → AllByRecursion (λ s. is_gt (item_order r.item s.item) ≡ false) rs → IsStrictlySortedBy item_order is
    → has_item is r.item ≡ true → gathered_rows (r ∷ rs) is ≡ r ∷ gathered_rows rs is
gathers_first tells r rs [] cr c a s h = let q : false ≡ true = h in cc
gathers_first tells r rs (i ∷ is) cr c a s h = elim (cases_Bool (same_item r.item i)) [
  | inl t ↦ let same : r.item ≡ i = same_item_is tells r.item i cr c.0 t
      in let rest : gathered_rows (r ∷ rs) is ≡ gathered_rows rs is = without r rs is
      (not_among r.item is (subst (λ k. AllByRecursion (λ y. item_order k y ≡ Less) is) (sym same) (first_rises i is s).0))
      in rw t (ap (λ x. record { item = x; stored = r.stored } ∷ (map (row_on i) (stored_on i rs) ++ gathered_rows (r ∷ rs) is)) (sym same)
      ∙ ap (λ l. r ∷ (map (row_on i) (stored_on i rs) ++ l)) rest)
  | inr t ↦ let more : has_item is r.item ≡ true = rw t at h
      in let nothing : stored_on i rs ≡ [] = nothing_below i r.item rs (among_above tells i is c.1 r.item cr (first_rises i is s).0 more) a
      in rw t (ap (λ l. map (row_on i) l ++ gathered_rows (r ∷ rs) is) nothing
      ∙ gathers_first tells r rs is cr c.1 a (first_rises i is s).1 more
      ∙ ap (λ l. r ∷ (map (row_on i) l ++ gathered_rows rs is)) (sym nothing))
]

pub gathers : BytesTellIdentifiers → (rows : List Attachment) (items : List Item) → AllByRecursion (λ r. IsCanonItem r.item) rows
    → AllByRecursion AreCanon items
    → IsGrouped rows → IsStrictlySortedBy item_order items → gathered_rows rows items ≡ filter (λ r. has_item items r.item) rows
gathers tells [] items cr c g s = none items
  where
    none : (is : List Item) → gathered_rows [] is ≡ []
    none [] = refl
    none (i ∷ is) = none is
gathers tells (r ∷ rs) items cr c g s = elim (cases_Bool (has_item items r.item)) [
  | inl t ↦ gathers_first tells r rs items cr.0.identifiers c g.0 s t ∙ ap (λ l. r ∷ l) (gathers tells rs items cr.1 c g.1 s)
      ∙ sym (rw t refl)
  | inr t ↦ without r rs items t ∙ gathers tells rs items cr.1 c g.1 s ∙ sym (rw t refl)
]

-- attachments that rise do not fall by their items
pub items_grouped : (rows : List Attachment) → IsStrictlySortedBy attachment_order rows → IsGrouped rows
unfolding IsStrictlySortedBy
items_grouped [] r = tt
items_grouped (x ∷ xs) r = (all_level xs r.0, items_grouped xs r.1)
  where
    level : (o p : Ordering) → ordering_then o p ≡ Less → is_gt o ≡ false
    level Less p e = refl
    level Equal p e = refl
    level Greater p e = let q : Greater ≡ Less = e in cc

    all_level : (ys : List Attachment) → AllByRecursion (λ y. attachment_order x y ≡ Less) ys
        → AllByRecursion (λ s. is_gt (item_order x.item s.item) ≡ false) ys
    all_level [] a = tt
    all_level (y ∷ ys) a = (level (item_order x.item y.item) _ a.0, all_level ys a.1)

pub row_has : (es : List (ℕ × Option ℕ)) (v : ℕ) (r : Option ℕ) → row_of es v ≡ Some r → Has (numbers_of es) v
row_has [] v r e = absurd (none-some r e)
row_has (x ∷ xs) v r e = elim (cases_Bool (nat_eq v x.0)) [
  | inl t ↦ inl (sym (eqb-true v x.0 t))
  | inr t ↦ inr (row_has xs v r (rw t at e))
]

pub all_items : (is : List Item) → ((x : Item) → Has is x → IsCanonItem x) → AllByRecursion AreCanon is
all_items [] f = tt
all_items (i ∷ is) f = ((f i (inl refl)).identifiers, all_items is (λ x h. f x (inr h)))

abbrev pub row_entry : Attachment → Entry
row_entry r = record { item = r.item; element = r.stored.element }
