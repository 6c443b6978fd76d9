-- A graph is told by what is stored on each item: two graphs that have the same on each are one.
use Rattle.std.proofs.Common.{◌≡◌, refl, sym, ◌∙◌, ap, subst, false, List, [], ◌∷◌, map, inl, inr}
use Rattle.std.proofs.lemmas.Bool.{cases_Bool}
use Rattle.std.proofs.lemmas.Cmp.{alike_right}
use Rattle.std.specs.List.{AllByRecursion}
use Rattle.std.specs.List.Sorted.{IsStrictlySortedBy}
use Rattle.std.specs.Ordering.{is_eq}
use Rattle.std.specs.declared.cmp.Ordering.{Ordering}
use Rattle.std.specs.declared.cmp.Ordering.TheVariants.{Less, Equal, Greater}
use Rattle.ifmap_ident.specs.declared.items.Item.{Item}
use Rattle.ifmap_ident.specs.Items.{IsCanonItem, item_order, same_item, items_tie}
use Rattle.ifmap_lemmas.specs.Emptiness.{first_there}
use Rattle.ifmap_lemmas.specs.Filters.{all_weaker, filter_none}
use Rattle.ifmap_lemmas.specs.Orderings.{first_of_less, greater_reversed}
use Rattle.ifmap_meta.specs.declared.stored.Stored.{Stored}
use Rattle.ifmap_graph.specs.ifmap_view.declared.attachments.Attachment.{Attachment}
use Rattle.ifmap_graph.specs.ifmap_view.Attachments.{IsGraph, attachment_order, stored_order}
use Rattle.ifmap_graph.specs.ifmap_view.Rows.{stored_on}
use Rattle.ifmap_ident.specs.SameLaws.{item_itself, greater_item_differs, BytesTellIdentifiers, items_total, same_item_is}

-- what is stored on the item of the first
first_stored : (a : Attachment) (rows : List Attachment) → stored_on a.item (a ∷ rows) ≡ a.stored ∷ stored_on a.item rows
first_stored a rows = rw (item_itself a.item) refl

next_above : (x : Item) (b y : Attachment) → item_order x b.item ≡ Less → attachment_order b y ≡ Less → item_order x y.item ≡ Less
next_above x b y l h =
    elim (first_of_less (item_order b.item y.item) (stored_order b.stored y.stored) h) [
      | inl less ↦ items_total.trans x b.item y.item l less
      | inr same ↦ sym (alike_right items_total b.item y.item x same) ∙ l
    ]

none_below : (x : Item) (b : Attachment) (ys : List Attachment) → item_order x b.item ≡ Less
    → AllByRecursion (λ y. attachment_order b y ≡ Less) ys → stored_on x (b ∷ ys) ≡ []
none_below x b ys l up =
    let others : AllByRecursion (λ (r : Attachment). same_item r.item x ≡ false) ys =
    all_weaker (λ y. attachment_order b y ≡ Less) (λ (r : Attachment). same_item r.item x ≡ false)
    (λ y h. greater_item_differs x y.item (next_above x b y l h)) ys up in
    ap (λ (rs : List Attachment). map (λ (r : Attachment). r.stored) rs)
    (filter_none (λ (r : Attachment). same_item r.item x) (b ∷ ys) (greater_item_differs x b.item l, others))

abbrev Alike : List Attachment → List Attachment → Type 0
Alike xs ys = (x : Item) → stored_on x xs ≡ stored_on x ys

-- both begin with one item
firsts : (a b : Attachment) (xs ys : List Attachment) → AllByRecursion (λ y. attachment_order a y ≡ Less) xs
    → AllByRecursion (λ y. attachment_order b y ≡ Less) ys → Alike (a ∷ xs) (b ∷ ys) → item_order a.item b.item ≡ Equal
firsts a b xs ys up vp same = by (item_order a.item b.item) refl
  where
    by : (o : Ordering) → item_order a.item b.item ≡ o → item_order a.item b.item ≡ Equal
    by Less is = absurd (first_there a.stored (stored_on a.item xs) (sym (first_stored a xs) ∙ same a.item ∙ none_below a.item b ys is vp))
    by Equal is = is
    by Greater is = absurd (first_there b.stored (stored_on b.item ys) (sym (first_stored b ys) ∙ sym (same b.item)
        ∙ none_below b.item a xs (greater_reversed items_total a.item b.item is) up))

first_same : (a b : Attachment) (xs ys : List Attachment) → a.item ≡ b.item → Alike (a ∷ xs) (b ∷ ys) → a ≡ b
first_same a b xs ys item same =
    let there : stored_on b.item (a ∷ xs) ≡ a.stored ∷ stored_on b.item xs =
    subst (λ x. stored_on x (a ∷ xs) ≡ a.stored ∷ stored_on x xs) item (first_stored a xs) in
    let both : a.stored ∷ stored_on b.item xs ≡ b.stored ∷ stored_on b.item ys = sym there ∙ same b.item ∙ first_stored b ys in
    let stored : a.stored ≡ b.stored = cc both in
    ap (λ (x : Item). record a { item = x }) item ∙ ap (λ (s : Stored). record b { stored = s }) stored

rest_alike : (a : Attachment) (xs ys : List Attachment) → Alike (a ∷ xs) (a ∷ ys) → Alike xs ys
rest_alike a xs ys same x =
    elim (cases_Bool (same_item a.item x)) [
      | inl hit ↦
          let both : a.stored ∷ stored_on x xs ≡ a.stored ∷ stored_on x ys = rw hit at (same x) in
          cc both
      | inr miss ↦ rw miss at (same x)
    ]

module _ (tells : BytesTellIdentifiers) where
  alike_same : (xs ys : List Attachment) → AllByRecursion (λ r. IsCanonItem r.item) xs → AllByRecursion (λ r. IsCanonItem r.item) ys
      → IsStrictlySortedBy attachment_order xs → IsStrictlySortedBy attachment_order ys → Alike xs ys → xs ≡ ys
  unfolding IsStrictlySortedBy
  alike_same [] [] p q up vp same = refl
  alike_same [] (b ∷ ys) p q up vp same = absurd (first_there b.stored (stored_on b.item ys) (sym (first_stored b ys) ∙ sym (same b.item)))
  alike_same (a ∷ xs) [] p q up vp same = absurd (first_there a.stored (stored_on a.item xs) (sym (first_stored a xs) ∙ same a.item))
  alike_same (a ∷ xs) (b ∷ ys) p q up vp same =
      let equal = firsts a b xs ys up.0 vp.0 same in
      let item : a.item ≡ b.item = same_item_is tells a.item b.item p.0.identifiers q.0.identifiers
      (items_tie a.item b.item ∙ ap is_eq equal) in
      let one : a ≡ b = first_same a b xs ys item same in
      let tails : Alike (a ∷ xs) (a ∷ ys) = subst (λ c. Alike (a ∷ xs) (c ∷ ys)) (sym one) same in
      ap (λ c. c ∷ xs) one ∙ ap (λ t. b ∷ t) (alike_same xs ys p.1 q.1 up.1 vp.1 (rest_alike a xs ys tails))

  pub one_graph : (xs ys : List Attachment) → IsGraph xs → IsGraph ys → Alike xs ys → xs ≡ ys
  one_graph xs ys g h same = alike_same xs ys g.items h.items g.rising h.rising same
