-- The links that carry something are counted by entries as by attachments.
use Rattle.std.proofs.Common.{◌≡◌, ◌+◌, ◌∙◌, Bool, true, false, not, cond, inl, inr, List, [], ◌∷◌, ◌++◌, length, map, refl, ap, sym, arith}
use Rattle.std.proofs.lemmas.Bool.{cases_Bool}
use Rattle.std.specs.List.{AllByRecursion, filter, list_any}
use Rattle.std.specs.declared.cmp.Ordering.TheVariants.{Less}
use Rattle.ifmap_ident.specs.declared.items.Item.{Item}
use Rattle.ifmap_ident.specs.declared.items.Item.TheVariants.{One, Pair}
use Rattle.ifmap_ident.specs.Items.{item_order, same_item}
use Rattle.ifmap_meta.specs.declared.stored.Stored.{Stored}
use Rattle.ifmap_view.specs.Attachments.{row_on}
use Rattle.ifmap_view.specs.declared.attachments.Attachment.{Attachment}
use Rattle.ifmap_graph.specs.Counted.{count_links, is_link, link_once, links_among}
use Rattle.ifmap_graph.specs.Shelved.{ItemsRise, rows_by}
use Rattle.ifmap_graph.proofs.Finding.{first_rises}
use Rattle.ifmap_ident.specs.SameLaws.{item_itself, items_equiv, greater_item_differs}
use Rattle.ifmap_lemmas.specs.Filters.{none_dropped}
use Rattle.ifmap_plans.specs.After.{items_of}

-- whether an item is among those of attachments
abbrev is_among : Item → List Attachment → Bool
is_among i rows = list_any (λ s. same_item s.item i) rows

passed_by : (i k : Item) (xs : List Stored) (rest : List Attachment) → same_item k i ≡ false
    → is_among i (map (row_on k) xs ++ rest) ≡ is_among i rest
passed_by i k [] rest e = refl
passed_by i k (x ∷ xs) rest e = rw e (passed_by i k xs rest e)

-- what is not among some is not among those of them that a filter leaves
none_left : (p q : Item → Bool) (xs : List Item) → list_any p xs ≡ false → list_any p (filter q xs) ≡ false
none_left p q [] h = refl
none_left p q (x ∷ xs) h = elim (cases_Bool (p x)) [
  | inl t ↦ let bad : true ≡ false = rw t at h in cc
  | inr t ↦
      let rest : list_any p (filter q xs) ≡ false = none_left p q xs (rw t at h) in
      elim (q x) as (λ b. list_any p (cond b (x ∷ filter q xs) (filter q xs)) ≡ false) [
        | true ↦ rw t rest
        | false ↦ rest
      ]
]

none_of_items : (i : Item) (rows : List Attachment) → is_among i rows ≡ false → list_any (same_item i) (items_of rows) ≡ false
none_of_items i [] e = refl
none_of_items i (r ∷ rows) e = elim (cases_Bool (same_item r.item i)) [
  | inl t ↦ let bad : true ≡ false = rw t at e in cc
  | inr t ↦
      let other : same_item i r.item ≡ false = items_equiv.symm i r.item ∙ t in
      rw other (none_left (same_item i) (λ x. not (same_item r.item x)) (items_of rows) (none_of_items i rows (rw t at e)))
]

-- those of the items of others that are not this one are all
others_stay : (i : Item) (rest : List Attachment) → is_among i rest ≡ false
    → filter (λ k. not (same_item i k)) (items_of rest) ≡ items_of rest
others_stay i rest e = sym (none_dropped (same_item i) (items_of rest) (none_of_items i rest e))

-- the attachments on one item, before those on others
items_first : (i : Item) (x : Stored) (xs : List Stored) (rest : List Attachment) → is_among i rest ≡ false
    → items_of (map (row_on i) (x ∷ xs) ++ rest) ≡ i ∷ items_of rest
items_first i x [] rest e = ap (λ l. i ∷ l) (others_stay i rest e)
items_first i x (y ∷ ys) rest e =
    let left = filter (λ k. not (same_item i k)) (items_of rest) in
    ap (λ l. i ∷ filter (λ k. not (same_item i k)) l) (items_first i y ys rest e)
    ∙ ap (λ b. i ∷ cond (not b) (i ∷ left) left) (item_itself i) ∙ ap (λ l. i ∷ l) (others_stay i rest e)

module _ {X : Type 0} (list_of : X → List Stored) where
  not_among : (i : Item) (es : List (Item × X)) → AllByRecursion (λ y. item_order i y ≡ Less) (map (λ e. e.0) es)
      → is_among i (rows_by list_of es) ≡ false
  not_among i [] a = refl
  not_among i (e ∷ es) a = passed_by i e.0 (list_of e.1) (rows_by list_of es) (greater_item_differs i e.0 a.0) ∙ not_among i es a.1

  one_link : (i : Item) (xs : List Stored) (rest : List Attachment) → is_among i rest ≡ false
      → count_links (map (row_on i) xs ++ rest) ≡ link_once i xs + count_links rest
  one_link (One a) [] rest e = omega arith
  one_link (Pair a b) [] rest e = omega arith
  one_link (One a) (x ∷ xs) rest e =
      ap (λ l. length (filter is_link l)) (items_first (One a) x xs rest e) ∙ omega arith
  one_link (Pair a b) (x ∷ xs) rest e =
      ap (λ l. length (filter is_link l)) (items_first (Pair a b) x xs rest e) ∙ omega arith

  pub links_counted : (es : List (Item × X)) → ItemsRise es → links_among list_of es ≡ count_links (rows_by list_of es)
  links_counted [] r = refl
  links_counted (e ∷ es) r =
      let p = first_rises e es r
      in ap (λ n. link_once e.0 (list_of e.1) + n) (links_counted es p.1)
      ∙ sym (one_link e.0 (list_of e.1) (rows_by list_of es) (not_among e.0 es p.0))
