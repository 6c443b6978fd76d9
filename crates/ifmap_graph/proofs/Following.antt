-- The first entry after a bound that is not empty is the next item.
use Rattle.std.proofs.Common.{◌≡◌, ◌≢◌, ◌⊎◌, Bool, true, false, cond, Option, Some, None, List, [], ◌∷◌, ◌++◌, map, refl, ap, ◌∙◌, sym, subst, inl, inr}
use Rattle.std.proofs.lemmas.Bool.{cases_Bool}
use Rattle.std.proofs.lemmas.Cmp.{tied_itself}
use Rattle.std.proofs.lemmas.Option.{same_Some, none-some}
use Rattle.std.specs.BTreeMap.{is_at}
use Rattle.std.specs.List.{AllByRecursion, filter}
use Rattle.std.specs.Map.{lookup}
use Rattle.std.specs.Ordering.{is_eq, is_lt, ordering_reverse}
use Rattle.std.specs.declared.cmp.Ordering.TheVariants.{Less, Equal}
use Rattle.std.specs.Cmp.{Equal-is, alike_right}
use Rattle.ifmap_lemmas.specs.Having.{Has, filter_has, has_filter}
use Rattle.ifmap_ident.specs.declared.items.Item.{Item}
use Rattle.ifmap_ident.specs.Items.{item_order}
use Rattle.ifmap_meta.specs.declared.stored.Stored.{Stored}
use Rattle.ifmap_plans.specs.After.{IsAbove, IsNextItem, NoItem}
use Rattle.ifmap_view.specs.Rows.{stored_on}
use Rattle.ifmap_graph.specs.After.{AreEmpty, IsFirstFull, entries_after}
use Rattle.ifmap_graph.specs.Shelved.{ItemsRise, rows_by}
use Rattle.ifmap_graph.proofs.Finding.{unlisted_empty, first_rises, entry_stores, nothing_rises, rises_first}
use Rattle.ifmap_lemmas.specs.Orderings.{is_less, not_both}
use Rattle.ifmap_ident.specs.SameLaws.{items_total}

module _ {X : Type 0} where
  less_of : (k item : Item) (at : X) (es : List (Item × X)) → AllByRecursion (λ y. item_order k y ≡ Less) (map (λ e. e.0) es)
      → Has es (item, at) → item_order k item ≡ Less
  less_of k item at [] a h = absurd h
  less_of k item at (e ∷ es) a (inl p) = subst (λ y. item_order k y ≡ Less) (ap (λ x. x.0) p) a.0
  less_of k item at (e ∷ es) a (inr h) = less_of k item at es a.1 h

  -- a look-up that hits is of an entry whose item ties
  pub looked_up : (es : List (Item × X)) (item : Item) (at : X) → lookup (is_at (item_order item)) es ≡ Some at
      → (k : Item) × Has es (k, at) × (item_order item k ≡ Equal)
  looked_up [] item at h = absurd (none-some _ h)
  looked_up (e ∷ es) item at h = elim (cases_Bool (is_at (item_order item) e.0)) [
    | inl t ↦ let here : e.1 ≡ at = same_Some _ _ (rw t at h) in (e.0, inl (ap (λ n. (e.0, n)) here), (Equal-is (item_order item e.0)).0 t)
    | inr t ↦ let r = looked_up es item at (rw t at h) in (r.0, inr r.1, r.2)
  ]

  -- an entry is looked up, where entries rise
  pub entry_hits : (es : List (Item × X)) (item : Item) (at : X) → ItemsRise es → Has es (item, at) → lookup (is_at (item_order item)) es ≡
      Some at
  entry_hits [] item at r h = absurd h
  entry_hits (e ∷ es) item at r (inl p) =
      let t : is_at (item_order item) e.0 ≡ true = ap (λ y. is_eq (item_order item y)) (ap (λ x. x.0) p)
      ∙ ap is_eq (tied_itself items_total item)
      in rw t (ap (λ x. Some x.1) p)
  entry_hits (e ∷ es) item at r (inr h) =
      let l : item_order e.0 item ≡ Less = less_of e.0 item at es (first_rises e es r).0 h
      in let t : is_at (item_order item) e.0 ≡ false = ap is_eq (items_total.antisymm item e.0 ∙ ap ordering_reverse l)
      in rw t (entry_hits es item at (first_rises e es r).1 h)

  -- what ties is looked up alike
  pub lookup_tied : (x y : Item) (es : List (Item × X)) → item_order x y ≡ Equal → lookup (is_at (item_order x)) es ≡ lookup
      (is_at (item_order y)) es
  lookup_tied x y [] t = refl
  lookup_tied x y (e ∷ es) t = elim (cases_Bool (is_at (item_order x) e.0)) [
    | inl p ↦ let q : is_at (item_order y) e.0 ≡ true = ap is_eq (sym (items_total.congr x y e.0 t)) ∙ p in rw (p, q) refl
    | inr p ↦ let q : is_at (item_order y) e.0 ≡ false = ap is_eq (sym (items_total.congr x y e.0 t)) ∙ p in rw (p, q)
        (lookup_tied x y es t)
  ]

  all_kept : (k : Item) (p : Item × X → Bool) (es : List (Item × X)) → AllByRecursion (λ y. item_order k y ≡ Less) (map (λ e. e.0) es)
      → AllByRecursion (λ y. item_order k y ≡ Less) (map (λ e. e.0) (filter p es))
  all_kept k p [] a = tt
  all_kept k p (e ∷ es) a = at (p e) (all_kept k p es a.1)
    where
      at : (b : Bool) → AllByRecursion (λ y. item_order k y ≡ Less) (map (λ e. e.0) (filter p es))
          → AllByRecursion (λ y. item_order k y ≡ Less) (map (λ e. e.0) (cond b (e ∷ filter p es) (filter p es)))
      at true rest = (a.0, rest)
      at false rest = rest

  kept_rises : (p : Item × X → Bool) (es : List (Item × X)) → ItemsRise es → ItemsRise (filter p es)
  kept_rises p [] r = nothing_rises X
  kept_rises p (e ∷ es) r = at (p e) (kept_rises p es (first_rises e es r).1)
    where
      at : (b : Bool) → ItemsRise (filter p es) → ItemsRise (cond b (e ∷ filter p es) (filter p es))
      at true rest = rises_first e (filter p es) (all_kept e.0 p es (first_rises e es r).0) rest
      at false rest = rest

  after_of : (after : Option Item) (es : List (Item × X)) (e : Item × X) → Has (entries_after after es) e → Has es e × IsAbove after e.0
  after_of None es e h = (h, tt)
  after_of (Some a) es e h = let r = filter_has (λ x. is_lt (item_order a x.0)) es e h in (r.0, is_less (item_order a e.0) r.1)

  of_after : (after : Option Item) (es : List (Item × X)) (e : Item × X) → Has es e → IsAbove after e.0 → Has (entries_after after es) e
  of_after None es e h a = h
  of_after (Some i) es e h a = has_filter (λ x. is_lt (item_order i x.0)) es e h (ap is_lt a)

  after_rises : (after : Option Item) (es : List (Item × X)) → ItemsRise es → ItemsRise (entries_after after es)
  after_rises None es r = r
  after_rises (Some a) es r = kept_rises (λ x. is_lt (item_order a x.0)) es r

  -- the parts of a list around an entry
  middle : (before rest : List (Item × X)) (e : Item × X) → Has (before ++ e ∷ rest) e
  middle [] rest e = inl refl
  middle (f ∷ fs) rest e = inr (middle fs rest e)

  part_of : (before rest : List (Item × X)) (e x : Item × X) → Has (before ++ e ∷ rest) x → Has before x ⊎ ((e ≡ x) ⊎ Has rest x)
  part_of [] rest e x h = inr h
  part_of (f ∷ fs) rest e x (inl p) = inl (inl p)
  part_of (f ∷ fs) rest e x (inr h) = elim (part_of fs rest e x h) [ inl a ↦ inl (inr a) | inr b ↦ inr b ]

  rest_rises : (before rest : List (Item × X)) (e : Item × X) → ItemsRise (before ++ e ∷ rest) → AllByRecursion
      (λ y. item_order e.0 y ≡ Less)
      (map (λ e. e.0) rest)
  rest_rises [] rest e r = (first_rises e rest r).0
  rest_rises (f ∷ fs) rest e r = rest_rises fs rest e (first_rises f (fs ++ e ∷ rest) r).1

  empty_of : (list_of : X → List Stored) (es : List (Item × X)) (e : Item × X) → AreEmpty list_of es → Has es e → list_of e.1 ≡ []
  empty_of list_of [] e a h = absurd h
  empty_of list_of (f ∷ fs) e a (inl p) = subst (λ (x : Item × X). list_of x.1 ≡ []) p a.0
  empty_of list_of (f ∷ fs) e a (inr h) = empty_of list_of fs e a.1 h

tied_above : (after : Option Item) (x y : Item) → item_order x y ≡ Equal → IsAbove after x → IsAbove after y
tied_above None x y e a = tt
tied_above (Some i) x y e a = sym (alike_right items_total x y i e) ∙ a

module _ {X : Type 0} (list_of : X → List Stored) (es : List (Item × X)) (rising : ItemsRise es) (after : Option Item) where
  pub stands : (item : Item) (at : X) → Has es (item, at) → list_of at ≡ stored_on item (rows_by list_of es)
  stands item at h = entry_stores list_of item es at rising (entry_hits es item at rising h)

  -- what carries an attachment ties with an entry after the bound, where it is above it
  carrier_ties_with_entry : (other : Item) → IsAbove after other → stored_on other (rows_by list_of es) ≢ [] → (o : Option X)
      → lookup (is_at (item_order other)) es ≡ o
      → (k : Item) × (at : X) × Has (entries_after after es) (k, at) × (list_of at ≢ []) × (item_order other k ≡ Equal)
  carrier_ties_with_entry other a n None e = absurd (n (sym (unlisted_empty list_of other es e)))
  carrier_ties_with_entry other a n (Some at) e =
      let h = looked_up es other at e
      in (
        h.0,
        at,
        of_after after es (h.0, at) h.1 (tied_above after other h.0 h.2 a),
        λ m. n (sym (entry_stores list_of other es at rising e)
            ∙ m),
        h.2,
      )

  pub next_is : (item : Item) → IsFirstFull list_of (entries_after after es) item → IsNextItem (rows_by list_of es) after item
  next_is item f =
      let here : Has (entries_after after es) (item, f.at) = subst (λ l. Has l (item, f.at)) (sym f.split)
      (middle f.before f.rest (item, f.at))
      in let mine = after_of after es (item, f.at) here
      in record {
        above = mine.1;
        carries = λ m. f.full (stands item f.at mine.0 ∙ m);
        least = λ other a n l.
            let c = carrier_ties_with_entry other a n _ refl
            in let below : item_order c.0 item ≡ Less = sym (items_total.congr other c.0 item c.4) ∙ l
            in elim (part_of f.before f.rest (item, f.at) (c.0, c.1) (subst (λ l. Has l (c.0, c.1)) f.split c.2)) [
              | inl p ↦ c.3 (empty_of list_of f.before (c.0, c.1) f.empty p)
              | inr q ↦ elim q [
                | inl p ↦ let less : item_order item item ≡ Less = subst (λ x. item_order x item ≡ Less) (sym (ap (λ x. x.0) p)) below
                    in not_both items_total item item less less
                | inr p ↦ not_both items_total item c.0
                    (less_of item c.0 c.1 f.rest (rest_rises f.before f.rest (item, f.at)
                    (subst (λ l. ItemsRise l) f.split (after_rises after es rising))) p) below
              ]
            ];
      }

  -- the first entry is one of all
  pub first_has : (item : Item) → IsFirstFull list_of (entries_after after es) item → (at : X) × Has es (item, at)
  first_has item f =
      let here : Has (entries_after after es) (item, f.at) = subst (λ l. Has l (item, f.at)) (sym f.split)
      (middle f.before f.rest (item, f.at))
      in (f.at, (after_of after es (item, f.at) here).0)

  pub none_is : AreEmpty list_of (entries_after after es) → NoItem (rows_by list_of es) after
  none_is e other a = by (stored_on other (rows_by list_of es)) refl
    where
      by : (l : List Stored) → stored_on other (rows_by list_of es) ≡ l → stored_on other (rows_by list_of es) ≡ []
      by [] q = q
      by (x ∷ xs) q =
          let c = carrier_ties_with_entry other a (λ m. (let r : x ∷ xs ≡ [] = sym q ∙ m in cc)) _ refl
          in absurd (c.3 (empty_of list_of (entries_after after es) (c.0, c.1) e c.2))
