-- Entries that come and go: which are there afterwards, and what they show.
use Rattle.std.proofs.Common.{◌≡◌, ◌≢◌, ℕ, ◌+◌, Bool, true, false, cond, Option, Some, None, IsSome, [], ◌∷◌, ◌++◌, map, nat_eq, refl, ap, ◌∙◌, sym, subst, inl, inr, arith}
use Rattle.std.proofs.lemmas.Bool.{cases_Bool, eqb-false}
use Rattle.std.proofs.lemmas.Option.{same_Some, none-some}
use Rattle.std.specs.BTreeMap.{is_at, insert_entry}
use Rattle.std.specs.List.{AllByRecursion, IsDistinct}
use Rattle.std.specs.Map.{lookup, remove_entry}
use Rattle.std.specs.Ordering.{is_eq, match_ordering}
use Rattle.std.specs.declared.cmp.Ordering.{Ordering}
use Rattle.std.specs.declared.cmp.Ordering.TheVariants.{Less, Equal, Greater}
use Rattle.std.specs.Cmp.{Equal-is}
use Rattle.std.proofs.lemmas.Map.Keys.{IsDistinct-cons, IsDistinct-head, IsDistinct-tail}
use Rattle.ifmap_lemmas.specs.Having.{Has}
use Rattle.ifmap_lemmas.specs.Rising.{to_distinct}
use Rattle.ifmap_ident.specs.declared.identifiers.Identifier.{Identifier}
use Rattle.ifmap_ident.specs.declared.items.Item.{Item}
use Rattle.ifmap_ident.specs.declared.items.Item.TheVariants.{One, Pair}
use Rattle.ifmap_ident.specs.Identifiers.{identifier_order}
use Rattle.ifmap_ident.specs.Items.{IsCanonItem, item_order}
use Rattle.ifmap_pool.specs.Holdings.{once}
use Rattle.ifmap_graph.specs.declared.shelves.Shelf.{Shelf}
use Rattle.ifmap_graph.specs.Named.{uses_of, uses_in}
use Rattle.ifmap_graph.specs.Shelved.{IsPlaced, ItemsRise, StoredSide, list_at, rows_by}
use Rattle.ifmap_graph.proofs.Alike.{Alike, one_tied, order_alike, pair_tied}
use Rattle.ifmap_graph.proofs.Finding.{all_left, leaves}
use Rattle.ifmap_graph.proofs.Shelving.{Entries, slots_of}
use Rattle.ifmap_view.specs.Attachments.{row_on}

sum_swaps : (x y z : ℕ) → x + (y + z) ≡ y + (x + z)
sum_swaps x y z = omega arith

-- a new entry counts once for each identifier that it names
pub comes : (es : Entries) (item : Item) (at : ℕ) (a : Identifier) → lookup (is_at (item_order item)) es ≡ None
    → uses_in (insert_entry item_order es item at) a ≡ uses_of item a + uses_in es a
comes [] item at a h = refl
comes (e ∷ es) item at a h = by (item_order item e.0) refl (comes es item at a)
  where
    by : (o : Ordering) → item_order item e.0 ≡ o
        → (lookup (is_at (item_order item)) es ≡ None → uses_in (insert_entry item_order es item at) a ≡ uses_of item a + uses_in es a)
        → uses_in (match_ordering o ((item, at) ∷ e ∷ es) ((e.0, at) ∷ es) (e ∷ insert_entry item_order es item at)) a ≡ uses_of item a
        + uses_in (e ∷ es) a
    by Less is rest = refl
    by Equal is rest = let t : is_at (item_order item) e.0 ≡ true = ap is_eq is in absurd (none-some _ (sym (rw t at h)))
    by Greater is rest =
        let t : is_at (item_order item) e.0 ≡ false = ap is_eq is
        in let q : uses_in (insert_entry item_order es item at) a ≡ uses_of item a + uses_in es a = rest (rw t at h)
        in ap (λ n. uses_of e.0 a + n) q ∙ sum_swaps (uses_of e.0 a) (uses_of item a) (uses_in es a)

once_alike : (a b other : Identifier) → Alike a b → once identifier_order a other ≡ once identifier_order b other
once_alike a b other e = ap (λ o. cond (is_eq o) 1 0) (order_alike b other a other e refl)

-- items that tie name the same
pub named_tied : (item x : Item) (a : Identifier) → item_order item x ≡ Equal → uses_of x a ≡ uses_of item a
named_tied (One b) x a e =
    let t = one_tied b x e
    in ap (λ i. uses_of i a) t.1 ∙ once_alike t.0 b a t.2
named_tied (Pair b c) x a e =
    let t = pair_tied b c x e
    in ap (λ i. uses_of i a) t.2 ∙ ap (λ n. n + once identifier_order t.1 a) (once_alike t.0 b a t.3)
    ∙ ap (λ n. once identifier_order b a + n) (once_alike t.1 c a t.4)

pub goes : (es : Entries) (item : Item) (at : ℕ) (a : Identifier) → lookup (is_at (item_order item)) es ≡ Some at
    → uses_of item a + uses_in (remove_entry (is_at (item_order item)) es) a ≡ uses_in es a
goes [] item at a h = absurd (none-some _ h)
goes (e ∷ es) item at a h = elim (cases_Bool (is_at (item_order item) e.0)) [
  | inl t ↦ rw t (ap (λ n. n + uses_in es a) (sym (named_tied item e.0 a ((Equal-is (item_order item e.0)).0 t))))
  | inr t ↦ let q : uses_of item a + uses_in (remove_entry (is_at (item_order item)) es) a ≡ uses_in es a = goes es item at a (rw t at h)
      in rw t (sum_swaps (uses_of item a) (uses_of e.0 a) (uses_in (remove_entry (is_at (item_order item)) es) a)
      ∙ ap (λ n. uses_of e.0 a + n) q)
]

others_apart : (at : ℕ) (es : Entries) → AllByRecursion (λ y. nat_eq at y ≡ false) (slots_of es) → AllByRecursion (λ e. e.1 ≢ at) es
others_apart at [] a = tt
others_apart at (e ∷ es) a = (λ q. eqb-false at e.1 a.0 (sym q), others_apart at es a.1)

-- a slot that is looked up further on is not that of the entry before
not_first : (k : ℕ) (test : Item → Bool) (es : Entries) (at : ℕ) → AllByRecursion (λ y. nat_eq k y ≡ false) (slots_of es)
    → lookup test es ≡ Some at → k ≢ at
not_first k test [] at a h = λ q. none-some _ h
not_first k test (e ∷ es) at a h = elim (cases_Bool (test e.0)) [
  | inl t ↦ let here : e.1 ≡ at = same_Some _ _ (rw t at h) in λ q. eqb-false k e.1 a.0 (q ∙ sym here)
  | inr t ↦ not_first k test es at a.1 (rw t at h)
]

-- the entries that stay have other slots
others_left : (test : Item → Bool) (es : Entries) (at : ℕ) → IsDistinct nat_eq (slots_of es) → lookup test es ≡ Some at
    → AllByRecursion (λ e. e.1 ≢ at) (remove_entry test es)
others_left test [] at d h = tt
others_left test (e ∷ es) at d h = elim (cases_Bool (test e.0)) [
  | inl t ↦ let here : e.1 ≡ at = same_Some _ _ (rw t at h)
      in rw t (others_apart at es
      (subst (λ k. AllByRecursion (λ y. nat_eq k y ≡ false) (slots_of es)) here (IsDistinct-head nat_eq e.1 (slots_of es) d)))
  | inr t ↦ rw t (
    not_first e.1 test es at (IsDistinct-head nat_eq e.1 (slots_of es) d) (rw t at h),
    others_left test es at (IsDistinct-tail nat_eq e.1 (slots_of es) d) (rw t at h),
  )
]

out_left : (k : ℕ) (test : Item → Bool) (es : Entries) → AllByRecursion (λ y. nat_eq k y ≡ false) (slots_of es)
    → AllByRecursion (λ y. nat_eq k y ≡ false) (slots_of (remove_entry test es))
out_left k test [] a = tt
out_left k test (e ∷ es) a = by (test e.0) (out_left k test es a.1)
  where
    by : (b : Bool) → AllByRecursion (λ y. nat_eq k y ≡ false) (slots_of (remove_entry test es))
        → AllByRecursion (λ y. nat_eq k y ≡ false) (slots_of (cond b es (e ∷ remove_entry test es)))
    by true rest = a.1
    by false rest = (a.0, rest)

slots_left : (test : Item → Bool) (es : Entries) → IsDistinct nat_eq (slots_of es) → IsDistinct nat_eq (slots_of (remove_entry test es))
slots_left test [] d = to_distinct nat_eq [] tt
slots_left test (e ∷ es) d = by (test e.0) (slots_left test es (IsDistinct-tail nat_eq e.1 (slots_of es) d))
  where
    by : (b : Bool) → IsDistinct nat_eq (slots_of (remove_entry test es)) → IsDistinct nat_eq
        (slots_of (cond b es (e ∷ remove_entry test es)))
    by true rest = IsDistinct-tail nat_eq e.1 (slots_of es) d
    by false rest = IsDistinct-cons nat_eq e.1 (slots_of (remove_entry test es))
        (out_left e.1 test es (IsDistinct-head nat_eq e.1 (slots_of es) d)) rest

-- an entry of another slot stays
pub removed_has : (test : Item → Bool) (es : Entries) (at n : ℕ) (k : Item) → lookup test es ≡ Some at → n ≢ at → Has es (k, n)
    → Has (remove_entry test es) (k, n)
removed_has test [] at n k h o i = absurd i
removed_has test (e ∷ es) at n k h o i = elim (cases_Bool (test e.0)) [
  | inl t ↦ let here : e.1 ≡ at = same_Some _ _ (rw t at h)
      in rw t (elim i [ inl p ↦ absurd (o (sym (ap (λ x. x.1) p) ∙ here)) | inr j ↦ j ])
  | inr t ↦ rw t (elim i [ inl p ↦ inl p | inr j ↦ inr (removed_has test es at n k (rw t at h) o j) ])
]

-- an item's shelf goes, which is empty
module _ (es new : Entries) (look later : ℕ → Option Shelf) (item : Item) (at : ℕ) (is : IsPlaced look es)
    (here : lookup (is_at (item_order item)) es ≡ Some at)
    (gone : later at ≡ None) (others : (o : ℕ) → o ≢ at → later o ≡ look o) (removes : new ≡ remove_entry (is_at (item_order item)) es)
    (rises : ItemsRise new) where
  apart_from : AllByRecursion (λ e. e.1 ≢ at) (remove_entry (is_at (item_order item)) es)
  apart_from = others_left (is_at (item_order item)) es at is.apart here

  live_left : (es : Entries) → AllByRecursion (λ e. e.1 ≢ at) es → AllByRecursion (λ e. IsSome (look e.1)) es → AllByRecursion
      (λ e. IsSome (later e.1)) es
  live_left [] o a = tt
  live_left (e ∷ es) o a = (subst (λ (x : Option Shelf). IsSome x) (sym (others e.1 o.0)) a.0, live_left es o.1 a.1)

  rows_left : (side : StoredSide) (es : Entries) → AllByRecursion (λ e. e.1 ≢ at) es → rows_by (λ n. list_at side (later n)) es ≡ rows_by
      (λ n. list_at side (look n)) es
  rows_left side [] o = refl
  rows_left side (e ∷ es) o =
      ap (λ x. map (row_on e.0) (list_at side x) ++ rows_by (λ n. list_at side (later n)) es) (others e.1 o.0)
      ∙ ap (λ l. map (row_on e.0) (list_at side (look e.1)) ++ l) (rows_left side es o.1)

  same_slots : (es : Entries) → AllByRecursion (λ e. e.1 ≢ at) es → AllByRecursion (λ e. later e.1 ≡ look e.1) es
  same_slots [] o = tt
  same_slots (e ∷ es) o = (others e.1 o.0, same_slots es o.1)

  -- the entries that are left have the shelves that they had
  pub slots_kept : AllByRecursion (λ e. later e.1 ≡ look e.1) new
  slots_kept =
      subst (λ l. AllByRecursion (λ e. later e.1 ≡ look e.1) l) (sym removes) (same_slots (remove_entry (is_at (item_order item)) es)
      apart_from)

  pub stays_placed : IsPlaced later new
  stays_placed = record {
    rising = rises;
    canon = subst (λ l. AllByRecursion (λ e. IsCanonItem e.0) l) (sym removes) (all_left (λ e. IsCanonItem e.0) (is_at (item_order item))
        es is.canon);
    live = subst (λ l. AllByRecursion (λ e. IsSome (later e.1)) l) (sym removes)
        (live_left (remove_entry (is_at (item_order item)) es) apart_from (all_left (λ e. IsSome (look e.1)) (is_at (item_order item)) es
        is.live));
    apart = subst (λ l. IsDistinct nat_eq (slots_of l)) (sym removes) (slots_left (is_at (item_order item)) es is.apart);
  }

  pub same_rows : (side : StoredSide) → list_at side (look at) ≡ [] → rows_by (λ n. list_at side (later n)) new ≡ rows_by
      (λ n. list_at side (look n)) es
  same_rows side empty =
      ap (rows_by (λ n. list_at side (later n))) removes
      ∙ rows_left side (remove_entry (is_at (item_order item)) es) apart_from
      ∙ leaves (λ n. list_at side (look n)) item es at here empty

  -- each shelf is still an item's
  pub still_used : ((n : ℕ) → IsSome (look n) → (k : Item) × Has es (k, n)) → (n : ℕ) → IsSome (later n) → (k : Item) × Has new (k, n)
  still_used used n s =
      let other : n ≢ at = λ q. let r : IsSome {T = Shelf} None = subst (λ (x : Option Shelf). IsSome x) (ap later q ∙ gone) s in cc
      in let u = used n (subst (λ (x : Option Shelf). IsSome x) (others n other) s)
      in (u.0, subst (λ l. Has l (u.0, n)) (sym removes) (removed_has (is_at (item_order item)) es at n u.0 here other u.1))
