-- What is told item by item is the difference of the results.
-- 1. Rows tie in their order exactly where their entries have the same bytes (`tie_bytes`).
-- 2. What is left out on one item is a filter of what is stored there (`one_item`).
-- 3. So entries of items, one after the other, are a filtered list of attachments (`entries_are_gathered`).
-- 4. Whether the other result has the entry of an attachment (`in_other`), and so that the two
--    filters agree on each (`pointwise`).
-- 5. So what is left out item by item is the difference of the results (`difference_is`).
use Rattle.std.proofs.Common.{◌≡◌, inl, inr, Bool, true, false, cond, not, ◌&&◌, List, [], ◌∷◌, ◌++◌, map, refl, ap, ◌∙◌}
use Rattle.std.proofs.Common.{sym, subst}
use Rattle.std.proofs.lemmas.Bool.{and_from, and_parts, cases_Bool}
use Rattle.std.proofs.lemmas.List.{map-append}
use Rattle.std.proofs.lemmas.List.Elements.{filter-append}
use Rattle.std.specs.Cmp.{Equal-is, both_ways}
use Rattle.std.specs.List.{filter, list_any}
use Rattle.std.specs.List.Sorted.{IsStrictlySortedBy}
use Rattle.std.specs.Ordering.{eq_by_cmp, is_eq}
use Rattle.std.specs.Str.{bytes_eq}
use Rattle.ifmap_elem.specs.Canonical.{canonical_bytes}
use Rattle.ifmap_filter.specs.Meets.{meets_optional}
use Rattle.ifmap_ident.specs.declared.items.Item.{Item}
use Rattle.ifmap_ident.specs.Items.{IsCanonItem, item_order, same_item}
use Rattle.ifmap_lemmas.specs.Having.{Has, any_has, filter_has, has_any, has_filter, has_map, map_has, has_all}
use Rattle.ifmap_lemmas.specs.Texts.{eq_itself, eq_tells, same_texts, slice_cmp-same}
use Rattle.ifmap_lemmas.specs.Filters.{filter_alike, filter_twice, map_filter}
use Rattle.ifmap_meta.specs.declared.stored.Stored.{Stored}
use Rattle.ifmap_search.specs.declared.results.Entry.{Entry}
use Rattle.ifmap_search.specs.declared.searches.Search.{Search}
use Rattle.ifmap_view.specs.declared.attachments.Attachment.{Attachment}
use Rattle.ifmap_view.specs.Attachments.{IsGraph, row_on, stored_bytes, stored_order}
use Rattle.ifmap_view.specs.Rows.{stored_on}
use Rattle.ifmap_fresh.specs.Fresh.{fresh, is_found, is_looked_at}
use Rattle.ifmap_fresh.specs.Gathered.{stored_entry, gathered_rows, has_item}
use Rattle.ifmap_folds.specs.Differences.{difference, entry_bytes, has_entry, same_entry}
use Rattle.ifmap_delta.specs.Shown.{shown_on}
use Rattle.ifmap_delta.specs.SeenViews.{ViewSeen}
use Rattle.ifmap_delta.specs.Touched.{has_met, surplus_on}
use Rattle.ifmap_fresh.specs.laws.GatheringLaws.{gathers, items_grouped, all_items, row_entry}
use Rattle.ifmap_fresh.specs.laws.SameLaws.{member}
use Rattle.ifmap_ident.specs.SameLaws.{item_itself, BytesTellIdentifiers, same_item_is}

-- rows of one list of canonical bytes are one entry
bytes_tie : (a b : Attachment) → bytes_eq (entry_bytes (row_entry a)) (entry_bytes (row_entry b)) ≡ true
    → eq_by_cmp stored_order b.stored a.stored ≡ true
unfolding entry_bytes stored_bytes
bytes_tie a b e = ap is_eq (slice_cmp-same (canonical_bytes b.stored.element) (canonical_bytes a.stored.element)
    (sym (eq_tells (canonical_bytes a.stored.element) (canonical_bytes b.stored.element) e)))

tie_bytes : (a b : Attachment) → eq_by_cmp stored_order b.stored a.stored ≡ true
    → bytes_eq (entry_bytes (row_entry a)) (entry_bytes (row_entry b)) ≡ true
unfolding entry_bytes stored_bytes
tie_bytes a b e =
    subst (λ l. bytes_eq (canonical_bytes a.stored.element) l ≡ true)
    (sym (same_texts (canonical_bytes b.stored.element) (canonical_bytes a.stored.element) ((Equal-is _).0 e)))
    (eq_itself (canonical_bytes a.stored.element))

tied_itself : (t : Stored) → eq_by_cmp stored_order t t ≡ true
tied_itself t = ap is_eq (slice_cmp-same (stored_bytes t) (stored_bytes t) refl)

-- what is left out on one item, as a filter of what is stored there
none_left : (x : Item) (q : Stored → Bool) (p : Attachment → Bool) → ((t : Stored) → p (row_on x t) ≡ false) → (xs : List Stored)
    → [] ≡ map row_entry (filter p (map (row_on x) xs))
none_left x q p e [] = refl
none_left x q p e (t ∷ ts) = rw (e t) (none_left x q p e ts)

some_left : (x : Item) (q : Stored → Bool) (p : Attachment → Bool) → ((t : Stored) → p (row_on x t) ≡ q t) → (xs : List Stored)
    → map (stored_entry x) (filter q xs) ≡ map row_entry (filter p (map (row_on x) xs))
some_left x q p e [] = refl
some_left x q p e (t ∷ ts) = elim (cases_Bool (q t)) [
  | inl u ↦ rw (u, e t ∙ u) (ap (λ l. stored_entry x t ∷ l) (some_left x q p e ts))
  | inr u ↦ rw (u, e t ∙ u) (some_left x q p e ts)
]

one_item : (x : Item) (b : Bool) (q : Stored → Bool) (p : Attachment → Bool) → ((t : Stored) → p (row_on x t) ≡ (b && q t))
    → (xs : List Stored) → map (stored_entry x) (filter q (cond b xs [])) ≡ map row_entry (filter p (map (row_on x) xs))
one_item x true q p e xs = some_left x q p e xs
one_item x false q p e xs = none_left x q p e xs

and_joined : (b m n : Bool) → (b && (m && n)) ≡ ((b && m) && n)
and_joined true m n = refl
and_joined false m n = refl

outside : (b m a : Bool) → (b ≡ true → m ≡ true → a ≡ true) → ((b && m) && not a) ≡ false
outside false m a f = refl
outside true false a f = refl
outside true true a f = ap not (f refl refl)

module _ (tells : BytesTellIdentifiers) (one other : ViewSeen) (s : Search) (graph : IsGraph one.rows) (beside : IsGraph other.rows) where
  abbrev is_met : Stored → Bool
  is_met t = meets_optional s.result_filter t.element

  abbrev ties : Attachment → Stored → Bool
  ties r o = eq_by_cmp stored_order o r.stored && is_met o

  abbrev is_lacked : Attachment → Bool
  is_lacked r = is_looked_at one.rows s r.item && (is_met r.stored && not (has_met s.result_filter (shown_on other.rows s r.item) r.stored))

  abbrev entries_left : List Item → List Entry
  entries_left = surplus_on s.result_filter (shown_on one.rows s) (shown_on other.rows s)

  entries_are_gathered : (is : List Item) → entries_left is ≡ map row_entry (filter is_lacked (gathered_rows one.rows is))
  entries_are_gathered [] = refl
  entries_are_gathered (x ∷ xs) =
      ap (λ l. l ++ entries_left xs)
      (one_item x (is_looked_at one.rows s x) (λ t. is_met t && not (has_met s.result_filter (shown_on other.rows s x) t)) is_lacked
      (λ t. refl)
      (stored_on x one.rows))
      ∙ ap (λ l. map row_entry (filter is_lacked (map (row_on x) (stored_on x one.rows))) ++ l) (entries_are_gathered xs)
      ∙ sym (map-append row_entry (filter is_lacked (map (row_on x) (stored_on x one.rows))) (filter is_lacked (gathered_rows one.rows xs)))
      ∙ sym (ap (map row_entry) (filter-append is_lacked (map (row_on x) (stored_on x one.rows)) (gathered_rows one.rows xs)))

  in_other : (r : Attachment) → IsCanonItem r.item
      → has_entry (fresh other.rows s) (row_entry r) ≡ has_met s.result_filter (shown_on other.rows s r.item) r.stored
  in_other r i = both_ways (has_entry (fresh other.rows s) (row_entry r)) (has_met s.result_filter (shown_on other.rows s r.item) r.stored)
      forward (λ h. backward (is_looked_at other.rows s r.item) refl h)
    where
      forward : has_entry (fresh other.rows s) (row_entry r) ≡ true
          → has_met s.result_filter (shown_on other.rows s r.item) r.stored ≡ true
      forward h =
          let e = any_has (same_entry (row_entry r)) (fresh other.rows s) h
          in let m = map_has row_entry (filter (is_found other.rows s) other.rows) e.0 e.1
          in let f = filter_has (is_found other.rows s) other.rows m.0 m.1
          in let p = and_parts (is_looked_at other.rows s m.0.item) (is_met m.0.stored) f.1
          in let q : same_entry (row_entry r) (row_entry m.0) ≡ true = subst (λ y. same_entry (row_entry r) y ≡ true) (sym m.2) e.2
          in let k = and_parts (same_item r.item m.0.item) (bytes_eq (entry_bytes (row_entry r)) (entry_bytes (row_entry m.0))) q
          in let at : r.item ≡ m.0.item = same_item_is tells r.item m.0.item i.identifiers
          (member (λ r. IsCanonItem r.item) other.rows beside.items m.0 f.0).identifiers k.0
          in let looked : is_looked_at other.rows s r.item ≡ true = subst (λ x. is_looked_at other.rows s x ≡ true) (sym at) p.0
          in let there : Has (stored_on r.item other.rows) m.0.stored
          = has_map (λ (x : Attachment). x.stored) (filter (λ x. same_item x.item r.item) other.rows) m.0
          (has_filter (λ x. same_item x.item r.item) other.rows m.0 f.0
          (subst (λ x. same_item m.0.item x ≡ true) (sym at) (item_itself m.0.item)))
          in subst (λ b. list_any (ties r) (cond b (stored_on r.item other.rows) []) ≡ true) (sym looked)
          (has_any (ties r) (stored_on r.item other.rows) m.0.stored there
          (and_from (eq_by_cmp stored_order m.0.stored r.stored) (is_met m.0.stored) (bytes_tie r m.0 k.1) p.1))

      backward : (b : Bool) → is_looked_at other.rows s r.item ≡ b
          → has_met s.result_filter (cond b (stored_on r.item other.rows) []) r.stored ≡ true
          → has_entry (fresh other.rows s) (row_entry r) ≡ true
      backward false looked h = let q : false ≡ true = h in cc
      backward true looked h =
          let t = any_has (ties r) (stored_on r.item other.rows) h
          in let p = and_parts (eq_by_cmp stored_order t.0 r.stored) (is_met t.0) t.2
          in let m = map_has (λ (x : Attachment). x.stored) (filter (λ x. same_item x.item r.item) other.rows) t.0 t.1
          in let f = filter_has (λ (x : Attachment). same_item x.item r.item) other.rows m.0 m.1
          in let at : m.0.item ≡ r.item = same_item_is tells m.0.item r.item
          (member (λ r. IsCanonItem r.item) other.rows beside.items m.0 f.0).identifiers i.identifiers f.1
          in let seen : is_looked_at other.rows s m.0.item ≡ true = subst (λ x. is_looked_at other.rows s x ≡ true) (sym at) looked
          in let meets : is_met m.0.stored ≡ true = subst (λ y. is_met y ≡ true) (sym m.2) p.1
          in let is : is_found other.rows s m.0 ≡ true = and_from (is_looked_at other.rows s m.0.item) (is_met m.0.stored) seen meets
          in let bytes : bytes_eq (entry_bytes (row_entry r)) (entry_bytes (row_entry m.0)) ≡ true
          = tie_bytes r m.0 (subst (λ y. eq_by_cmp stored_order y r.stored ≡ true) (sym m.2) p.0)
          in let item : same_item r.item m.0.item ≡ true = subst (λ x. same_item r.item x ≡ true) (sym at) (item_itself r.item)
          in has_any (same_entry (row_entry r)) (fresh other.rows s) (row_entry m.0)
          (has_map row_entry (filter (is_found other.rows s) other.rows) m.0 (has_filter (is_found other.rows s) other.rows m.0 f.0 is))
          (and_from (same_item r.item m.0.item) (bytes_eq (entry_bytes (row_entry r)) (entry_bytes (row_entry m.0))) item bytes)

  module _ (items : List Item) (rising : IsStrictlySortedBy item_order items) (canon : (x : Item) → Has items x → IsCanonItem x)
      (settled : (x : Item) → IsCanonItem x → has_item items x ≡ false
      → (is_looked_at one.rows s x ≡ is_looked_at other.rows s x)
      × (is_looked_at one.rows s x ≡ true → stored_on x one.rows ≡ stored_on x other.rows)) where
    abbrev is_own_row : Attachment → Bool
    is_own_row r = not (has_entry (fresh other.rows s) (row_entry r))

    pointwise : (r : Attachment) → Has one.rows r → (has_item items r.item && is_lacked r) ≡ (is_found one.rows s r && is_own_row r)
    pointwise r h = by (has_item items r.item) refl
      where
        canon_r : IsCanonItem r.item
        canon_r = member (λ r. IsCanonItem r.item) one.rows graph.items r h

        other_has : has_entry (fresh other.rows s) (row_entry r) ≡ has_met s.result_filter (shown_on other.rows s r.item) r.stored
        other_has = in_other r canon_r

        stays : has_item items r.item ≡ false → is_looked_at one.rows s r.item ≡ true → is_met r.stored ≡ true
            → has_entry (fresh other.rows s) (row_entry r) ≡ true
        stays f looked m =
            let q = settled r.item canon_r f
            in let seen : is_looked_at other.rows s r.item ≡ true = sym q.0 ∙ looked
            in let own : Has (stored_on r.item one.rows) r.stored
            = has_map (λ (x : Attachment). x.stored) (filter (λ x. same_item x.item r.item) one.rows) r
            (has_filter (λ x. same_item x.item r.item) one.rows r h (item_itself r.item))
            in let there : Has (stored_on r.item other.rows) r.stored = subst (λ l. Has l r.stored) (q.1 looked) own
            in other_has ∙ subst
            (λ b. list_any (λ o. eq_by_cmp stored_order o r.stored && is_met o) (cond b (stored_on r.item other.rows) [])
            ≡ true) (sym seen)
            (has_any (λ o. eq_by_cmp stored_order o r.stored && is_met o) (stored_on r.item other.rows) r.stored there
            (and_from (eq_by_cmp stored_order r.stored r.stored) (is_met r.stored) (tied_itself r.stored) m))

        by : (b : Bool) → has_item items r.item ≡ b → (b && is_lacked r) ≡ (is_found one.rows s r && is_own_row r)
        by true e =
            and_joined (is_looked_at one.rows s r.item) (is_met r.stored)
            (not (has_met s.result_filter (shown_on other.rows s r.item) r.stored))
            ∙ ap (λ a. (is_looked_at one.rows s r.item && is_met r.stored) && not a) (sym other_has)
        by false e =
            sym (outside (is_looked_at one.rows s r.item) (is_met r.stored) (has_entry (fresh other.rows s) (row_entry r)) (stays e))

    -- what is left out item by item is the difference of the results
    pub difference_is : entries_left items ≡ difference (fresh one.rows s) (fresh other.rows s)
    difference_is =
        entries_are_gathered items
        ∙ ap (λ l. map row_entry (filter is_lacked l))
        (gathers tells one.rows items graph.items (all_items items canon) (items_grouped one.rows graph.rising) rising)
        ∙ ap (map row_entry) (filter_twice (λ (r : Attachment). has_item items r.item) is_lacked one.rows
        ∙ filter_alike (λ (r : Attachment). has_item items r.item && is_lacked r) (λ r. is_found one.rows s r && is_own_row r) one.rows
        (has_all (λ (r : Attachment). (has_item items r.item && is_lacked r) ≡ (is_found one.rows s r && is_own_row r)) one.rows pointwise)
        ∙ sym (filter_twice (is_found one.rows s) is_own_row one.rows))
        ∙ map_filter row_entry (λ e. not (has_entry (fresh other.rows s) e)) (filter (is_found one.rows s) one.rows)
