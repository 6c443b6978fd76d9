-- What stands on an item, by the entries of a map; and entries that come and go while they are empty.
use Rattle.std.proofs.Common.{◌≡◌, Bool, true, false, cond, Some, None, List, [], ◌∷◌, ◌++◌, map, refl, ap, ◌∙◌, sym, subst, inl, inr}
use Rattle.std.proofs.lemmas.Bool.{cases_Bool}
use Rattle.std.proofs.lemmas.List.{append-nil}
use Rattle.std.proofs.lemmas.Option.{same_Some, none-some}
use Rattle.std.specs.BTreeMap.{is_at, insert_entry}
use Rattle.std.specs.List.{AllByRecursion}
use Rattle.std.specs.List.Sorted.{IsStrictlySortedBy}
use Rattle.std.specs.Map.{lookup, remove_entry}
use Rattle.std.specs.Ordering.{is_eq, match_ordering}
use Rattle.std.specs.declared.cmp.Ordering.{Ordering}
use Rattle.std.specs.declared.cmp.Ordering.TheVariants.{Less, Equal, Greater}
use Rattle.std.specs.Cmp.{Equal-is}
use Rattle.ifmap_ident.specs.declared.items.Item.{Item}
use Rattle.ifmap_ident.specs.Items.{item_order, same_item}
use Rattle.ifmap_meta.specs.declared.stored.Stored.{Stored}
use Rattle.ifmap_view.specs.Attachments.{row_on}
use Rattle.ifmap_view.specs.declared.attachments.Attachment.{Attachment}
use Rattle.ifmap_view.specs.Rows.{stored_on}
use Rattle.ifmap_graph.specs.Shelved.{ItemsRise, rows_by}
use Rattle.ifmap_graph.proofs.Ordered.{above_tied}
use Rattle.ifmap_ident.specs.SameLaws.{ties, greater_item_differs}

pub kept_one : (item at : Item) (xs : List Stored) (rest : List Attachment) → same_item at item ≡ true
    → stored_on item (map (row_on at) xs ++ rest) ≡ xs ++ stored_on item rest
kept_one item at [] rest e = refl
kept_one item at (x ∷ xs) rest e = rw e (ap (λ l. x ∷ l) (kept_one item at xs rest e))

pub passed_one : (item at : Item) (xs : List Stored) (rest : List Attachment) → same_item at item ≡ false
    → stored_on item (map (row_on at) xs ++ rest) ≡ stored_on item rest
passed_one item at [] rest e = refl
passed_one item at (x ∷ xs) rest e = rw e (passed_one item at xs rest e)

pub first_rises : {X : Type 0} (e : Item × X) (es : List (Item × X)) → ItemsRise (e ∷ es)
    → AllByRecursion (λ y. item_order e.0 y ≡ Less) (map (λ e. e.0) es) × ItemsRise es
unfolding IsStrictlySortedBy
first_rises e es r = r

pub nothing_rises : (X : Type 0) → ItemsRise {X = X} []
unfolding IsStrictlySortedBy
nothing_rises X = tt

pub rises_first : {X : Type 0} (e : Item × X) (es : List (Item × X)) → AllByRecursion (λ y. item_order e.0 y ≡ Less) (map (λ e. e.0) es)
    → ItemsRise es → ItemsRise (e ∷ es)
unfolding IsStrictlySortedBy
rises_first e es a r = (a, r)

module _ {X : Type 0} (list_of : X → List Stored) (item : Item) where
  none_above : (es : List (Item × X)) → AllByRecursion (λ y. item_order item y ≡ Less) (map (λ e. e.0) es) → stored_on item
      (rows_by list_of es) ≡ []
  none_above [] a = refl
  none_above (e ∷ es) a = passed_one item e.0 (list_of e.1) (rows_by list_of es) (greater_item_differs item e.0 a.0) ∙ none_above es a.1

  -- a look-up that hits gives what is stored on the item
  pub entry_stores : (es : List (Item × X)) (at : X) → ItemsRise es → lookup (is_at (item_order item)) es ≡ Some at
      → list_of at ≡ stored_on item
      (rows_by list_of es)
  entry_stores [] at r h = absurd (none-some _ h)
  entry_stores (e ∷ es) at r h = elim (cases_Bool (is_at (item_order item) e.0)) [
    | inl t ↦ let here : e.1 ≡ at = same_Some _ _ (rw t at h)
        in ap list_of (sym here)
        ∙ sym (kept_one item e.0 (list_of e.1) (rows_by list_of es) (sym (ties item e.0) ∙ t)
        ∙ ap (λ l. list_of e.1 ++ l)
        (none_above es (above_tied item e.0 (map (λ e. e.0) es) ((Equal-is (item_order item e.0)).0 t) (first_rises e es r).0))
        ∙ append-nil (list_of e.1))
    | inr t ↦ entry_stores es at (first_rises e es r).1 (rw t at h)
        ∙ sym (passed_one item e.0 (list_of e.1) (rows_by list_of es) (sym (ties item e.0) ∙ t))
  ]

  -- and where it misses, nothing is
  pub unlisted_empty : (es : List (Item × X)) → lookup (is_at (item_order item)) es ≡ None → [] ≡ stored_on item (rows_by list_of es)
  unlisted_empty [] h = refl
  unlisted_empty (e ∷ es) h = elim (cases_Bool (is_at (item_order item) e.0)) [
    | inl t ↦ absurd (none-some _ (sym (rw t at h)))
    | inr t ↦ unlisted_empty es (rw t at h) ∙ sym (passed_one item e.0 (list_of e.1) (rows_by list_of es) (sym (ties item e.0) ∙ t))
  ]

  -- an entry that is empty changes no attachments when it comes
  pub inserts_empty : (es : List (Item × X)) (at : X) → list_of at ≡ [] → lookup (is_at (item_order item)) es ≡ None
      → rows_by list_of (insert_entry item_order es item at) ≡ rows_by list_of es
  inserts_empty [] at empty h = ap (λ l. map (row_on item) l ++ []) empty
  inserts_empty (e ∷ es) at empty h = by (item_order item e.0) refl (inserts_empty es at empty)
    where
      by : (o : Ordering) → item_order item e.0 ≡ o
          → (lookup (is_at (item_order item)) es ≡ None → rows_by list_of (insert_entry item_order es item at) ≡ rows_by list_of es)
          → rows_by list_of (match_ordering o ((item, at) ∷ e ∷ es) ((e.0, at) ∷ es) (e ∷ insert_entry item_order es item at)) ≡ rows_by
          list_of (e ∷ es)
      by Less is rest = ap (λ l. map (row_on item) l ++ rows_by list_of (e ∷ es)) empty
      by Equal is rest = let t : is_at (item_order item) e.0 ≡ true = ap is_eq is in absurd (none-some _ (sym (rw t at h)))
      by Greater is rest = let t : is_at (item_order item) e.0 ≡ false = ap is_eq is in ap (λ l. map (row_on e.0) (list_of e.1) ++ l)
          (rest (rw t at h))

  -- nor when it goes
  pub leaves : (es : List (Item × X)) (at : X) → lookup (is_at (item_order item)) es ≡ Some at → list_of at ≡ []
      → rows_by list_of (remove_entry (is_at (item_order item)) es) ≡ rows_by list_of es
  leaves [] at h empty = absurd (none-some _ h)
  leaves (e ∷ es) at h empty = elim (cases_Bool (is_at (item_order item) e.0)) [
    | inl t ↦ let here : e.1 ≡ at = same_Some _ _ (rw t at h)
        in rw t (sym (ap (λ l. map (row_on e.0) l ++ rows_by list_of es) (ap list_of here ∙ empty)))
    | inr t ↦ let q = leaves es at (rw t at h) empty in rw t (ap (λ l. map (row_on e.0) (list_of e.1) ++ l) q)
  ]

-- each entry, and a new one
pub all_inserted : {X : Type 0} (P : Item × X → Type 0) (es : List (Item × X)) (item : Item) (at : X) → lookup (is_at (item_order item))
    es ≡ None
    → AllByRecursion P es → P (item, at) → AllByRecursion P (insert_entry item_order es item at)
all_inserted P [] item at h a p = (p, tt)
all_inserted {X} P (e ∷ es) item at h a p = by (item_order item e.0) refl (λ q. all_inserted P es item at q a.1 p)
  where
    by : (o : Ordering) → item_order item e.0 ≡ o
        → (lookup (is_at (item_order item)) es ≡ None → AllByRecursion P (insert_entry item_order es item at))
        → AllByRecursion P (match_ordering o ((item, at) ∷ e ∷ es) ((e.0, at) ∷ es) (e ∷ insert_entry item_order es item at))
    by Less is rest = (p, a)
    by Equal is rest = let t : is_at (item_order item) e.0 ≡ true = ap is_eq is in absurd (none-some _ (sym (rw t at h)))
    by Greater is rest = let t : is_at (item_order item) e.0 ≡ false = ap is_eq is in (a.0, rest (rw t at h))

-- the entries that stay when one goes
pub all_left : {X : Type 0} (P : Item × X → Type 0) (test : Item → Bool) (es : List (Item × X)) → AllByRecursion P es → AllByRecursion P
    (remove_entry test es)
all_left P test [] a = tt
all_left {X} P test (e ∷ es) a = by (test e.0) (all_left P test es a.1)
  where
    by : (b : Bool) → AllByRecursion P (remove_entry test es) → AllByRecursion P (cond b es (e ∷ remove_entry test es))
    by true rest = a.1
    by false rest = (a.0, rest)

-- what holds of each entry's slot holds of a slot that is looked up
pub live_at : {X : Type 0} (P : X → Type 0) (test : Item → Bool) (es : List (Item × X)) (at : X) → AllByRecursion (λ e. P e.1) es
    → lookup test es ≡ Some at → P at
live_at P test [] at a h = absurd (none-some _ h)
live_at P test (e ∷ es) at a h = elim (cases_Bool (test e.0)) [
  | inl t ↦ let here : e.1 ≡ at = same_Some _ _ (rw t at h) in subst P here a.0
  | inr t ↦ live_at P test es at a.1 (rw t at h)
]
