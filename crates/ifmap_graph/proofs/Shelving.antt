-- Entries, slots and the rows that they show, as one shelf comes, changes or goes.
use Rattle.std.proofs.Common.{◌≡◌, ◌≢◌, ◌⊎◌, ℕ, true, false, Option, Some, None, IsSome, List, [], ◌∷◌, ◌++◌, map, nat_eq, refl, ap, ◌∙◌, sym, subst, inl, inr, arith}
use Rattle.std.proofs.lemmas.Bool.{cases_Bool, cases_eq}
use Rattle.std.proofs.lemmas.Bool.Decides.{nat_tests}
use Rattle.std.proofs.lemmas.Option.{none-some}
use Rattle.std.specs.BTreeMap.{is_at, insert_entry}
use Rattle.std.specs.List.{AllByRecursion, IsDistinct}
use Rattle.std.specs.Map.{lookup}
use Rattle.std.specs.Ordering.{is_eq, match_ordering}
use Rattle.std.specs.declared.cmp.Ordering.{Ordering}
use Rattle.std.specs.declared.cmp.Ordering.TheVariants.{Less, Equal, Greater}
use Rattle.std.proofs.lemmas.Map.Keys.{IsDistinct-cons, IsDistinct-head, IsDistinct-tail}
use Rattle.ifmap_lemmas.specs.Having.{Has}
use Rattle.ifmap_ident.specs.declared.items.Item.{Item}
use Rattle.ifmap_ident.specs.Items.{IsCanonItem, item_order}
use Rattle.ifmap_graph.specs.declared.shelves.Shelf.{Shelf}
use Rattle.ifmap_graph.specs.Shelved.{IsPlaced, ItemsRise, StoredSide, list_at, rows_by}
use Rattle.ifmap_graph.proofs.Finding.{all_inserted, inserts_empty, nothing_rises}
use Rattle.ifmap_lemmas.specs.Numbers.{equal_numbers}
use Rattle.ifmap_lemmas.specs.Rising.{to_distinct}
use Rattle.ifmap_view.specs.Attachments.{row_on}

abbrev pub Entries : Type 0
Entries = List (Item × ℕ)

abbrev pub slots_of : Entries → List ℕ
slots_of es = map (λ e. e.1) es

pub nothing_placed : (look : ℕ → Option Shelf) → IsPlaced look []
nothing_placed look = record { rising = nothing_rises ℕ; canon = tt; live = tt; apart = to_distinct nat_eq [] tt }

out_inserted : (k : ℕ) (es : Entries) (item : Item) (at : ℕ) → AllByRecursion (λ y. nat_eq k y ≡ false) (slots_of es) → nat_eq k at ≡ false
    → AllByRecursion (λ y. nat_eq k y ≡ false) (slots_of (insert_entry item_order es item at))
out_inserted k [] item at a n = (n, tt)
out_inserted k (e ∷ es) item at a n = by (item_order item e.0) (out_inserted k es item at a.1 n)
  where
    by : (o : Ordering) → AllByRecursion (λ y. nat_eq k y ≡ false) (slots_of (insert_entry item_order es item at))
        → AllByRecursion (λ y. nat_eq k y ≡ false) (slots_of (match_ordering o ((item, at) ∷ e ∷ es) ((e.0, at) ∷ es)
        (e ∷ insert_entry item_order es item at)))
    by Less rest = (n, a)
    by Equal rest = (n, a.1)
    by Greater rest = (a.0, rest)

turned_tests : (a b : ℕ) → nat_eq a b ≡ false → nat_eq b a ≡ false
turned_tests a b e = grind (arith, nat_tests)

slots_inserted : (es : Entries) (item : Item) (at : ℕ) → IsDistinct nat_eq (slots_of es) → AllByRecursion (λ y. nat_eq at y ≡ false)
    (slots_of es)
    → IsDistinct nat_eq (slots_of (insert_entry item_order es item at))
slots_inserted [] item at d a = IsDistinct-cons nat_eq at [] tt d
slots_inserted (e ∷ es) item at d a = by (item_order item e.0) (slots_inserted es item at (IsDistinct-tail nat_eq e.1 (slots_of es) d) a.1)
  where
    by : (o : Ordering) → IsDistinct nat_eq (slots_of (insert_entry item_order es item at))
        → IsDistinct nat_eq (slots_of (match_ordering o ((item, at) ∷ e ∷ es) ((e.0, at) ∷ es) (e ∷ insert_entry item_order es item at)))
    by Less rest = IsDistinct-cons nat_eq at (slots_of (e ∷ es)) a d
    by Equal rest = IsDistinct-cons nat_eq at (slots_of es) a.1 (IsDistinct-tail nat_eq e.1 (slots_of es) d)
    by Greater rest = IsDistinct-cons nat_eq e.1 (slots_of (insert_entry item_order es item at))
        (out_inserted e.1 es item at (IsDistinct-head nat_eq e.1 (slots_of es) d) (turned_tests at e.1 a.0)) rest

-- a vacant slot is no entry's
vacant_out : (look : ℕ → Option Shelf) (at : ℕ) (es : Entries) → look at ≡ None → AllByRecursion (λ e. IsSome (look e.1)) es
    → AllByRecursion (λ y. nat_eq at y ≡ false) (slots_of es)
vacant_out look at [] v a = tt
vacant_out look at (e ∷ es) v a = (
  elim (cases_Bool (nat_eq at e.1)) [
    | inl t ↦ let q : IsSome {T = Shelf} None = subst (λ (o : Option Shelf). IsSome o) (ap look (sym (equal_numbers at e.1 t))
        ∙ v) a.0 in cc
    | inr t ↦ t
  ],
  vacant_out look at es v a.1,
)

module _ (look later : ℕ → Option Shelf) (at : ℕ) (vacant : look at ≡ None) (others : (o : ℕ) → o ≢ at → later o ≡ look o) where
  stays : (n : ℕ) → IsSome (look n) → later n ≡ look n
  stays n s = others n (λ e. let q : IsSome {T = Shelf} None = subst (λ (o : Option Shelf). IsSome o) (ap look e ∙ vacant) s in cc)

  pub rows_stay : (side : StoredSide) (es : Entries) → AllByRecursion (λ e. IsSome (look e.1)) es
      → rows_by (λ n. list_at side (later n)) es ≡ rows_by (λ n. list_at side (look n)) es
  rows_stay side [] a = refl
  rows_stay side (e ∷ es) a =
      ap (λ o. map (row_on e.0) (list_at side o) ++ rows_by (λ n. list_at side (later n)) es) (stays e.1 a.0)
      ∙ ap (λ l. map (row_on e.0) (list_at side (look e.1)) ++ l) (rows_stay side es a.1)

  pub slots_stay : (es : Entries) → AllByRecursion (λ e. IsSome (look e.1)) es → AllByRecursion (λ e. later e.1 ≡ look e.1) es
  slots_stay [] a = tt
  slots_stay (e ∷ es) a = (stays e.1 a.0, slots_stay es a.1)

  live_stay : (es : Entries) → AllByRecursion (λ e. IsSome (look e.1)) es → AllByRecursion (λ e. IsSome (later e.1)) es
  live_stay [] a = tt
  live_stay (e ∷ es) a = (subst (λ (o : Option Shelf). IsSome o) (sym (stays e.1 a.0)) a.0, live_stay es a.1)

-- a new entry is there, and so are the old ones
pub inserted_itself : (es : Entries) (item : Item) (at : ℕ) → lookup (is_at (item_order item)) es ≡ None
    → Has (insert_entry item_order es item at) (item, at)
inserted_itself [] item at h = inl refl
inserted_itself (e ∷ es) item at h = by (item_order item e.0) refl (inserted_itself es item at)
  where
    by : (o : Ordering) → item_order item e.0 ≡ o → (lookup (is_at (item_order item)) es ≡ None → Has (insert_entry item_order es item at)
        (item, at))
        → Has (match_ordering o ((item, at) ∷ e ∷ es) ((e.0, at) ∷ es) (e ∷ insert_entry item_order es item at)) (item, at)
    by Less is rest = inl refl
    by Equal is rest = let t : is_at (item_order item) e.0 ≡ true = ap is_eq is in absurd (none-some _ (sym (rw t at h)))
    by Greater is rest = let t : is_at (item_order item) e.0 ≡ false = ap is_eq is in inr (rest (rw t at h))

pub inserted_has : (es : Entries) (item : Item) (at : ℕ) (x : Item × ℕ) → lookup (is_at (item_order item)) es ≡ None → Has es x
    → Has (insert_entry item_order es item at) x
inserted_has [] item at x h i = absurd i
inserted_has (e ∷ es) item at x h i = by (item_order item e.0) refl (inserted_has es item at x) i
  where
    by : (o : Ordering) → item_order item e.0 ≡ o → (lookup (is_at (item_order item)) es ≡ None → Has es x
        → Has (insert_entry item_order es item at) x)
        → (e ≡ x) ⊎ Has es x → Has (match_ordering o ((item, at) ∷ e ∷ es) ((e.0, at) ∷ es) (e ∷ insert_entry item_order es item at)) x
    by Less is rest j = inr j
    by Equal is rest j = let t : is_at (item_order item) e.0 ≡ true = ap is_eq is in absurd (none-some _ (sym (rw t at h)))
    by Greater is rest (inl j) = inl j
    by Greater is rest (inr j) = let t : is_at (item_order item) e.0 ≡ false = ap is_eq is in inr (rest (rw t at h) j)

-- an item comes to have a shelf, which is still empty
module _ (es new : Entries) (look later : ℕ → Option Shelf) (item : Item) (at place : ℕ) (shelf : Shelf)
    (is : IsPlaced look es) (canon : IsCanonItem item) (none : lookup (is_at (item_order item)) es ≡ None) (here : at ≡ place)
    (vacant : look at ≡ None)
    (later_at : later at ≡ Some shelf) (empty : shelf.stored ≡ record { now = []; draft = None })
    (others : (o : ℕ) → o ≢ at → later o ≡ look o) (inserts : new ≡ insert_entry item_order es item place) (rises : ItemsRise new) where
  becomes : new ≡ insert_entry item_order es item at
  becomes = inserts ∙ ap (λ n. insert_entry item_order es item n) (sym here)

  pub is_placed : IsPlaced later new
  is_placed = record {
    rising = rises;
    canon = subst (λ l. AllByRecursion (λ e. IsCanonItem e.0) l) (sym becomes) (all_inserted (λ e. IsCanonItem e.0) es item at none
        is.canon canon);
    live = subst (λ l. AllByRecursion (λ e. IsSome (later e.1)) l) (sym becomes)
        (all_inserted (λ e. IsSome (later e.1)) es item at none (live_stay look later at vacant others es is.live)
        (subst (λ (o : Option Shelf). IsSome o) (sym later_at) refl));
    apart = subst (λ l. IsDistinct nat_eq (slots_of l)) (sym becomes) (slots_inserted es item at is.apart
        (vacant_out look at es vacant is.live));
  }

  pub same_rows : (side : StoredSide) → side (record { now = []; draft = None }) ≡ []
      → rows_by (λ n. list_at side (later n)) new ≡ rows_by (λ n. list_at side (look n)) es
  same_rows side nothing =
      ap (rows_by (λ n. list_at side (later n))) becomes
      ∙ inserts_empty (λ n. list_at side (later n)) item es at (ap (list_at side) later_at ∙ ap side empty ∙ nothing) none
      ∙ rows_stay look later at vacant others side es is.live

  -- each shelf is an item's
  pub still_used : ((n : ℕ) → IsSome (look n) → (k : Item) × Has es (k, n)) → (n : ℕ) → IsSome (later n) → (k : Item) × Has new (k, n)
  still_used used n s = elim (cases_eq n at) [
    | inl q ↦ (
      item,
      subst (λ l. Has l (item, n)) (sym becomes) (subst (λ m. Has (insert_entry item_order es item at) (item, m)) (sym q)
          (inserted_itself es item at none)),
    )
    | inr o ↦ let u = used n (subst (λ (x : Option Shelf). IsSome x) (others n o) s)
        in (u.0, subst (λ l. Has l (u.0, n)) (sym becomes) (inserted_has es item at (u.0, n) none u.1))
  ]
