-- One pass over two lists that rise.
use Rattle.std.proofs.Common.{◌≡◌, ◌∙◌, refl, sym, ap, subst, ℕ, ◌+◌, ◌<◌, zero, suc, true, false, ◌||◌, List, [], ◌∷◌, drop, length}
use Rattle.std.proofs.Common.{get_or}
use Rattle.std.proofs.Math.Bool.{or-false}
use Rattle.std.proofs.lemmas.Cmp.{alike_right}
use Rattle.std.proofs.lemmas.List.{drop_more}
use Rattle.std.specs.Cmp.{tied_itself}
use Rattle.std.specs.List.{AllByRecursion, list_any}
use Rattle.std.specs.List.Sorted.{IsStrictlySortedBy}
use Rattle.std.specs.Ordering.{is_lt, ordering_reverse}
use Rattle.std.specs.declared.cmp.Ordering.{Ordering}
use Rattle.std.specs.declared.cmp.Ordering.TheVariants.{Less, Equal, Greater}
use Rattle.ifmap_lemmas.specs.Orderings.{greater_reversed, less_reversed}
use Rattle.ifmap_meta.specs.declared.stored.Stored.{Stored}
use Rattle.ifmap_rows.specs.ifmap_plans.Lists.{same_stored}
use Rattle.ifmap_rows.specs.ifmap_plans.laws.KeyLaws.{stored_total}
use Rattle.ifmap_view.specs.Attachments.{stored_order}
use Rattle.ifmap_publish.proofs.Differing.{AllAbove, above_above, above_tied, none_same, sorted_first}
use Rattle.ifmap_publish.proofs.Same.{greater_differs}

-- the element is not below the other
abbrev pub IsFrom : Stored → Stored → Type 0
IsFrom row s = is_lt (stored_order s row) ≡ false

-- what is below one is below what is not
below_from : (first row s : Stored) → stored_order first row ≡ Less → IsFrom row s → stored_order first s ≡ Less
below_from first row s e from = by (stored_order s row) refl from
  where
    by : (o : Ordering) → stored_order s row ≡ o → is_lt o ≡ false → stored_order first s ≡ Less
    by Less is f = let q : true ≡ false = f in cc
    by Equal is f = alike_right stored_total s row first is ∙ e
    by Greater is f = stored_total.trans first row s e (greater_reversed stored_total s row is)

pub itself_from : (row : Stored) → IsFrom row row
itself_from row = ap is_lt (tied_itself stored_total row)

-- the first is passed
pub passes_first : (row : Stored) (rest after rows : List Stored) → IsStrictlySortedBy stored_order rest
    → (first : Stored) × (rest ≡ first ∷ after) × (stored_order first row ≡ Less)
    → ((s : Stored) → IsFrom row s → list_any (same_stored s) rest ≡ list_any (same_stored s) rows)
    → IsStrictlySortedBy stored_order after × ((s : Stored) → IsFrom row s → list_any (same_stored s) after ≡ list_any (same_stored s) rows)
passes_first row rest after rows up (first, is, e) same = (
  (sorted_first first after (subst (IsStrictlySortedBy stored_order) is up)).1,
  λ s from. sym (ap (λ b. b || list_any (same_stored s) after)
      (greater_differs s first (less_reversed stored_total first s (below_from first row s e from))))
      ∙ sym (ap (list_any (same_stored s)) is) ∙ same s from,
)

-- the first tells for all
pub first_tells : (row first : Stored) (after rows : List Stored) → rows ≡ first ∷ after → IsStrictlySortedBy stored_order rows
    → AllByRecursion (IsFrom row) rows → list_any (same_stored row) rows ≡ same_stored row first
first_tells row first after rows is up from =
    let parts = sorted_first first after (subst (IsStrictlySortedBy stored_order) is up) in
    let start : IsFrom row first = (subst (AllByRecursion (IsFrom row)) is from).0 in
    ap (list_any (same_stored row)) is
    ∙ ap (λ b. same_stored row first || b) (none_same row after (by (stored_order first row) refl start parts.0))
    ∙ or-false (same_stored row first)
  where
    by : (o : Ordering) → stored_order first row ≡ o → is_lt o ≡ false → AllAbove first after → AllAbove row after
    by Less e f all = let q : true ≡ false = f in cc
    by Equal e f all = above_tied row first after (stored_total.antisymm row first ∙ ap ordering_reverse e) all
    by Greater e f all = above_above row first after (greater_reversed stored_total first row e) all

pub none_first : (row : Stored) (rows : List Stored) → length rows ≡ 0 → false ≡ list_any (same_stored row) rows
none_first row [] e = refl
none_first row (x ∷ xs) e = cc

pub none_from : (row : Stored) (rows : List Stored) → length rows ≡ 0 → AllByRecursion (IsFrom row) rows
none_from row [] e = tt
none_from row (x ∷ xs) e = cc

-- where the first is not below it, none is
pub all_from : (row first : Stored) (after rows : List Stored) → rows ≡ first ∷ after → IsStrictlySortedBy stored_order rows
    → IsFrom row first → AllByRecursion (IsFrom row) rows
all_from row first after rows is up start =
    let parts = sorted_first first after (subst (IsStrictlySortedBy stored_order) is up) in
    subst (AllByRecursion (IsFrom row)) (sym is) (start, later after parts.0)
  where
    from : (y : Stored) → stored_order first y ≡ Less → IsFrom row y
    from y l = by (stored_order y row) refl
      where
        by : (o : Ordering) → stored_order y row ≡ o → IsFrom row y
        by Less e = let q : true ≡ false = sym (ap is_lt (stored_total.trans first y row l e)) ∙ start in cc
        by Equal e = ap is_lt e
        by Greater e = ap is_lt e

    later : (ys : List Stored) → AllAbove first ys → AllByRecursion (IsFrom row) ys
    later [] all = tt
    later (y ∷ ys) all = (from y all.0, later ys all.1)

pub sorted_drop : (i : ℕ) (xs : List Stored) → IsStrictlySortedBy stored_order xs → IsStrictlySortedBy stored_order (drop i xs)
unfolding IsStrictlySortedBy
sorted_drop zero xs up = up
sorted_drop (suc i) [] up = up
sorted_drop (suc i) (x ∷ xs) up = sorted_drop i xs up.1

-- what is left of the other list tells of one more, and of those to come
module _ (one other rest next : List Stored) (i : ℕ) (row : Stored) (up : IsStrictlySortedBy stored_order one) (low : i < length one)
    (at : row ≡ get_or one i row)
    (same : AllByRecursion (λ s. list_any (same_stored s) rest ≡ list_any (same_stored s) other) (drop i one))
    (stays : (s : Stored) → IsFrom row s → list_any (same_stored s) next ≡ list_any (same_stored s) rest) where
  front : drop i one ≡ row ∷ drop (i + 1) one
  front = subst (λ y. drop i one ≡ y ∷ drop (i + 1) one) (sym at) (drop_more one i row low)

  all : AllByRecursion (λ s. list_any (same_stored s) rest ≡ list_any (same_stored s) other) (row ∷ drop (i + 1) one)
  all = subst (AllByRecursion (λ s. list_any (same_stored s) rest ≡ list_any (same_stored s) other)) front same

  pub tells_now : list_any (same_stored row) next ≡ list_any (same_stored row) other
  tells_now = stays row (itself_from row) ∙ all.0

  pub tells_later : AllByRecursion (λ s. list_any (same_stored s) next ≡ list_any (same_stored s) other) (drop (i + 1) one)
  tells_later =
      walk (drop (i + 1) one)
      (sorted_first row (drop (i + 1) one) (subst (IsStrictlySortedBy stored_order) front (sorted_drop i one up))).0 all.1
    where
      walk : (ys : List Stored) → AllAbove row ys
          → AllByRecursion (λ s. list_any (same_stored s) rest ≡ list_any (same_stored s) other) ys
          → AllByRecursion (λ s. list_any (same_stored s) next ≡ list_any (same_stored s) other) ys
      walk [] over h = tt
      walk (y ∷ ys) over h = (
        stays y (ap is_lt (less_reversed stored_total row y over.0)) ∙ h.0,
        walk ys over.1 h.1,
      )
