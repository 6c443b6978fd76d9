-- Lists with one put in or out at a place, as a search by halving ends there.
-- First what holds of any list with one put in, written over or pushed (`all_insert`, `all_set`, `push_elsewhere`, `find_insert`). Then
-- lists of which no two have one key: taking out the one of a key leaves those of other keys (`remove_one`). Then lists that rise, by what
-- a search in them ends with: a member that ties (`found_any`), or a gap, and then none does (`gap_none`). Last lists that rise by a key:
-- those before and after the one of a key are not it, so without it the others are left (`others`), it is what a search finds (`the_one`),
-- no one is found at a gap (`gap_finds_none`), and the list still rises where one goes in there (`place_for`).
use Rattle.std.proofs.Common.{◌≡◌, ◌≢◌, refl, sym, ◌∙◌, ap, ℕ, suc, zero, ◌<◌, ◌≤◌, Bool, true, false, not, cond, List, [], ◌∷◌, ◌++◌, length, get_or, set, None, Some, Err, Ok, Ordering, inl, inr, arith}
use Rattle.std.proofs.lemmas.Bool.{cases_Bool, cases_lt}
use Rattle.std.proofs.lemmas.Cmp.{alike_right, on_total}
use Rattle.std.proofs.lemmas.List.Elements.{recursion_from_All}
use Rattle.std.proofs.lemmas.List.Folds.{list_any_at}
use Rattle.std.proofs.lemmas.List.Sorted.{searchable_from_sorted}
use Rattle.std.specs.Cmp.{IsEquivalence, IsTotalOrder}
use Rattle.std.specs.List.{All, AllByRecursion, IsDistinct, filter, find, insert, list_any, remove, slice_get}
use Rattle.std.specs.List.Sorted.{IsBinarySearchResult, IsPartitionPoint, IsSearchInRange, IsStrictlySortedBy}
use Rattle.std.specs.Ordering.{eq_by_cmp, is_eq, on}
use Rattle.std.specs.declared.cmp.Ordering.TheVariants.{Less, Equal, Greater}
use Rattle.ifmap_lemmas.specs.Filters.{all_at, all_weaker, filter_all}
use Rattle.ifmap_lemmas.specs.Found.{find_none}
use Rattle.ifmap_lemmas.specs.Having.{Has, all_has}
use Rattle.ifmap_lemmas.specs.Orderings.{greater_reversed, less_reversed}
use Rattle.ifmap_lemmas.specs.Rising.{rises_in_order}

-- what holds of each, and of what is put in
pub all_insert : {X : Type 0} (P : X → Type 0) (xs : List X) (i : ℕ) (y : X) → AllByRecursion P xs → P y → AllByRecursion P (insert xs i y)
all_insert P [] zero y h k = (k, tt)
all_insert P [] (suc i) y h k = (k, tt)
all_insert P (x ∷ xs) zero y h k = (k, h)
all_insert P (x ∷ xs) (suc i) y h k = (h.0, all_insert P xs i y h.1 k)

-- and of what is written over another
pub all_set : {X : Type 0} (P : X → Type 0) (xs : List X) (i : ℕ) (y : X) → AllByRecursion P xs → P y → AllByRecursion P (set xs i y)
all_set P [] i y all new = tt
all_set P (x ∷ xs) zero y all new = (new, all.1)
all_set P (x ∷ xs) (suc i) y all new = (all.0, all_set P xs i y all.1 new)

-- one more at the end, which is what is read past the end, changes no place
pub one_pushed : {X : Type 0} (xs : List X) (v : ℕ) (d : X) → get_or (xs ++ d ∷ []) v d ≡ get_or xs v d
one_pushed [] zero d = refl
one_pushed [] (suc v) d = refl
one_pushed (x ∷ xs) zero d = refl
one_pushed (x ∷ xs) (suc v) d = one_pushed xs v d

-- and what stands at each other place
pub push_elsewhere : {X : Type 0} (xs : List X) (y : X) (j : ℕ) → j ≢ length xs → slice_get (xs ++ y ∷ []) j ≡ slice_get xs j
push_elsewhere [] y zero apart = absurd (apart refl)
push_elsewhere [] y (suc j) apart = refl
push_elsewhere (x ∷ xs) y zero apart = refl
push_elsewhere (x ∷ xs) y (suc j) apart = push_elsewhere xs y j (λ e. apart (ap (λ n. suc n) e))

-- what is found after one that is found by nothing before was put in
pub find_insert : {X : Type 0} (q : X → Bool) (xs : List X) (i : ℕ) (y : X) → (q y ≡ true → find q xs ≡ None)
    → find q (insert xs i y) ≡ cond (q y) (Some y) (find q xs)
find_insert q [] zero y h = refl
find_insert q [] (suc i) y h = refl
find_insert q (x ∷ xs) zero y h = refl
find_insert q (x ∷ xs) (suc i) y h =
    elim (cases_Bool (q x)) [
      | inl hit ↦ elim (cases_Bool (q y)) [ inl is ↦ let bad : Some x ≡ None = rw hit at (h is) in cc | inr miss ↦ rw (hit, miss) refl ]
      | inr miss ↦ rw miss (find_insert q xs i y (λ is. rw miss at (h is)))
    ]

-- ---- in lists of which no two have one key

module _ {X : Type 0} (E : X → X → Bool) (e : IsEquivalence E) where
  -- members of one key are one
  pub one_of_key : (xs : List X) (a b : X) → IsDistinct E xs → Has xs a → Has xs b → E a b ≡ true → a ≡ b
  unfolding IsDistinct
  one_of_key [] a b d h k is = absurd h
  one_of_key (x ∷ xs) a b d (inl p) (inl q) is = sym p ∙ q
  one_of_key (x ∷ xs) a b d (inl p) (inr k) is =
      let differ : E x b ≡ false = all_has (λ y. E x y ≡ false) xs d.0 b k in
      let bad : false ≡ true = sym differ ∙ ap (λ y. E y b) p ∙ is in cc
  one_of_key (x ∷ xs) a b d (inr h) (inl q) is =
      let differ : E x a ≡ false = all_has (λ y. E x y ≡ false) xs d.0 a h in
      let bad : false ≡ true = sym differ ∙ e.symm x a ∙ ap (E a) q ∙ is in cc
  one_of_key (x ∷ xs) a b d (inr h) (inr k) is = one_of_key xs a b d.1 h k is

  later_differ : (a x : X) (xs : List X) → E a x ≡ true → AllByRecursion (λ y. E x y ≡ false) xs
      → AllByRecursion (λ y. not (E a y) ≡ true) xs
  later_differ a x xs is h = all_weaker (λ y. E x y ≡ false) (λ y. not (E a y) ≡ true) (λ y n. ap not (e.congr a x y is ∙ n)) xs h

  -- taking out the one of a key leaves those of other keys
  pub remove_one : (a : X) (xs : List X) (i : ℕ) → IsDistinct E xs → i < length xs → ((d : X) → E a (get_or xs i d) ≡ true)
      → remove xs i ≡ filter (λ y. not (E a y)) xs
  unfolding IsDistinct
  remove_one a [] i apart lt is = absurd (omega arith)
  remove_one a (x ∷ xs) zero apart lt is = rw (is x) (sym (filter_all (λ y. not (E a y)) xs (later_differ a x xs (is x) apart.0)))
  remove_one a (x ∷ xs) (suc i) apart lt is =
      let there : E x (get_or xs i x) ≡ false = all_at (λ y. E x y ≡ false) xs i x apart.0 (omega arith) in
      let other : E a x ≡ false = e.congr a (get_or xs i x) x (is x) ∙ e.symm (get_or xs i x) x ∙ there in
      rw other (ap (λ t. x ∷ t) (remove_one a xs i apart.1 (omega arith) is))

-- ---- in lists that rise

module _ (X : Type 0) (C : X → X → Ordering) (o : IsTotalOrder C) where
  -- a search that ends at one that ties has found one
  pub found_any : (a : X) (xs : List X) (i : ℕ) → IsSearchInRange (Ok i) (length xs) → IsBinarySearchResult (λ y. C y a) xs (Ok i)
      → list_any (λ y. eq_by_cmp C y a) xs ≡ true
  found_any a xs i within is = list_any_at (λ y. eq_by_cmp C y a) xs i a within (ap is_eq (is a))

  none_at : (a : X) (xs : List X) (i : ℕ) → i ≤ length xs → IsPartitionPoint (λ y. C y a ≡ Less) (λ y. C y a ≡ Greater) xs i
      → list_any (λ y. eq_by_cmp C y a) xs ≡ false
  none_at a [] i le p = refl
  none_at a (x ∷ xs) zero le p =
      rw (p.1 0 x (omega arith) (omega arith)) (none_at a xs zero (omega arith) (
        (λ j d low h. absurd (omega (arith, h))),
        (λ j d low h. p.1 (suc j) d (omega arith) (omega (arith, h))),
      ))
  none_at a (x ∷ xs) (suc i) le p =
      rw (p.0 0 x (omega arith) (omega arith)) (none_at a xs i (omega arith) (
        (λ j d low h. p.0 (suc j) d (omega arith) (omega (arith, h))),
        (λ j d low h. p.1 (suc j) d (omega (arith, low)) (omega (arith, h))),
      ))

  -- and one that ends between two has not
  pub gap_none : (a : X) (xs : List X) (i : ℕ) → IsStrictlySortedBy C xs → IsSearchInRange (Err i) (length xs)
      → IsBinarySearchResult (λ y. C y a) xs (Err i) → list_any (λ y. eq_by_cmp C y a) xs ≡ false
  gap_none a xs i up within is =
      none_at a xs i within (is (searchable_from_sorted o (λ y. y) xs a (rises_in_order C o xs up)))

-- and in those that rise by a key
module _ (X K : Type 0) (key : X → K) (C : K → K → Ordering) (o : IsTotalOrder C) (E : K → K → Bool)
    (same : (x y : K) → E x y ≡ is_eq (C x y)) where
  differs : (a b : K) → C a b ≡ Less → E a b ≡ false
  differs a b e = same a b ∙ ap is_eq e

  differs_back : (a b : K) → C a b ≡ Greater → E a b ≡ false
  differs_back a b e = same a b ∙ ap is_eq e

  -- those after an element that is the one looked for are not
  those_later_differ : (x : X) (xs : List X) (k : K) → C (key x) k ≡ Equal → AllByRecursion (λ z. on key C x z ≡ Less) xs
      → AllByRecursion (λ z. E (key z) k ≡ false) xs
  those_later_differ x xs k e =
      all_weaker (λ z. on key C x z ≡ Less) (λ z. E (key z) k ≡ false)
      (λ z l. differs_back (key z) k (less_reversed o k (key z) (sym (o.congr (key x) k (key z) e) ∙ l))) xs

  -- one before it is not
  earlier_differs : (x z : X) (k : K) → C (key z) k ≡ Equal → C (key x) (key z) ≡ Less → E (key x) k ≡ false
  earlier_differs x z k e l = differs (key x) k (sym (alike_right o (key z) k (key x) e) ∙ l)

  -- without the one of a key, those of other keys are left
  pub others : (xs : List X) (i : ℕ) (k : K) → IsStrictlySortedBy (on key C) xs → i < length xs
      → ((d : X) → C (key (get_or xs i d)) k ≡ Equal) → remove xs i ≡ filter (λ y. not (E (key y) k)) xs
  unfolding IsStrictlySortedBy
  others [] i k up lt e = absurd (omega arith)
  others (x ∷ xs) zero k up lt e =
      let here : E (key x) k ≡ true = same (key x) k ∙ ap is_eq (e x) in
      rw here (sym (filter_all (λ y. not (E (key y) k)) xs (all_weaker (λ z. E (key z) k ≡ false) (λ z. not (E (key z) k) ≡ true)
      (λ z n. ap not n) xs (those_later_differ x xs k (e x) up.0))))
  others (x ∷ xs) (suc i) k up lt e =
      let no : E (key x) k ≡ false = earlier_differs x (get_or xs i x) k (e x) (all_at
      (λ z. on key C x z ≡ Less) xs i x up.0 (omega arith)) in
      rw no (ap (λ t. x ∷ t) (others xs i k up.1 (omega arith) e))

  -- the one of a key is what a search finds
  pub the_one : (xs : List X) (i : ℕ) (k : K) → IsStrictlySortedBy (on key C) xs → i < length xs
      → ((d : X) → C (key (get_or xs i d)) k ≡ Equal) → (d : X) → find (λ y. E (key y) k) xs ≡ Some (get_or xs i d)
  unfolding IsStrictlySortedBy
  the_one [] i k up lt e d = absurd (omega arith)
  the_one (x ∷ xs) zero k up lt e d =
      let here : E (key x) k ≡ true = same (key x) k ∙ ap is_eq (e x) in rw here refl
  the_one (x ∷ xs) (suc i) k up lt e d =
      let no : E (key x) k ≡ false = earlier_differs x (get_or xs i x) k (e x) (all_at
      (λ z. on key C x z ≡ Less) xs i x up.0 (omega arith)) in
      rw no (the_one xs i k up.1 (omega arith) e d)

  -- where all are below or above a key, it has no one
  no_one : (xs : List X) (i : ℕ) (k : K) → IsPartitionPoint (λ y. C (key y) k ≡ Less) (λ y. C (key y) k ≡ Greater) xs i
      → find (λ y. E (key y) k) xs ≡ None
  no_one xs i k p =
      let each : All (λ y. E (key y) k ≡ false) xs = λ j d h. elim (cases_lt j i) [
        | inl below ↦ differs (key (get_or xs j d)) k (p.0 j d (omega arith) below)
        | inr above ↦ differs_back (key (get_or xs j d)) k (p.1 j d above h)
      ] in
      find_none (λ y. E (key y) k) xs (recursion_from_All (λ y. E (key y) k ≡ false) xs each)

  searched : (xs : List X) (k : K) (i : ℕ) → IsStrictlySortedBy (on key C) xs → IsBinarySearchResult (λ y. C (key y) k) xs (Err i)
      → IsPartitionPoint (λ y. C (key y) k ≡ Less) (λ y. C (key y) k ≡ Greater) xs i
  searched xs k i up is = is (searchable_from_sorted o key xs k (rises_in_order (on key C) (on_total key o) xs up))

  -- a search for a key that ends between two has found no one
  pub gap_finds_none : (xs : List X) (i : ℕ) (k : K) → IsStrictlySortedBy (on key C) xs → IsBinarySearchResult (λ y. C (key y) k) xs (Err i)
      → find (λ y. E (key y) k) xs ≡ None
  gap_finds_none xs i k up is = no_one xs i k (searched xs k i up is)

  inserted : (xs : List X) (i : ℕ) (y : X) → IsStrictlySortedBy (on key C) xs → i ≤ length xs → IsPartitionPoint
      (λ z. C (key z) (key y) ≡ Less) (λ z. C (key z) (key y) ≡ Greater) xs i → IsStrictlySortedBy (on key C) (insert xs i y)
  unfolding IsStrictlySortedBy
  inserted [] zero y up le p = (tt, tt)
  inserted [] (suc i) y up le p = (tt, tt)
  inserted (x ∷ xs) zero y up le p = (
    recursion_from_All (λ z. on key C y z ≡ Less) (x ∷ xs) (λ j d h.
        greater_reversed o (key (get_or (x ∷ xs) j d)) (key y) (p.1 j d (omega arith) h)),
    up,
  )
  inserted (x ∷ xs) (suc i) y up le p = (
    all_insert (λ z. on key C x z ≡ Less) xs i y up.0 (p.0 0 x (omega arith) (omega arith)),
    inserted xs i y up.1 (omega arith) (
      (λ j d low h. p.0 (suc j) d (omega arith) (omega arith)),
      (λ j d low h. p.1 (suc j) d (omega arith) (omega arith)),
    ),
  )

  -- a list still rises where one goes in at the place that a search found
  pub place_for : (xs : List X) (i : ℕ) (y : X) → IsStrictlySortedBy (on key C) xs → i ≤ length xs → IsBinarySearchResult
      (λ z. C (key z) (key y)) xs (Err i) → IsStrictlySortedBy (on key C) (insert xs i y)
  place_for xs i y up within is = inserted xs i y up within (searched xs (key y) i up is)
