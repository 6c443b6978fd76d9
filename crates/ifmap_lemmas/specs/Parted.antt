-- Lists parted by tests. First one filter within another (`filter_within`, `none_within`), then how many pass two tests
-- (`two_filters`, `one_gone`, `length_without`), and what stands below and above one member (`two_sides`, `length_sides`, `any_sides`).
-- Last, what a search finds among those that a filter leaves (`found_in_rest`, `none_in_rest`, `lost_in_rest`).
use Rattle.std.proofs.Common.{◌≡◌, ◌≢◌, ◌+◌, ◌≤◌, ◌<◌, Bool, true, false, ◌||◌, not, cond, None, Some, List, [], ◌∷◌, length, inl, inr, refl, sym, ◌∙◌, ap, subst, arith}
use Rattle.std.proofs.lemmas.Bool.{both_ways, cases_Bool, false_from_ne_true, or_right}
use Rattle.std.specs.List.{AllByRecursion, filter, find, list_any}
use Rattle.std.specs.List.Sorted.{IsStrictlySortedBy}
use Rattle.std.specs.Ordering.{is_gt, is_lt}
use Rattle.std.specs.declared.cmp.Ordering.{Ordering}
use Rattle.std.specs.declared.cmp.Ordering.TheVariants.{Less, Equal, Greater}
use Rattle.ifmap_lemmas.specs.Filters.{all_weaker, filter_alike, filter_all, filter_fewer}
use Rattle.ifmap_lemmas.specs.Having.{Has}
use Rattle.ifmap_lemmas.specs.Tests.{less_not_greater}

module _ {X : Type 0} where
  -- a filter leaves what passes a test that passes it too
  pub filter_within : (p q : X → Bool) → ((x : X) → p x ≡ true → q x ≡ true) → (xs : List X) → filter p (filter q xs) ≡ filter p xs
  filter_within p q f [] = refl
  filter_within p q f (x ∷ xs) =
      elim (cases_Bool (q x)) [
        | inl stays ↦
            elim (cases_Bool (p x)) [
              | inl hit ↦ rw (stays, hit) (ap (λ t. x ∷ t) (filter_within p q f xs))
              | inr miss ↦ rw (stays, miss) (filter_within p q f xs)
            ]
        | inr goes ↦
            let miss : p x ≡ false = false_from_ne_true (p x) (λ hit. both_ways (q x) goes (f x hit)) in
            rw (goes, miss) (filter_within p q f xs)
      ]

  -- and nothing of what does not pass it
  pub none_within : (p : X → Bool) (xs : List X) → filter p (filter (λ x. not (p x)) xs) ≡ []
  none_within p [] = refl
  none_within p (x ∷ xs) =
      elim (cases_Bool (p x)) [
        | inl hit ↦ rw hit (none_within p xs)
        | inr miss ↦ rw (miss, miss) (none_within p xs)
      ]

  -- tests that agree where something holds leave the same of members of which it does
  pub filter_where : (P : X → Type 0) (p q : X → Bool) → ((x : X) → P x → p x ≡ q x) → (xs : List X) → AllByRecursion P xs
      → filter p xs ≡ filter q xs
  filter_where P p q same xs h = filter_alike p q xs (all_weaker P (λ x. p x ≡ q x) same xs h)

  -- what passes one of two tests that exclude each other, and then a third, is no more than what passes the third
  pub two_filters : (p q r : X → Bool) → ((x : X) → q x ≡ true → r x ≡ false) → (xs : List X)
      → length (filter p (filter q xs)) + length (filter p (filter r xs)) ≤ length (filter p xs)
  two_filters p q r apart [] = omega arith
  two_filters p q r apart (x ∷ xs) =
      let rest = two_filters p q r apart xs in
      elim (cases_Bool (q x)) [
        | inl first ↦
            let other : r x ≡ false = apart x first in
            elim (cases_Bool (p x)) [
              | inl hit ↦ rw (first, other, hit) (omega (arith, rest))
              | inr miss ↦ rw (first, other, miss) rest
            ]
        | inr not_first ↦
            elim (cases_Bool (r x)) [
              | inl second ↦
                  elim (cases_Bool (p x)) [
                    | inl hit ↦ rw (not_first, second, hit) (omega (arith, rest))
                    | inr miss ↦ rw (not_first, second, miss) rest
                  ]
              | inr none ↦
                  elim (cases_Bool (p x)) [
                    | inl hit ↦ rw (not_first, none, hit) (omega (arith, rest))
                    | inr miss ↦ rw (not_first, none, miss) rest
                  ]
            ]
      ]

  -- one less at least, where one that counts goes
  pub one_gone : (q r : X → Bool) → ((x : X) → r x ≡ true → q x ≡ true) → (xs : List X) → list_any r xs ≡ true
      → length (filter q (filter (λ x. not (r x)) xs)) < length (filter q xs)
  one_gone q r counts [] some = let bad : false ≡ true = some in cc
  one_gone q r counts (x ∷ xs) some =
      elim (cases_Bool (r x)) [
        | inl goes ↦
            let rest = filter_fewer q (λ y. not (r y)) xs in
            rw (goes, counts x goes) (omega (arith, rest))
        | inr stays ↦
            let rest = one_gone q r counts xs (rw stays at some) in
            elim (cases_Bool (q x)) [ inl is ↦ rw (stays, is) (omega (arith, rest)) | inr other ↦ rw (stays, other) rest ]
      ]

  -- where one at most passes a test, so many fewer are left without those that do
  pub length_without : (p q : X → Bool) → ((x : X) → p x ≡ true → q x ≡ true) → (order : X → X → Ordering)
      → ((x y : X) → p x ≡ true → p y ≡ true → order x y ≡ Equal) → (xs : List X) → IsStrictlySortedBy order xs
      → length (filter q (filter (λ x. not (p x)) xs)) + cond (list_any p xs) 1 0 ≡ length (filter q xs)
  unfolding IsStrictlySortedBy
  length_without p q f order e [] up = refl
  length_without p q f order e (x ∷ xs) up =
      elim (cases_Bool (p x)) [
        | inl hit ↦
            let none : AllByRecursion (λ y. not (p y) ≡ true) xs = all_weaker (λ y. order x y ≡ Less) (λ y. not (p y) ≡ true)
            (λ y l. ap not (false_from_ne_true (p y) (λ k. let bad : Less ≡ Equal = sym l ∙ e x y hit k in cc))) xs up.0 in
            let same = filter_all (λ y. not (p y)) xs none in
            rw (hit, f x hit, same) (omega arith)
        | inr miss ↦
            let rest = length_without p q f order e xs up.1 in
            elim (cases_Bool (q x)) [
              | inl counts ↦ rw (miss, counts) (omega (arith, rest))
              | inr passed ↦ rw (miss, passed) rest
            ]
      ]

module _ {X : Type 0} (order : X → X → Ordering) (a : X) where
  -- the members below one, and those above it
  abbrev pub below : List X → List X
  below xs = filter (λ y. is_lt (order y a)) xs

  abbrev pub above : List X → List X
  above xs = filter (λ y. is_gt (order y a)) xs

  length_step : (p : X → Bool) (x : X) (low high xs : List X) (r : Ordering) → r ≢ Equal
      → length (filter p low) + length (filter p high) ≡ length (filter p xs)
      → length (filter p (cond (is_lt r) (x ∷ low) low)) + length (filter p (cond (is_gt r) (x ∷ high) high)) ≡ length (filter p (x ∷ xs))
  length_step p x low high xs Less n rest =
      elim (cases_Bool (p x)) [ inl hit ↦ rw hit (omega (arith, rest)) | inr miss ↦ rw miss (omega (arith, rest)) ]
  length_step p x low high xs Equal n rest = absurd (n refl)
  length_step p x low high xs Greater n rest =
      elim (cases_Bool (p x)) [ inl hit ↦ rw hit (omega (arith, rest)) | inr miss ↦ rw miss (omega (arith, rest)) ]

  -- where none is equal to it, they are all
  pub length_sides : (p : X → Bool) (xs : List X) → AllByRecursion (λ y. order y a ≢ Equal) xs
      → length (filter p (below xs)) + length (filter p (above xs)) ≡ length (filter p xs)
  length_sides p [] h = refl
  length_sides p (x ∷ xs) h = length_step p x (below xs) (above xs) xs (order x a) h.0 (length_sides p xs h.1)

  any_step : (p : X → Bool) (x : X) (low high xs : List X) (r : Ordering) → (p x ≡ true → r ≢ Equal)
      → (list_any p low || list_any p high) ≡ list_any p xs
      → (list_any p (cond (is_lt r) (x ∷ low) low) || list_any p (cond (is_gt r) (x ∷ high) high)) ≡ (p x || list_any p xs)
  any_step p x low high xs Less n rest = elim (cases_Bool (p x)) [ inl hit ↦ rw hit refl | inr miss ↦ rw miss rest ]
  any_step p x low high xs Equal n rest = elim (cases_Bool (p x)) [ inl hit ↦ absurd (n hit refl) | inr miss ↦ rw miss rest ]
  any_step p x low high xs Greater n rest =
      elim (cases_Bool (p x)) [ inl hit ↦ rw hit (or_right (list_any p low) true refl) | inr miss ↦ rw miss rest ]

  -- and some of them pass where some do
  pub any_sides : (p : X → Bool) (xs : List X) → ((y : X) → p y ≡ true → order y a ≢ Equal)
      → (list_any p (below xs) || list_any p (above xs)) ≡ list_any p xs
  any_sides p [] h = refl
  any_sides p (x ∷ xs) h = any_step p x (below xs) (above xs) xs (order x a) (h x) (any_sides p xs h)

-- those below and those above one are no more than all
pub two_sides : {X : Type 0} (q : X → Bool) (C : X → X → Ordering) (a : X) (xs : List X)
    → length (filter q (filter (λ y. is_lt (C y a)) xs)) + length (filter q (filter (λ y. is_gt (C y a)) xs)) ≤ length (filter q xs)
two_sides q C a xs = two_filters q (λ y. is_lt (C y a)) (λ y. is_gt (C y a)) (λ y less. less_not_greater (C y a) less) xs

-- ---- what a search finds among those that a filter leaves

module _ {X : Type 0} (q p : X → Bool) where
  pub found_in_rest : (xs : List X) (x : X) → find q xs ≡ Some x → p x ≡ true → find q (filter p xs) ≡ Some x
  found_in_rest [] x e stays = cc
  found_in_rest (y ∷ ys) x e stays =
      elim (cases_Bool (q y)) [
        | inl hit ↦
            let same : y ≡ x = cc (rw hit at e) in
            let keeps : p y ≡ true = subst (λ z. p z ≡ true) (sym same) stays in
            rw (keeps, hit) (ap Some same)
        | inr miss ↦
            let rest = found_in_rest ys x (rw miss at e) stays in
            elim (cases_Bool (p y)) [ inl keeps ↦ rw (keeps, miss) rest | inr goes ↦ rw goes rest ]
      ]

  pub none_in_rest : (xs : List X) → find q xs ≡ None → find q (filter p xs) ≡ None
  none_in_rest [] e = refl
  none_in_rest (y ∷ ys) e =
      elim (cases_Bool (q y)) [
        | inl hit ↦ let bad : Some y ≡ None = rw hit at e in cc
        | inr miss ↦
            let rest = none_in_rest ys (rw miss at e) in
            elim (cases_Bool (p y)) [ inl keeps ↦ rw (keeps, miss) rest | inr goes ↦ rw goes rest ]
      ]

  pub lost_in_rest : (xs : List X) → AllByRecursion (λ y. q y ≡ true → p y ≡ false) xs → find q (filter p xs) ≡ None
  lost_in_rest [] h = refl
  lost_in_rest (y ∷ ys) h =
      let rest = lost_in_rest ys h.1 in
      elim (cases_Bool (p y)) [
        | inl keeps ↦
            elim (cases_Bool (q y)) [
              | inl hit ↦ let bad : p y ≡ false = h.0 hit in let worse : true ≡ false = sym keeps ∙ bad in cc
              | inr miss ↦ rw (keeps, miss) rest
            ]
        | inr goes ↦ rw goes rest
      ]

-- what a search finds is there, and passes
pub find_has : {X : Type 0} (q : X → Bool) (xs : List X) (x : X) → find q xs ≡ Some x → Has xs x × (q x ≡ true)
find_has q [] x e = let bad : None ≡ Some x = e in cc
find_has q (y ∷ ys) x e =
    elim (cases_Bool (q y)) [
      | inl hit ↦ let same : y ≡ x = cc (rw hit at e) in (inl same, ap q (sym same) ∙ hit)
      | inr miss ↦ let rest = find_has q ys x (rw miss at e) in (inr rest.0, rest.1)
    ]
