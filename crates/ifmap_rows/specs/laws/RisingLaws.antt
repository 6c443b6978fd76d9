-- Lists in a strict order: the one member that is equal to another, without it, and with one more.
use Rattle.std.proofs.Common.{◌≡◌, refl, ◌∙◌, ap, inl, inr, ℕ, ◌<◌, true, false, not, List, [], ◌∷◌, ◌++◌, length}
use Rattle.std.proofs.Common.{get_or, Ordering}
use Rattle.std.proofs.lemmas.Bool.{cases_Bool}
use Rattle.std.proofs.lemmas.Cmp.{eq_by_cmp_equiv}
use Rattle.std.specs.Cmp.{IsTotalOrder}
use Rattle.std.specs.List.{filter, list_any, remove}
use Rattle.std.specs.List.Sorted.{IsStrictlySortedBy}
use Rattle.std.specs.Ordering.{eq_by_cmp, is_eq, is_gt, is_lt}
use Rattle.std.specs.declared.cmp.Ordering.TheVariants.{Equal}
use Rattle.ifmap_lemmas.specs.Filtered.{filter_agrees}
use Rattle.ifmap_lemmas.specs.Having.{Has, has_any}
use Rattle.ifmap_lemmas.specs.Orderings.{is_greater, less_differs}
use Rattle.ifmap_lemmas.specs.Parted.{filter_within}
use Rattle.ifmap_lemmas.specs.Rising.{remove_tied}
use Rattle.ifmap_plans.specs.Placing.{put}
use Rattle.ifmap_rows.specs.Indexed.{without_one}

module _ (X : Type 0) (C : X → X → Ordering) (o : IsTotalOrder C) where
  -- where a member is equal to one, the list without it is that without the one
  pub remove_is : (a : X) (xs : List X) (i : ℕ) → IsStrictlySortedBy C xs → i < length xs → ((d : X) → C (get_or xs i d) a ≡ Equal)
      → remove xs i ≡ without_one C a xs
  remove_is a xs i up lt is =
      remove_tied C o a xs i up lt is
      ∙ filter_agrees (λ y. not (is_eq (C y a))) (λ y. not (eq_by_cmp C a y)) xs (λ y h. ap not ((eq_by_cmp_equiv o).symm y a))

  -- and where none is, nothing goes
  pub none_out : (a : X) (xs : List X) → list_any (λ y. eq_by_cmp C y a) xs ≡ false → xs ≡ without_one C a xs
  none_out a [] e = refl
  none_out a (x ∷ xs) e = elim (cases_Bool (eq_by_cmp C x a)) [
    | inl t ↦ let bad : true ≡ false = rw t at e in cc
    | inr t ↦
        let rest : list_any (λ y. eq_by_cmp C y a) xs ≡ false = rw t at e in
        let other : is_eq (C a x) ≡ false = (eq_by_cmp_equiv o).symm a x ∙ t in
        rw other (ap (λ ys. x ∷ ys) (none_out a xs rest))
  ]

  -- and then no member is equal to the one
  pub none_equal : (a : X) (xs : List X) → list_any (λ y. eq_by_cmp C y a) xs ≡ false → (x : X) → Has xs x → is_eq (C a x) ≡ false
  none_equal a xs e x h = elim (cases_Bool (is_eq (C a x))) [
    | inl t ↦
        let there : list_any (λ y. eq_by_cmp C y a) xs ≡ true = has_any (λ y. eq_by_cmp C y a) xs x h ((eq_by_cmp_equiv o).symm x a ∙ t) in
        cc
    | inr f ↦ f
  ]

  less_other : (a y : X) → is_lt (C y a) ≡ true → not (eq_by_cmp C a y) ≡ true
  less_other a y h = ap not ((eq_by_cmp_equiv o).symm a y ∙ less_differs (C y a) h)

  greater_other : (a y : X) → is_gt (C y a) ≡ true → not (eq_by_cmp C a y) ≡ true
  greater_other a y h = ap not ((eq_by_cmp_equiv o).symm a y ∙ ap is_eq (is_greater (C y a) h))

  -- what is equal may go before one is put in
  pub put_again : (a : X) (xs : List X) → put C a (without_one C a xs) ≡ put C a xs
  put_again a xs =
      λ i. filter_within (λ y. is_lt (C y a)) (λ y. not (eq_by_cmp C a y)) (less_other a) xs i
      ++ a ∷ filter_within (λ y. is_gt (C y a)) (λ y. not (eq_by_cmp C a y)) (greater_other a) xs i

  -- those that go with one more that goes
  pub without_next : (r : X) (rs xs : List X) → filter (λ s. not (list_any (λ q. eq_by_cmp C q s) (r ∷ rs))) xs
      ≡ filter (λ s. not (list_any (λ q. eq_by_cmp C q s) rs)) (without_one C r xs)
  without_next r rs [] = refl
  without_next r rs (x ∷ xs) = elim (cases_Bool (eq_by_cmp C r x)) [
    | inl t ↦ rw t (without_next r rs xs)
    | inr t ↦ elim (cases_Bool (list_any (λ q. eq_by_cmp C q x) rs)) [
      | inl u ↦ rw (t, u) (without_next r rs xs)
      | inr u ↦ rw (t, u) (ap (λ ys. x ∷ ys) (without_next r rs xs))
    ]
  ]
