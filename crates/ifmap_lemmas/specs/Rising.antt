-- Lists that rise strictly in an order.
-- First what is so by the definition alone: the first is below all others, and the others rise (`head_rises`, `tail_rises`). Then which
-- lists rise: one that climbs step by step (`climbs`), one in order of which no two tie (`rises_apart`), one around a member
-- (`rises_around`). Then what ties: members that do are one (`tied_same`), and what is left without the one that does (`remove_tied`).
-- Then that two lists that rise with the same members are one (`rising_same`): by their first members, and so by all. Last the same said
-- of each member and those after it (`to_sorted`, `to_distinct`), and two lists of distinct members in one (`distinct_joined`).
use Rattle.std.proofs.Common.{◌≡◌, ◌∙◌, refl, sym, ap, subst, inl, inr, ℕ, suc, zero, ◌+◌, ◌<◌, Bool, true, false, not, ◌&&◌, List, [], ◌∷◌, ◌++◌, length}
use Rattle.std.proofs.Common.{get_or, Ordering, add-one, arith}
use Rattle.std.proofs.lemmas.Bool.{and_from, and_parts}
use Rattle.std.proofs.lemmas.Cmp.{alike_right}
use Rattle.std.proofs.lemmas.Map.Keys.{apart_from_distinct}
use Rattle.std.specs.Cmp.{Equal-is, IsTotalOrder, both_ways, tied_back, tied_itself}
use Rattle.std.specs.List.{AllByRecursion, IsDistinct, filter, list_any, remove}
use Rattle.std.specs.List.Sorted.{IsSortedBy, IsStrictlySortedBy}
use Rattle.std.specs.Ordering.{eq_by_cmp, is_eq, is_lt, ordering_reverse}
use Rattle.std.specs.declared.cmp.Ordering.TheVariants.{Less, Equal, Greater}
use Rattle.ifmap_lemmas.specs.Filters.{all_around, all_at, all_weaker, filter_all}
use Rattle.ifmap_lemmas.specs.Having.{Has, all_has, any_has, has_any}
use Rattle.ifmap_lemmas.specs.Members.{all_last, both_all}
use Rattle.ifmap_lemmas.specs.Orderings.{less_reversed, not_both, not_equal}
use Rattle.ifmap_lemmas.specs.Pairwise.{Pairwise}

module _ {X : Type 0} (C : X → X → Ordering) where
  pub nothing_rises : IsStrictlySortedBy C []
  unfolding IsStrictlySortedBy
  nothing_rises = tt

  -- the first of a list that rises is below all others
  pub head_rises : (x : X) (xs : List X) → IsStrictlySortedBy C (x ∷ xs) → AllByRecursion (λ y. C x y ≡ Less) xs
  unfolding IsStrictlySortedBy
  head_rises x xs up = up.0

  -- and the others rise
  pub tail_rises : (x : X) (xs : List X) → IsStrictlySortedBy C (x ∷ xs) → IsStrictlySortedBy C xs
  unfolding IsStrictlySortedBy
  tail_rises x xs up = up.1

  -- one that is above all comes last
  pub rises_last : (xs : List X) (k : X) → IsStrictlySortedBy C xs → AllByRecursion (λ j. C j k ≡ Less) xs
      → IsStrictlySortedBy C (xs ++ k ∷ [])
  unfolding IsStrictlySortedBy
  rises_last [] k up below = (tt, tt)
  rises_last (x ∷ xs) k up below = (
    all_last (λ y. C x y ≡ Less) xs k up.0 below.0,
    rises_last xs k up.1 below.1,
  )

module _ {X : Type 0} (C : X → X → Ordering) (o : IsTotalOrder C) where
  not_itself : (x : X) → C x x ≡ Less → ⊥
  not_itself x e = let q : Equal ≡ Less = sym (tied_itself o x) ∙ e in cc

  -- ---- which lists rise

  below_all : (x y : X) (ys : List X) → C x y ≡ Less → AllByRecursion (λ z. C y z ≡ Less) ys → AllByRecursion (λ z. C x z ≡ Less) ys
  below_all x y [] e a = tt
  below_all x y (z ∷ zs) e a = (o.trans x y z e a.0, below_all x y zs e a.1)

  -- a list in which each member is less than the next rises
  pub climbs : (xs : List X) → ((k : ℕ) (d : X) → suc k < length xs → C (get_or xs k d) (get_or xs (suc k) d) ≡ Less)
      → IsStrictlySortedBy C xs
  unfolding IsStrictlySortedBy
  climbs [] up = tt
  climbs (x ∷ []) up = (tt, tt)
  climbs (x ∷ (y ∷ ys)) up =
      let rest : IsStrictlySortedBy C (y ∷ ys) = climbs (y ∷ ys) (λ k d l. up (suc k) d (omega arith)) in
      let first : C x y ≡ Less = up 0 x (omega arith) in
      ((first, below_all x y ys first rest.0), rest)

  between : (p q : Ordering) → p ≡ ordering_reverse q → is_lt q ≡ false → is_eq p ≡ false → p ≡ Less
  between Less q e f g = refl
  between Equal q e f g = cc
  between Greater Less e f g = cc
  between Greater Equal e f g = cc
  between Greater Greater e f g = cc

  -- where no two tie, a list in order rises
  pub rises_apart : (xs : List X) → IsSortedBy (λ x y. is_lt (C x y)) xs → IsDistinct (eq_by_cmp C) xs → IsStrictlySortedBy C xs
  rises_apart xs up apart =
      climbs xs (λ k d l.
      let next : k + 1 ≡ suc k = omega arith in
      let after : is_lt (C (get_or xs (suc k) d) (get_or xs k d)) ≡ false =
      subst (λ n. is_lt (C (get_or xs n d) (get_or xs k d)) ≡ false) next (up k d (omega arith) (omega (arith, l))) in
      between (C (get_or xs k d) (get_or xs (suc k) d)) (C (get_or xs (suc k) d) (get_or xs k d))
      (o.antisymm (get_or xs k d) (get_or xs (suc k) d)) after
      (apart_from_distinct (eq_by_cmp C) xs k (suc k) d apart (omega arith) l))

  next_not_less : (xs : List X) → IsStrictlySortedBy C xs → (j : ℕ) (d : X) → suc j < length xs
      → is_lt (C (get_or xs (suc j) d) (get_or xs j d)) ≡ false
  unfolding IsStrictlySortedBy
  next_not_less [] up j d lt = absurd (omega arith)
  next_not_less (x ∷ xs) up zero d lt = ap is_lt (less_reversed o x (get_or xs 0 d) (all_at (λ z. C x z ≡ Less) xs 0 d up.0 (omega arith)))
  next_not_less (x ∷ xs) up (suc j) d lt = next_not_less xs up.1 j d (omega arith)

  -- a list that rises is in order
  pub rises_in_order : (xs : List X) → IsStrictlySortedBy C xs → IsSortedBy (λ a b. is_lt (C a b)) xs
  rises_in_order xs up j d low lt = rw (add-one j) (next_not_less xs up j d (omega arith))

  -- one stands between those below it and those above it
  pub rises_around : (xs : List X) (a : X) (zs : List X) → IsStrictlySortedBy C xs → IsStrictlySortedBy C zs
      → AllByRecursion (λ y. C y a ≡ Less) xs → AllByRecursion (λ y. C a y ≡ Less) zs → IsStrictlySortedBy C (xs ++ a ∷ zs)
  unfolding IsStrictlySortedBy
  rises_around [] a zs up over below above = (above, over)
  rises_around (x ∷ xs) a zs up over below above = (
    all_around (λ y. C x y ≡ Less) xs a zs up.0 below.0 (all_weaker (λ y. C a y ≡ Less) (λ y. C x y ≡ Less)
        (λ y l. o.trans x a y below.0 l) zs above),
    rises_around xs a zs up.1 over below.1 above,
  )

  -- ---- what ties

  -- members that tie are one
  pub tied_same : (xs : List X) (x y : X) → IsStrictlySortedBy C xs → Has xs x → Has xs y → C x y ≡ Equal → x ≡ y
  unfolding IsStrictlySortedBy
  tied_same [] x y up h i e = absurd h
  tied_same (z ∷ zs) x y up (inl p) (inl q) e = sym p ∙ q
  tied_same (z ∷ zs) x y up (inl p) (inr q) e =
      let less : C x y ≡ Less = subst (λ w. C w y ≡ Less) p (all_has (λ w. C z w ≡ Less) zs up.0 y q) in
      absurd (not_equal (C x y) less e)
  tied_same (z ∷ zs) x y up (inr p) (inl q) e =
      let less : C y x ≡ Less = subst (λ w. C w x ≡ Less) q (all_has (λ w. C z w ≡ Less) zs up.0 x p) in
      absurd (not_equal (C y x) less (tied_back o x y e))
  tied_same (z ∷ zs) x y up (inr p) (inr q) e = tied_same zs x y up.1 p q e

  -- a member that ties decides whether one that ties passes a test
  pub tied_decides : (p : X → Bool) (xs : List X) (t x : X) → IsStrictlySortedBy C xs → Has xs x → C x t ≡ Equal
      → p x ≡ list_any (λ y. is_eq (C y t) && p y) xs
  tied_decides p xs t x up h e = both_ways (p x) (list_any (λ y. is_eq (C y t) && p y) xs)
      (λ m. has_any (λ y. is_eq (C y t) && p y) xs x h (and_from (is_eq (C x t)) (p x) (ap is_eq e) m))
      (λ m. let y = any_has (λ y. is_eq (C y t) && p y) xs m
      in let q = and_parts (is_eq (C y.0 t)) (p y.0) y.2
      in let tie : C x y.0 ≡ Equal = o.congr x t y.0 e ∙ tied_back o y.0 t ((Equal-is (C y.0 t)).0 q.0)
      in subst (λ z. p z ≡ true) (sym (tied_same xs x y.0 up h y.1 tie)) q.1)

  -- and none passes it where none ties
  pub none_tied_passes : (p : X → Bool) (xs : List X) (t : X) → list_any (λ y. is_eq (C y t)) xs ≡ false
      → false ≡ list_any (λ y. is_eq (C y t) && p y) xs
  none_tied_passes p xs t e = both_ways false (list_any (λ y. is_eq (C y t) && p y) xs) (λ m. let q : false ≡ true = m in cc)
      (λ m. let y = any_has (λ y. is_eq (C y t) && p y) xs m
      in let q = and_parts (is_eq (C y.0 t)) (p y.0) y.2
      in sym e ∙ has_any (λ y. is_eq (C y t)) xs y.0 y.1 q.0)

  later_untied : (e x : X) (xs : List X) → C x e ≡ Equal → AllByRecursion (λ y. C x y ≡ Less) xs
      → AllByRecursion (λ y. not (is_eq (C y e)) ≡ true) xs
  later_untied e x xs is up = all_weaker (λ y. C x y ≡ Less) (λ y. not (is_eq (C y e)) ≡ true)
      (λ y l. ap (λ r. not (is_eq r)) (less_reversed o e y (sym (o.congr x e y is) ∙ l))) xs up

  -- the list without a member that ties is what does not tie
  pub remove_tied : (e : X) (xs : List X) (i : ℕ) → IsStrictlySortedBy C xs → i < length xs → ((d : X) → C (get_or xs i d) e ≡ Equal)
      → remove xs i ≡ filter (λ y. not (is_eq (C y e))) xs
  unfolding IsStrictlySortedBy
  remove_tied e [] i up lt is = absurd (omega arith)
  remove_tied e (x ∷ xs) zero up lt is =
      rw (is x) (sym (filter_all (λ y. not (is_eq (C y e))) xs (later_untied e x xs (is x) up.0)))
  remove_tied e (x ∷ xs) (suc i) up lt is =
      let less : C x e ≡ Less = sym (alike_right o (get_or xs i x) e x (is x)) ∙ all_at (λ y. C x y ≡ Less) xs i x up.0 (omega arith) in
      rw less (ap (λ t. x ∷ t) (remove_tied e xs i up.1 (omega arith) is))

  -- ---- two lists that rise

  -- with the same members, they are one
  pub rising_same : (xs ys : List X) → IsStrictlySortedBy C xs → IsStrictlySortedBy C ys
      → ((x : X) → Has xs x → Has ys x) → ((y : X) → Has ys y → Has xs y) → xs ≡ ys
  rising_same [] [] r q f g = refl
  rising_same [] (y ∷ ys) r q f g = absurd (g y (inl refl))
  rising_same (x ∷ xs) [] r q f g = absurd (f x (inl refl))
  rising_same (x ∷ xs) (y ∷ ys) r q f g =
      let below : (z : X) → Has xs z → C x z ≡ Less = λ z h. all_has (λ w. C x w ≡ Less) xs (head_rises C x xs r) z h
      in let above : (z : X) → Has ys z → C y z ≡ Less = λ z h. all_has (λ w. C y w ≡ Less) ys (head_rises C y ys q) z h
      in let one : y ≡ x = elim (f x (inl refl)) [
        | inl e ↦ e
        | inr h ↦ elim (g y (inl refl)) [
          | inl e ↦ sym e
          | inr k ↦ absurd (not_both o x y (below y k) (above x h))
        ]
      ]
      in let rest : xs ≡ ys = rising_same xs ys (tail_rises C x xs r) (tail_rises C y ys q)
      (λ z h. elim (f z (inr h)) [
        | inl e ↦ absurd (not_itself x (subst (λ w. C x w ≡ Less) (sym e ∙ one) (below z h)))
        | inr k ↦ k
      ])
      (λ z h. elim (g z (inr h)) [
        | inl e ↦ absurd (not_itself y (subst (λ w. C y w ≡ Less) (sym e ∙ sym one) (above z h)))
        | inr k ↦ k
      ])
      in ap (λ w. w ∷ xs) (sym one) ∙ ap (λ l. y ∷ l) rest

-- ---- of each member and those after it

module _ {X : Type 0} (R : X → X → Ordering) where
  -- a list rises where each member is below those after it, and no other does
  pub to_sorted : (xs : List X) → Pairwise (λ x y. R x y ≡ Less) xs → IsStrictlySortedBy R xs
  unfolding IsStrictlySortedBy
  to_sorted [] p = tt
  to_sorted (x ∷ xs) p = (p.0, to_sorted xs p.1)

  pub from_sorted : (xs : List X) → IsStrictlySortedBy R xs → Pairwise (λ x y. R x y ≡ Less) xs
  unfolding IsStrictlySortedBy
  from_sorted [] r = tt
  from_sorted (x ∷ xs) r = (r.0, from_sorted xs r.1)

module _ {X : Type 0} (same : X → X → Bool) where
  -- members are distinct where each differs from those after it, and not otherwise
  pub to_distinct : (xs : List X) → Pairwise (λ x y. same x y ≡ false) xs → IsDistinct same xs
  unfolding IsDistinct
  to_distinct [] p = tt
  to_distinct (x ∷ xs) p = (p.0, to_distinct xs p.1)

  pub from_distinct : (xs : List X) → IsDistinct same xs → Pairwise (λ x y. same x y ≡ false) xs
  unfolding IsDistinct
  from_distinct [] r = tt
  from_distinct (x ∷ xs) r = (r.0, from_distinct xs r.1)

  -- two lists of distinct members, where those of the one differ from those of the other
  pub distinct_joined : (xs ys : List X) → IsDistinct same xs → IsDistinct same ys
      → ((x : X) → Has xs x → AllByRecursion (λ y. same x y ≡ false) ys) → IsDistinct same (xs ++ ys)
  unfolding IsDistinct
  distinct_joined [] ys u v f = v
  distinct_joined (x ∷ xs) ys u v f =
      (both_all (λ y. same x y ≡ false) xs ys u.0 (f x (inl refl)), distinct_joined xs ys u.1 v (λ z h. f z (inr h)))
