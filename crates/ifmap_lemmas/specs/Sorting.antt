-- Lists put in order, where members that tie are one.
use Rattle.std.proofs.Common.{◌≡◌, ℕ, ◌+◌, ◌≤◌, ◌<◌, zero, suc, List, [], ◌∷◌, ◌++◌, length, Bool, true, false, cond, refl, ap, sym, ◌∙◌, arith, inl, inr, get_or, length-append}
use Rattle.std.proofs.lemmas.Bool.{cases_Bool}
use Rattle.std.proofs.lemmas.List.Sums.{sum_by-cons, sum_by-append}
use Rattle.std.proofs.lemmas.List.Sorted.{length_permutation, sum_by-IsPermutation, IsPermutation-refl, IsPermutation-trans, IsPermutation-cons, IsPermutation-middle}
use Rattle.std.specs.Prelude.{count_by}
use Rattle.std.specs.List.Sorted.{IsPermutation}
use Rattle.std.specs.Ordering.{is_gt}
use Rattle.std.specs.declared.cmp.Ordering.{Ordering}

-- a list in order with one more member, before the first member that is not smaller
abbrev pub insert : {X : Type 0} → (X → X → Ordering) → X → List X → List X
insert cmp x [] = x ∷ []
insert cmp x (y ∷ ys) = cond (is_gt (cmp x y)) (y ∷ insert cmp x ys) (x ∷ (y ∷ ys))

-- the members of a list in rising order
abbrev pub in_order : {X : Type 0} → (X → X → Ordering) → List X → List X
in_order cmp [] = []
in_order cmp (x ∷ xs) = insert cmp x (in_order cmp xs)

-- a test that says which of two members is the greater
pub record Ranks {X : Type 0} (gt : X → X → Bool) : Type 0 where
  pub tied : (x y : X) → gt x y ≡ false → gt y x ≡ false → x ≡ y
  pub chain : (x y z : X) → gt x y ≡ false → gt y z ≡ false → gt x z ≡ false
  pub one_way : (x y : X) → gt x y ≡ true → gt y x ≡ false

module _ {X : Type 0} (cmp : X → X → Ordering) (r : Ranks (λ x y. is_gt (cmp x y))) where
  abbrev gt : X → X → Bool
  gt x y = is_gt (cmp x y)

  two : (x y : X) (zs : List X) → cond (gt x y) (y ∷ (x ∷ zs)) (x ∷ (y ∷ zs)) ≡ cond (gt y x) (x ∷ (y ∷ zs)) (y ∷ (x ∷ zs))
  two x y zs = elim (cases_Bool (gt x y)) [
    | inl e ↦ let f = r.one_way x y e in rw (e, f) refl
    | inr e ↦ elim (cases_Bool (gt y x)) [
      | inl f ↦ rw (e, f) refl
      | inr f ↦ rw (e, f, r.tied x y e f) refl
    ]
  ]

  before : (x y z : X) → gt x z ≡ false → gt y z ≡ true → gt y x ≡ true
  before x y z e f = elim (cases_Bool (gt y x)) [ inl g ↦ g | inr g ↦ let h : gt y z ≡ false = r.chain y x z g e in cc ]

  -- which of two is placed first does not matter
  placed_twice : (x y : X) (zs : List X) → insert cmp x (insert cmp y zs) ≡ insert cmp y (insert cmp x zs)
  placed_twice x y [] = two x y []
  placed_twice x y (z ∷ zs) = elim (cases_Bool (gt x z)) [
    | inl e ↦ elim (cases_Bool (gt y z)) [
      | inl f ↦ rw (e, f, e) (ap (λ l. z ∷ l) (placed_twice x y zs))
      | inr f ↦ let g = before y x z f e in rw (e, f, g, e) refl
    ]
    | inr e ↦ elim (cases_Bool (gt y z)) [
      | inl f ↦ let g = before x y z e f in rw (e, f, e, g) refl
      | inr f ↦ rw (e, f, e) (two x y (z ∷ zs))
    ]
  ]

  in_order_middle : (x : X) (xs ys : List X) → in_order cmp (xs ++ x ∷ ys) ≡ insert cmp x (in_order cmp (xs ++ ys))
  in_order_middle x [] ys = refl
  in_order_middle x (y ∷ xs) ys = ap (insert cmp y) (in_order_middle x xs ys) ∙ placed_twice y x (in_order cmp (xs ++ ys))

  pub length-placed : (x : X) (ys : List X) → length (insert cmp x ys) ≡ suc (length ys)
  length-placed x [] = refl
  length-placed x (y ∷ ys) = elim (cases_Bool (gt x y)) [ inl e ↦ rw e (ap suc (length-placed x ys)) | inr e ↦ rw e refl ]

  pub length-in_order : (xs : List X) → length (in_order cmp xs) ≡ length xs
  length-in_order [] = refl
  length-in_order (x ∷ xs) = length-placed x (in_order cmp xs) ∙ ap suc (length-in_order xs)

  -- a rising list is in order
  in_order_rising : (xs : List X) → ((k : ℕ) (d : X) → suc k < length xs → gt (get_or xs k d) (get_or xs (suc k) d) ≡ false)
      → in_order cmp xs ≡ xs
  in_order_rising [] up = refl
  in_order_rising (x ∷ []) up = refl
  in_order_rising (x ∷ (y ∷ ys)) up =
      let h : in_order cmp (y ∷ ys) ≡ y ∷ ys = in_order_rising (y ∷ ys) (λ k d l. up (suc k) d (omega arith)) in
      let first : gt x y ≡ false = up 0 x (omega arith) in
      ap (insert cmp x) h ∙ (rw first refl)

  -- x stands before these, and a list that rises
  abbrev Before : X → List X → Type 0
  Before x [] = Unit {0}
  Before x (y ∷ ys) = gt x y ≡ false

  abbrev Rises : List X → Type 0
  Rises [] = Unit {0}
  Rises (x ∷ xs) = Before x xs × Rises xs

  before_placed : (z x : X) (ys : List X) → Before z ys → gt z x ≡ false → Before z (insert cmp x ys)
  before_placed z x [] b e = e
  before_placed z x (y ∷ ys) b e = elim (cases_Bool (gt x y)) [ inl f ↦ rw f b | inr f ↦ rw f e ]

  rises_placed : (x : X) (ys : List X) → Rises ys → Rises (insert cmp x ys)
  rises_placed x [] up = (tt, tt)
  rises_placed x (y ∷ ys) up = elim (cases_Bool (gt x y)) [
    | inl f ↦ rw f (before_placed y x ys up.0 (r.one_way x y f), rises_placed x ys up.1)
    | inr f ↦ rw f (f, up)
  ]

  rises_in_order : (xs : List X) → Rises (in_order cmp xs)
  rises_in_order [] = tt
  rises_in_order (x ∷ xs) = rises_placed x (in_order cmp xs) (rises_in_order xs)

  at_places : (xs : List X) → Rises xs → (k : ℕ) (d : X) → suc k < length xs → gt (get_or xs k d) (get_or xs (suc k) d) ≡ false
  at_places [] up k d l = absurd (omega (arith, l))
  at_places (x ∷ []) up k d l = absurd (omega (arith, l))
  at_places (x ∷ (y ∷ ys)) up zero d l = up.0
  at_places (x ∷ (y ∷ ys)) up (suc k) d l = at_places (y ∷ ys) up.1 k d (omega arith)

  pub in_order-rises : (xs : List X) (k : ℕ) (d : X) → suc k < length (in_order cmp xs)
      → gt (get_or (in_order cmp xs) k d) (get_or (in_order cmp xs) (suc k) d) ≡ false
  in_order-rises xs = at_places (in_order cmp xs) (rises_in_order xs)

  IsPermutation-placed : (x : X) (ys : List X) → IsPermutation (x ∷ ys) (insert cmp x ys)
  IsPermutation-placed x [] = IsPermutation-refl (x ∷ [])
  IsPermutation-placed x (y ∷ ys) = elim (cases_Bool (gt x y)) [
    | inl f ↦ rw f (IsPermutation-trans (x ∷ (y ∷ ys)) (y ∷ (x ∷ ys)) (y ∷ insert cmp x ys) (IsPermutation-middle (x ∷ []) y ys)
        (IsPermutation-cons y (x ∷ ys) (insert cmp x ys) (IsPermutation-placed x ys)))
    | inr f ↦ rw f (IsPermutation-refl (x ∷ (y ∷ ys)))
  ]

  pub IsPermutation-in_order : (xs : List X) → IsPermutation xs (in_order cmp xs)
  IsPermutation-in_order [] = IsPermutation-refl []
  IsPermutation-in_order (x ∷ xs) =
      IsPermutation-trans (x ∷ xs) (x ∷ in_order cmp xs) (insert cmp x (in_order cmp xs))
      (IsPermutation-cons x xs (in_order cmp xs) (IsPermutation-in_order xs)) (IsPermutation-placed x (in_order cmp xs))

  module _ (eq : X → X → Bool) (itself : (x : X) → eq x x ≡ true) (tells : (x y : X) → eq x y ≡ true → x ≡ y) where
    abbrev count : X → List X → ℕ
    count z xs = count_by (λ x. eq x z) xs

    abbrev one : X → X → ℕ
    one x z = cond (eq x z) 1 0

    count-cons : (z x : X) (xs : List X) → count z (x ∷ xs) ≡ one x z + count z xs
    count-cons z x xs = sum_by-cons (λ y. cond (eq y z) 1 0) x xs

    count-middle : (z x : X) (xs ys : List X) → count z (xs ++ x ∷ ys) ≡ one x z + count z (xs ++ ys)
    count-middle z x xs ys =
        let f : X → ℕ = λ y. cond (eq y z) 1 0 in
        omega (arith, sum_by-append f xs (x ∷ ys), sum_by-append f xs ys, sum_by-cons f x ys)

    count-placed : (z x : X) (ys : List X) → count z (insert cmp x ys) ≡ one x z + count z ys
    count-placed z x [] = count-cons z x []
    count-placed z x (y ∷ ys) = elim (cases_Bool (gt x y)) [
      | inl e ↦ rw e (omega (arith, count-cons z y (insert cmp x ys), count-placed z x ys, count-cons z y ys))
      | inr e ↦ rw e (count-cons z x (y ∷ ys))
    ]

    pub count-in_order : (z : X) (xs : List X) → count z (in_order cmp xs) ≡ count z xs
    count-in_order z [] = refl
    count-in_order z (x ∷ xs) = omega (arith, count-placed z x (in_order cmp xs), count-in_order z xs, count-cons z x xs)

    parted : (z : X) (ys : List X) → 0 < count z ys → (front : List X) × (back : List X) × (ys ≡ front ++ z ∷ back)
    parted z [] some = absurd (omega (arith, some))
    parted z (y ∷ ys) some = elim (cases_Bool (eq y z)) [
      | inl e ↦ ([], ys, ap (λ w. w ∷ ys) (tells y z e))
      | inr e ↦
          let none : one y z ≡ 0 = rw e refl in
          let p = parted z ys (omega (arith, count-cons z y ys)) in
          (y ∷ p.0, p.1, ap (λ l. y ∷ l) p.2)
    ]

    -- lists of one length, the first of which has nothing more often than the second, have the same order
    pub in_order_same : (xs ys : List X) → length xs ≡ length ys → ((z : X) → count z xs ≤ count z ys) → in_order cmp xs ≡ in_order cmp ys
    in_order_same [] [] long fewer = refl
    in_order_same [] (y ∷ ys) long fewer = absurd (omega (arith, long))
    in_order_same (x ∷ xs) ys long fewer =
        let mine : one x x ≡ 1 = rw (itself x) refl in
        let p = parted x ys (omega (arith, fewer x, count-cons x x xs)) in
        let there : length ys ≡ length (p.0 ++ x ∷ p.1) = ap length p.2 in
        let h : in_order cmp xs ≡ in_order cmp (p.0 ++ p.1) =
        in_order_same xs (p.0 ++ p.1) (omega (arith, length-append p.0 (x ∷ p.1), length-append p.0 p.1))
        (λ z. omega (arith, fewer z, count-cons z x xs, ap (count z) p.2, count-middle z x p.0 p.1)) in
        ap (insert cmp x) h ∙ sym (in_order_middle x p.0 p.1) ∙ ap (in_order cmp) (sym p.2)

    pub in_order-permutation : (xs ys : List X) → IsPermutation xs ys → in_order cmp xs ≡ in_order cmp ys
    in_order-permutation xs ys p =
        in_order_same xs ys (sym (length_permutation xs ys p)) (λ z. omega (arith, sum_by-IsPermutation (λ y. cond (eq y z) 1 0) xs ys p))

    -- a permutation that rises is the list in order
    pub in_order_is : (xs ys : List X) → IsPermutation xs ys → ((k : ℕ) (d : X) → suc k < length ys
        → gt (get_or ys k d) (get_or ys (suc k) d) ≡ false) → ys ≡ in_order cmp xs
    in_order_is xs ys p up =
        sym (in_order_same xs ys (sym (length_permutation xs ys p))
        (λ z. omega (arith, sum_by-IsPermutation (λ y. cond (eq y z) 1 0) xs ys p)) ∙ in_order_rising ys up)
