-- Distinct numbers in lists, and sums over them.
use Rattle.std.proofs.Common.{◌≡◌, ◌≢◌, ℕ, zero, suc, ◌<◌, ◌≤◌, false, List, [], ◌∷◌, ◌++◌, Contains, All, get_or, take, drop, length, sum_by, nat_eq, ◌⊎◌, inl, inr, refl, sym, ap, subst, ◌∙◌, arith, true≢false}
use Rattle.std.proofs.lemmas.Bool.{cases_eq, eq-eqb, ne_eqb}
use Rattle.std.proofs.lemmas.List.{set_split, set-get_or}
use Rattle.std.proofs.lemmas.List.Elements.{All-from_recursion, recursion_from_All, All-contains, All-weaker, All-cons, All-push, Contains-append_cases, Contains-append_left, Contains-append_right, Contains-get_or}
use Rattle.std.proofs.lemmas.List.Sums.{sum_by-cons, sum_by-append}
use Rattle.std.specs.List.{IsDistinct}

-- the one member of a list of one
pub contains_one : {X : Type 0} (x y : X) → Contains (x ∷ []) y → x ≡ y
contains_one x y h = by h.0 h.1 h.2
  where
    by : (k : ℕ) → k < 1 → get_or (x ∷ []) k y ≡ y → x ≡ y
    by zero lt e = e
    by (suc k) lt e = absurd (omega (arith, lt))

-- no member is in an empty list
pub no_member : {X : Type 0} (xs : List X) (x : X) → xs ≡ [] → Contains xs x → ⊥
no_member xs x e h = omega (arith, h.1, ap length e)

-- what is in the rest is in the list
pub left_of_rest : {X : Type 0} (old rest : List X) (x : X) → old ≡ x ∷ rest → (y : X) → Contains rest y
    → Contains old y
left_of_rest old rest x e y h = subst (λ (l : List _). Contains l y) (sym e) (Contains-append_right (x ∷ []) rest y h)

-- what holds of each member holds of those that are left
pub all_left : {X : Type 0} (P : X → Type 0) (old new : List X) → ((x : X) → Contains new x → Contains old x) → All P old → All P new
all_left P old new left all = λ k d h. All-contains P old (get_or new k d) all (left (get_or new k d) (Contains-get_or new k d h))

-- a distinct list with one number more
pub distinct_cons : (x : ℕ) (xs : List ℕ) → All (λ y. x ≢ y) xs → IsDistinct nat_eq xs → IsDistinct nat_eq (x ∷ xs)
unfolding IsDistinct
distinct_cons x xs apart d = (
  recursion_from_All (λ (y : ℕ). nat_eq x y ≡ false) xs (All-weaker (λ (y : ℕ). x ≢ y) (λ (y : ℕ). nat_eq x y ≡
      false) (λ y ne. ne_eqb x y ne) xs apart),
  d,
)

-- a distinct list with one number more at its end
pub distinct_push : (xs : List ℕ) (x : ℕ) → ((y : ℕ) → Contains xs y → y ≢ x) → IsDistinct nat_eq xs
    → IsDistinct nat_eq (xs ++ x ∷ [])
unfolding IsDistinct
distinct_push [] x apart d = (tt, tt)
distinct_push (y ∷ ys) x apart d = (
  recursion_from_All (λ (z : ℕ). nat_eq y z ≡ false) (ys ++ x ∷ [])
      (All-push (λ (z : ℕ). nat_eq y z ≡ false) ys x (All-from_recursion (λ (z : ℕ). nat_eq y z ≡ false) ys d.0)
      (ne_eqb y x (apart y (0, omega arith, refl)))),
  distinct_push ys x (λ z h. apart z (Contains-append_right (y ∷ []) ys z h)) d.1,
)

-- no number of a distinct list is the first of it again
pub distinct_head : (x : ℕ) (xs : List ℕ) → IsDistinct nat_eq (x ∷ xs) → (y : ℕ) → Contains xs y → x ≢ y
unfolding IsDistinct
distinct_head x xs d y h at =
    true≢false (sym (eq-eqb x y at) ∙ All-contains (λ (z : ℕ). nat_eq x z ≡ false) xs y (All-from_recursion (λ (z :
    ℕ). nat_eq x z ≡ false) xs d.0) h)

pub distinct_tail : (x : ℕ) (xs : List ℕ) → IsDistinct nat_eq (x ∷ xs) → IsDistinct nat_eq xs
unfolding IsDistinct
distinct_tail x xs d = d.1

-- a member parts a list in two
pub parts_in_two : (ys : List ℕ) (x : ℕ) → Contains ys x → (front : List ℕ) × (back : List ℕ) × (ys ≡ front ++ x ∷ back)
parts_in_two ys x h = (
  take h.0 ys,
  drop (suc h.0) ys,
  sym (set-get_or ys h.0 x) ∙ set_split ys h.0 (get_or ys h.0 x) h.1 ∙ ap (λ (y :
      ℕ). take h.0 ys ++ y ∷ drop (suc h.0) ys) h.2,
)

-- distinct numbers that are all in a list do not sum to more than it
pub sum_within : (f : ℕ → ℕ) (xs ys : List ℕ) → IsDistinct nat_eq xs → ((x : ℕ) → Contains xs x → Contains ys x)
    → sum_by f xs ≤ sum_by f ys
sum_within f [] ys d within = omega arith
sum_within f (x ∷ xs) ys d within =
    let p = parts_in_two ys x (within x (0, omega arith, refl)) in
    let rest = sum_within f xs (p.0 ++ p.1) (distinct_tail x xs d) (λ y h.
    let apart : x ≢ y = distinct_head x xs d y h in
    let there = subst (λ (l : List ℕ). Contains l y) p.2 (within y (Contains-append_right (x ∷ []) xs y h)) in
    elim (Contains-append_cases p.0 (x ∷ p.1) y there) [
      | inl front ↦ Contains-append_left p.0 p.1 y front
      | inr later ↦ elim (Contains-append_cases (x ∷ []) p.1 y later) [
        | inl one ↦ absurd (apart (contains_one x y one))
        | inr back ↦ Contains-append_right p.0 p.1 y back
      ]
    ]) in
    omega (
      arith,
      rest,
      sum_by-cons f x xs,
      ap (sum_by f) p.2,
      sum_by-append f p.0 (x ∷ p.1),
      sum_by-cons f x p.1,
      sum_by-append f p.0 p.1,
    )

-- whether a number is in a list can be told
pub member_or_not : (xs : List ℕ) (x : ℕ) → Contains xs x ⊎ (Contains xs x → ⊥)
member_or_not [] x = inr (λ h. omega (arith, h.1))
member_or_not (y ∷ ys) x = elim (cases_eq y x) [
  | inl at ↦ inl (0, omega arith, at)
  | inr apart ↦ elim (member_or_not ys x) [
    | inl h ↦ inl (Contains-append_right (y ∷ []) ys x h)
    | inr out ↦ inr (λ h. elim (Contains-append_cases (y ∷ []) ys x h) [
      | inl one ↦ apart (contains_one y x one)
      | inr
          later ↦ out later
    ])
  ]
]

-- two lists of distinct numbers are both in a third
pub joined_distinct : (Among : ℕ → Type 0) (xs ys : List ℕ) → IsDistinct nat_eq xs → All Among xs → All Among ys
    → (zs : List ℕ) × IsDistinct nat_eq zs × All Among zs × ((x : ℕ) → Contains xs x → Contains zs x) × ((y : ℕ)
    → Contains ys y → Contains zs y)
joined_distinct Among xs [] d a b = (xs, d, a, λ x h. h, λ y h. absurd (omega (arith, h.1)))
joined_distinct Among xs (y ∷ ys) d a b =
    let rest = joined_distinct Among xs ys d a (λ k e lt. b (suc k) e (omega (arith, lt))) in
    elim (member_or_not rest.0 y) [
      | inl there ↦ (
        rest.0,
        rest.1,
        rest.2,
        rest.3,
        λ z h. elim (Contains-append_cases (y ∷ []) ys z h) [
          | inl one ↦ subst (λ (x : ℕ). Contains rest.0 x) (contains_one y z one) there
          | inr later ↦ rest.4 z later
        ],
      )
      | inr out ↦ (
        y ∷ rest.0,
        distinct_cons y rest.0 (λ k e lt at. out (subst (λ (x : ℕ). Contains rest.0 x) (sym at) (Contains-get_or
            rest.0 k e lt))) rest.1,
        All-cons Among y rest.0 (b 0 y (omega arith)) rest.2,
        λ x h. Contains-append_right (y ∷ []) rest.0 x (rest.3 x h),
        λ z h. elim (Contains-append_cases (y ∷ []) ys z h) [
          | inl one ↦ (0, omega arith, contains_one y z one)
          | inr later ↦ Contains-append_right (y ∷ []) rest.0 z (rest.4 z later)
        ],
      )
    ]

-- a weight that is no less has a sum that is no less
pub sum_heavier : (f g : ℕ → ℕ) → ((v : ℕ) → f v ≤ g v) → (xs : List ℕ) → sum_by f xs ≤ sum_by g xs
sum_heavier f g le [] = omega arith
sum_heavier f g le (x ∷ xs) = omega (arith, le x, sum_heavier f g le xs, sum_by-cons f x xs, sum_by-cons g x xs)
