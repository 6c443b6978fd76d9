-- What holds of all members of a list, and what a filter makes of it.
use Rattle.std.specs.Prelude.{◌≡◌, ℕ, ◌+◌, ◌<◌, Bool, true, false, ◌&&◌, List, [], ◌∷◌, ◌++◌, count_by, length, ◌≤◌, not, map, Some}
use Rattle.std.specs.List.{AllByRecursion, IsDistinct, filter, find, list_any}
use Rattle.std.proofs.Common.{ap, arith, cond, get_or, inl, inr, refl, subst, sym, ◌∙◌}
use Rattle.std.proofs.lemmas.Bool.{cases_Bool}
use Rattle.std.proofs.lemmas.List.Elements.{All-from_recursion}
use Rattle.std.proofs.lemmas.List.Sums.{sum_by-cons}
use Rattle.std.proofs.lemmas.Option.{none-some, same_Some}

module _ {X : Type 0} where
  pub all_weaker : (P Q : X → Type 0) → ((x : X) → P x → Q x) → (xs : List X) → AllByRecursion P xs → AllByRecursion Q xs
  all_weaker P Q f [] h = tt
  all_weaker P Q f (x ∷ xs) h = (f x h.0, all_weaker P Q f xs h.1)

  pub all_around : (P : X → Type 0) (xs : List X) (y : X) (zs : List X)
      → AllByRecursion P xs → P y → AllByRecursion P zs → AllByRecursion P (xs ++ y ∷ zs)
  all_around P [] y zs h k l = (k, l)
  all_around P (x ∷ xs) y zs h k l = (h.0, all_around P xs y zs h.1 k l)

  pub all_at : (P : X → Type 0) (xs : List X) (i : ℕ) (d : X) → AllByRecursion P xs → i < length xs → P (get_or xs i d)
  all_at P xs i d h lt = All-from_recursion P xs h i d lt

  pub all_filter : (P : X → Type 0) (p : X → Bool) (xs : List X) → AllByRecursion P xs → AllByRecursion P (filter p xs)
  all_filter P p [] h = tt
  all_filter P p (x ∷ xs) h =
      elim (p x) as (λ b. AllByRecursion P (cond b (x ∷ filter p xs) (filter p xs))) [
        | true ↦ (h.0, all_filter P p xs h.1)
        | false ↦ all_filter P p xs h.1
      ]

  -- what a filter leaves passes
  pub filter_passes : (p : X → Bool) (xs : List X) → AllByRecursion (λ x. p x ≡ true) (filter p xs)
  filter_passes p [] = tt
  filter_passes p (x ∷ xs) =
      elim (cases_Bool (p x)) [
        | inl hit ↦ subst left (sym hit) (hit, filter_passes p xs)
        | inr miss ↦ subst left (sym miss) (filter_passes p xs)
      ]
    where
      left : Bool → Type 0
      left b = AllByRecursion (λ y. p y ≡ true) (cond b (x ∷ filter p xs) (filter p xs))

  pub filter_all : (p : X → Bool) (xs : List X) → AllByRecursion (λ x. p x ≡ true) xs → filter p xs ≡ xs
  filter_all p [] h = refl
  filter_all p (x ∷ xs) h =
      ap (λ b. cond b (x ∷ filter p xs) (filter p xs)) h.0 ∙ ap (λ t. x ∷ t) (filter_all p xs h.1)

  pub filter_none : (p : X → Bool) (xs : List X) → AllByRecursion (λ x. p x ≡ false) xs → filter p xs ≡ []
  filter_none p [] h = refl
  filter_none p (x ∷ xs) h = ap (λ b. cond b (x ∷ filter p xs) (filter p xs)) h.0 ∙ filter_none p xs h.1

  pub distinct_filter : (E : X → X → Bool) (p : X → Bool) (xs : List X) → IsDistinct E xs → IsDistinct E (filter p xs)
  unfolding IsDistinct
  distinct_filter E p [] h = tt
  distinct_filter E p (x ∷ xs) h =
      elim (p x) as (λ b. IsDistinct E (cond b (x ∷ filter p xs) (filter p xs))) [
        | true ↦ (all_filter (λ y. E x y ≡ false) p xs h.0, distinct_filter E p xs h.1)
        | false ↦ distinct_filter E p xs h.1
      ]

  -- what passes a test passes it again
  pub filter_again : (p : X → Bool) (xs : List X) → filter p (filter p xs) ≡ filter p xs
  filter_again p [] = refl
  filter_again p (x ∷ xs) = elim (cases_Bool (p x)) [
    | inl e ↦ rw (e, e) (ap (λ ys. x ∷ ys) (filter_again p xs))
    | inr e ↦ rw e (filter_again p xs)
  ]

  -- how many that pass one test pass another
  pub count_filter : (q p : X → Bool) (xs : List X) → count_by q (filter p xs) ≡ count_by (λ x. p x && q x) xs
  count_filter q p [] = refl
  count_filter q p (x ∷ xs) = elim (cases_Bool (p x)) [
    | inl e ↦
        let passing : filter p (x ∷ xs) ≡ x ∷ filter p xs = rw e refl in
        let one : cond {A = ℕ} (p x && q x) 1 0 ≡ cond (q x) 1 0 = rw e refl in
        ap (count_by q) passing ∙ sum_by-cons (λ y. cond (q y) 1 0) x (filter p xs) ∙ ap (λ n. cond (q x) 1 0 + n) (count_filter q p xs)
        ∙ ap (λ n. n + count_by (λ y. p y && q y) xs) (sym one) ∙ sym (sum_by-cons (λ y. cond (p y && q y) 1 0) x xs)
    | inr e ↦
        let gone : filter p (x ∷ xs) ≡ filter p xs = rw e refl in
        let none : cond {A = ℕ} (p x && q x) 1 0 ≡ 0 = rw e refl in
        let added : count_by (λ y. p y && q y) xs ≡ cond (p x && q x) 1 0 + count_by (λ y. p y && q y) xs = omega (arith, none) in
        ap (count_by q) gone ∙ count_filter q p xs ∙ added ∙ sym (sum_by-cons (λ y. cond (p y && q y) 1 0) x xs)
  ]

module _ {X : Type 0} where
  -- tests that agree at each member leave the same
  pub filter_alike : (p q : X → Bool) (xs : List X) → AllByRecursion (λ x. p x ≡ q x) xs → filter p xs ≡ filter q xs
  filter_alike p q [] h = refl
  filter_alike p q (x ∷ xs) h =
      ap (λ b. cond b (x ∷ filter p xs) (filter p xs)) h.0 ∙ ap (λ ys. cond (q x) (x ∷ ys) ys) (filter_alike p q xs h.1)

  -- one filter after another
  pub filter_twice : (p q : X → Bool) (xs : List X) → filter q (filter p xs) ≡ filter (λ x. p x && q x) xs
  filter_twice p q [] = refl
  filter_twice p q (x ∷ xs) = elim (cases_Bool (p x)) [
    | inl t ↦ elim (cases_Bool (q x)) [
      | inl u ↦ rw (t, u) (ap (λ l. x ∷ l) (filter_twice p q xs))
      | inr u ↦ rw (t, u) (filter_twice p q xs)
    ]
    | inr t ↦ rw t (filter_twice p q xs)
  ]

  -- no more pass of a filtered list
  pub filter_fewer : (p q : X → Bool) (xs : List X) → length (filter p (filter q xs)) ≤ length (filter p xs)
  filter_fewer p q [] = omega arith
  filter_fewer p q (x ∷ xs) =
      let rest = filter_fewer p q xs in
      elim (cases_Bool (q x)) [
        | inl stays ↦ elim (cases_Bool (p x)) [ inl hit ↦ rw (stays, hit) (omega (arith, rest)) | inr miss ↦ rw (stays, miss) rest ]
        | inr goes ↦ elim (cases_Bool (p x)) [ inl hit ↦ rw (goes, hit) (omega (arith, rest)) | inr miss ↦ rw (goes, miss) rest ]
      ]

  -- where none passes, none is dropped
  pub none_dropped : (p : X → Bool) (xs : List X) → list_any p xs ≡ false → xs ≡ filter (λ y. not (p y)) xs
  none_dropped p [] h = refl
  none_dropped p (x ∷ xs) h = elim (cases_Bool (p x)) [
    | inl t ↦ let bad : true ≡ false = rw t at h in cc
    | inr t ↦ rw t (ap (λ l. x ∷ l) (none_dropped p xs (rw t at h)))
  ]

  -- what holds of each member holds of the first that passes
  pub found_all : (P : X → Type 0) (p : X → Bool) (xs : List X) → AllByRecursion P xs → (x : X) → find p xs ≡ Some x → P x
  found_all P p [] h x e = absurd (none-some x e)
  found_all P p (y ∷ ys) h x e = elim (cases_Bool (p y)) [
    | inl t ↦ subst P (same_Some y x (rw t at e)) h.0
    | inr t ↦ found_all P p ys h.1 x (rw t at e)
  ]

pub map_filter : {X Y : Type 0} (f : X → Y) (p : Y → Bool) (xs : List X) → map f (filter (λ x. p (f x)) xs) ≡ filter p (map f xs)
map_filter f p [] = refl
map_filter f p (x ∷ xs) = elim (cases_Bool (p (f x))) [
  | inl t ↦ rw t (ap (λ ys. f x ∷ ys) (map_filter f p xs))
  | inr t ↦ rw t (map_filter f p xs)
]

pub all_pass : {X : Type 0} (xs : List X) → filter (λ x. true) xs ≡ xs
all_pass [] = refl
all_pass (x ∷ xs) = ap (λ l. x ∷ l) (all_pass xs)

pub filter_shorter : {X : Type 0} (p : X → Bool) (xs : List X) → length (filter p xs) ≤ length xs
filter_shorter p [] = omega arith
filter_shorter p (x ∷ xs) = let rest = filter_shorter p xs in elim (cases_Bool (p x))
    [ inl hit ↦ rw hit (omega (arith, rest)) | inr miss ↦ rw miss (omega (arith, rest)) ]
