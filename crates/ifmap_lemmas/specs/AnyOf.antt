-- Whether some member of a list passes a test: of what a map, a filter or another test makes of it, and by places. Last, all members.
use Rattle.std.proofs.Common.{◌≡◌, ℕ, zero, suc, Bool, true, false, not, ◌||◌, ◌&&◌, Some, Result, Ok, Err, IfOk, IsErr, List, [], ◌∷◌, map, slice_get, inl, inr, refl, ap, ◌∙◌, sym}
use Rattle.std.proofs.lemmas.Bool.{both_ways, cases_Bool, false_from_ne_true, or_left, or_right}
use Rattle.std.proofs.lemmas.Option.{none-some, same_Some}
use Rattle.std.specs.List.{AllByRecursion, filter, list_any}
use Rattle.std.specs.declared.cmp.Ordering.{Ordering}
use Rattle.std.specs.declared.cmp.Ordering.TheVariants.{Less}
use Rattle.ifmap_lemmas.specs.Having.{Has, all_has, has_all}
use Rattle.ifmap_lemmas.specs.Members.{all_any}

pub any_of_map : {X Y : Type 0} (f : X → Y) (p : Y → Bool) (xs : List X) → list_any p (map f xs) ≡ list_any (λ x. p (f x)) xs
any_of_map f p [] = refl
any_of_map f p (x ∷ xs) = ap (λ b. p (f x) || b) (any_of_map f p xs)

-- tests that agree at each member
pub any_alike : {X : Type 0} (p q : X → Bool) (xs : List X) → AllByRecursion (λ x. p x ≡ q x) xs → list_any p xs ≡ list_any q xs
any_alike p q [] h = refl
any_alike p q (x ∷ xs) h = ap (λ b. b || list_any p xs) h.0 ∙ ap (λ b. q x || b) (any_alike p q xs h.1)

pub any_same : {X : Type 0} (p q : X → Bool) → ((x : X) → p x ≡ q x) → (xs : List X) → list_any p xs ≡ list_any q xs
any_same p q same xs = any_alike p q xs (all_any (λ x. p x ≡ q x) xs same)

-- where a second test has one answer for all that pass the first, and some do
pub any_of_both : {X : Type 0} (p q : X → Bool) (b : Bool) (xs : List X) → AllByRecursion (λ x. p x ≡ true → q x ≡ b) xs
    → list_any p xs ≡ true → list_any (λ x. p x && q x) xs ≡ b
any_of_both {X} p q b [] h some = let wrong : false ≡ true = some in cc
any_of_both {X} p q b (x ∷ xs) h some = elim (cases_Bool (p x)) [
  | inl t ↦ let is : q x ≡ b = h.0 t in rw (t, is) (by b xs h.1)
  | inr t ↦ rw t (any_of_both p q b xs h.1 (rw t at some))
]
  where
    by : (c : Bool) (ys : List X) → AllByRecursion (λ x. p x ≡ true → q x ≡ c) ys → c || list_any (λ x. p x && q x) ys ≡ c
    by true ys h = refl
    by false ys h = none ys h
      where
        none : (zs : List X) → AllByRecursion (λ x. p x ≡ true → q x ≡ false) zs → list_any (λ x. p x && q x) zs ≡ false
        none [] h = refl
        none (z ∷ zs) h = elim (cases_Bool (p z)) [
          | inl t ↦ let is : q z ≡ false = h.0 t in rw (t, is) (none zs h.1)
          | inr t ↦ rw t (none zs h.1)
        ]

-- a filter leaves all that pass a test that passes it too
pub any_within : {X : Type 0} (p q : X → Bool) → ((x : X) → p x ≡ true → q x ≡ true) → (xs : List X)
    → list_any p (filter q xs) ≡ list_any p xs
any_within p q f [] = refl
any_within p q f (x ∷ xs) =
    elim (cases_Bool (q x)) [
      | inl stays ↦ rw stays (ap (λ b. p x || b) (any_within p q f xs))
      | inr goes ↦
          let miss : p x ≡ false = false_from_ne_true (p x) (λ hit. both_ways (q x) goes (f x hit)) in
          rw (goes, miss) (any_within p q f xs)
    ]

-- and without those that pass none does
pub none_of_others : {X : Type 0} (p : X → Bool) (xs : List X) → list_any p (filter (λ y. not (p y)) xs) ≡ false
none_of_others p [] = refl
none_of_others p (x ∷ xs) = elim (cases_Bool (p x)) [
  | inl hit ↦ rw hit (none_of_others p xs)
  | inr miss ↦ rw (miss, miss) (none_of_others p xs)
]

-- where none passes, none of the rest does
pub none_after : {X : Type 0} (p : X → Bool) (x : X) (xs : List X) → list_any p (x ∷ xs) ≡ false → list_any p xs ≡ false
none_after p x xs e = elim (cases_Bool (p x)) [
  | inl hit ↦ let q : true ≡ false = sym (rw hit refl) ∙ e in cc
  | inr miss ↦ rw miss at e
]

-- one at a place passes, and is found at most where some pass
pub any_there : {X : Type 0} (p : X → Bool) (xs : List X) (i : ℕ) (x : X) → slice_get xs i ≡ Some x → p x ≡ true → list_any p xs ≡ true
any_there p [] i x e t = absurd (none-some x e)
any_there p (y ∷ ys) zero x e t = or_left (p y) (list_any p ys) (ap p (same_Some y x e) ∙ t)
any_there p (y ∷ ys) (suc i) x e t = or_right (p y) (list_any p ys) (any_there p ys i x e t)

pub not_found : {X : Type 0} (p : X → Bool) (xs : List X) (r : Result ℕ ℕ)
    → IfOk r (λ at. (x : X) × (slice_get xs at ≡ Some x) × (p x ≡ true)) → list_any p xs ≡ false → IsErr r
not_found p xs (Ok i) found none = let bad : true ≡ false = sym (any_there p xs i found.0 found.1 found.2) ∙ none in cc
not_found p xs (Err i) found none = refl

-- of members in a strict order no two of which pass, where one passes, none after it does, and none before it
module _ {X K : Type 0} (p : X → Bool) (order : K → K → Ordering) (key : X → K)
    (apart : (x y : X) → p x ≡ true → p y ≡ true → order (key x) (key y) ≡ Less → ⊥) where
  pub none_above : (x : X) (xs : List X) → p x ≡ true → AllByRecursion (λ k. order (key x) k ≡ Less) (map key xs)
      → list_any p xs ≡ false
  none_above x [] e above = refl
  none_above x (y ∷ ys) e above = elim (cases_Bool (p y)) [
    | inl hit ↦ absurd (apart x y e hit above.0)
    | inr miss ↦ rw miss (none_above x ys e above.1)
  ]

  pub fails_below : (z : X) (xs : List X) (at : ℕ) (x : X) → AllByRecursion (λ k. order (key z) k ≡ Less) (map key xs)
      → slice_get xs at ≡ Some x → p x ≡ true → p z ≡ false
  fails_below z [] at x above is e = absurd (none-some x is)
  fails_below z (y ∷ ys) zero x above is e = elim (cases_Bool (p z)) [
    | inl hit ↦ absurd (apart z y hit (ap p (same_Some y x is) ∙ e) above.0)
    | inr miss ↦ miss
  ]
  fails_below z (y ∷ ys) (suc at) x above is e = fails_below z ys at x above.1 is e

-- what holds of each member, by what it is a member of
pub all_members : {X : Type 0} (P Q : X → Type 0) (xs : List X) → ((x : X) → Has xs x → P x → Q x) → AllByRecursion P xs
    → AllByRecursion Q xs
all_members P Q xs f all = has_all Q xs (λ x there. f x there (all_has P xs all x there))
