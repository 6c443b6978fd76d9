-- What filters make of a list: tests that agree, one after another, both, neither, and none.
use Rattle.std.proofs.Common.{◌≡◌, ◌∙◌, refl, sym, ap, ◌≤◌, Bool, true, false, cond, not, ◌||◌, List, [], ◌∷◌, arith, inl, inr, length}
use Rattle.std.proofs.lemmas.Bool.{cases_Bool}
use Rattle.std.specs.List.{filter}
use Rattle.ifmap_lemmas.specs.Filters.{filter_alike, filter_none}
use Rattle.ifmap_lemmas.specs.Having.{Has, has_all}
use Rattle.ifmap_lemmas.specs.Members.{all_any}

-- tests that agree at each member leave the same
pub filter_agrees : {X : Type 0} (p q : X → Bool) (xs : List X) → ((x : X) → Has xs x → p x ≡ q x) → filter p xs ≡ filter q xs
filter_agrees p q xs h = filter_alike p q xs (has_all (λ x. p x ≡ q x) xs h)

-- a member that is kept or not is filtered
filter_cond : {X : Type 0} (p : X → Bool) (b : Bool) (x : X) (ys : List X)
    → filter p (cond b (x ∷ ys) ys) ≡ cond b (cond (p x) (x ∷ filter p ys) (filter p ys)) (filter p ys)
filter_cond p true x ys = refl
filter_cond p false x ys = refl

both_turned : {X : Type 0} (a b : Bool) (x : X) (xs ys : List X) → xs ≡ ys
    → cond b (cond a (x ∷ xs) xs) xs ≡ cond a (cond b (x ∷ ys) ys) ys
both_turned true true x xs ys e = ap (λ l. x ∷ l) e
both_turned true false x xs ys e = e
both_turned false true x xs ys e = e
both_turned false false x xs ys e = e

-- two filters change places
pub filter_turned : {X : Type 0} (p q : X → Bool) (xs : List X) → filter p (filter q xs) ≡ filter q (filter p xs)
filter_turned p q [] = refl
filter_turned p q (x ∷ xs) =
    filter_cond p (q x) x (filter q xs)
    ∙ both_turned (p x) (q x) x (filter p (filter q xs)) (filter q (filter p xs)) (filter_turned p q xs)
    ∙ sym (filter_cond q (p x) x (filter p xs))

kept_by_neither : {X : Type 0} (a b : Bool) (x : X) (xs ys : List X) → xs ≡ ys
    → cond (not (a || b)) (x ∷ xs) xs ≡ cond (not a) (cond (not b) (x ∷ ys) ys) ys
kept_by_neither true b x xs ys e = e
kept_by_neither false true x xs ys e = e
kept_by_neither false false x xs ys e = ap (λ l. x ∷ l) e

-- what neither test passes
pub filter_neither : {X : Type 0} (p q : X → Bool) (xs : List X)
    → filter (λ x. not (p x || q x)) xs ≡ filter (λ x. not (q x)) (filter (λ x. not (p x)) xs)
filter_neither p q [] = refl
filter_neither p q (x ∷ xs) =
    kept_by_neither (p x) (q x) x (filter (λ y. not (p y || q y)) xs) (filter (λ y. not (q y)) (filter (λ y. not (p y)) xs))
    (filter_neither p q xs)
    ∙ sym (filter_cond (λ y. not (q y)) (not (p x)) x (filter (λ y. not (p y)) xs))

-- a test that nothing passes
pub none_pass : {X : Type 0} (xs : List X) → filter (λ x. false) xs ≡ []
none_pass xs = filter_none (λ x. false) xs (all_any (λ x. false ≡ false) xs (λ x. refl))

-- no more pass a stricter test
pub filter_le : {X : Type 0} (p q : X → Bool) (xs : List X) → ((x : X) → p x ≡ true → q x ≡ true)
    → length (filter p xs) ≤ length (filter q xs)
filter_le p q [] h = omega arith
filter_le p q (x ∷ xs) h = by (p x) (q x) refl refl (filter_le p q xs h)
  where
    by : (a b : Bool) → p x ≡ a → q x ≡ b → length (filter p xs) ≤ length (filter q xs)
        → length (cond a (x ∷ filter p xs) (filter p xs)) ≤ length (cond b (x ∷ filter q xs) (filter q xs))
    by true true e f l = omega (arith, l)
    by true false e f l = let bad : false ≡ true = sym f ∙ h x e in cc
    by false true e f l = omega (arith, l)
    by false false e f l = l

-- what a test drops, a stricter one drops anyway
pub filter_through : {X : Type 0} (p q : X → Bool) (xs : List X) → ((x : X) → Has xs x → p x ≡ false → q x ≡ false)
    → filter q (filter p xs) ≡ filter q xs
filter_through p q [] f = refl
filter_through p q (x ∷ xs) f = elim (cases_Bool (p x)) [
  | inl t ↦ elim (cases_Bool (q x)) [
    | inl u ↦ rw (t, u) (ap (λ l. x ∷ l) (filter_through p q xs (λ y h. f y (inr h))))
    | inr u ↦ rw (t, u) (filter_through p q xs (λ y h. f y (inr h)))
  ]
  | inr t ↦ rw (t, f x (inl refl) t) (filter_through p q xs (λ y h. f y (inr h)))
]

-- where no member passes, none is left
pub none_left : {X : Type 0} (q : X → Bool) (xs : List X) → ((x : X) → Has xs x → q x ≡ false) → filter q xs ≡ []
none_left q xs f = filter_none q xs (has_all (λ x. q x ≡ false) xs f)
