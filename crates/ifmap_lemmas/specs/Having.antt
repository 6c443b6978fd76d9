-- What a list has, by recursion: as filters, maps with gaps and joined lists meet it.
use Rattle.std.proofs.Common.{◌≡◌, ◌⊎◌, zero, suc, Bool, true, false, cond, Option, Some, None, List, [], ◌∷◌, ◌++◌, map, flat_map, refl, ap, ◌∙◌, sym, subst, inl, inr, arith, ◌≢◌}
use Rattle.std.proofs.lemmas.Bool.{cases_Bool}
use Rattle.std.specs.List.{Contains, cons_option, filter, filter_map, list_any, AllByRecursion}

-- the list has the element
abbrev pub Has : {X : Type 0} → List X → X → Type 0
Has [] x = ⊥
Has (y ∷ ys) x = (y ≡ x) ⊎ Has ys x

pub has_from : {X : Type 0} (xs : List X) (x : X) → Contains xs x → Has xs x
has_from [] x c = absurd (omega (arith, c.1))
has_from (y ∷ ys) x (zero, h, e) = inl e
has_from (y ∷ ys) x (suc k, h, e) = inr (has_from ys x (k, omega (arith, h), e))

pub from_has : {X : Type 0} (xs : List X) (x : X) → Has xs x → Contains xs x
from_has [] x h = absurd h
from_has (y ∷ ys) x (inl e) = (zero, omega arith, e)
from_has (y ∷ ys) x (inr h) = let c = from_has ys x h in (suc c.0, omega (arith, c.1), c.2)

-- two lists joined
pub has_left : {X : Type 0} (xs ys : List X) (x : X) → Has xs x → Has (xs ++ ys) x
has_left [] ys x h = absurd h
has_left (z ∷ zs) ys x (inl e) = inl e
has_left (z ∷ zs) ys x (inr h) = inr (has_left zs ys x h)

pub has_right : {X : Type 0} (xs ys : List X) (x : X) → Has ys x → Has (xs ++ ys) x
has_right [] ys x h = h
has_right (z ∷ zs) ys x h = inr (has_right zs ys x h)

pub has_either : {X : Type 0} (xs ys : List X) (x : X) → Has (xs ++ ys) x → Has xs x ⊎ Has ys x
has_either [] ys x h = inr h
has_either (z ∷ zs) ys x (inl e) = inl (inl e)
has_either (z ∷ zs) ys x (inr h) = elim (has_either zs ys x h) [ inl a ↦ inl (inr a) | inr b ↦ inr b ]

-- a filter
pub has_filter : {X : Type 0} (p : X → Bool) (xs : List X) (x : X) → Has xs x → p x ≡ true → Has (filter p xs) x
has_filter p [] x h e = h
has_filter {X} p (y ∷ ys) x h e = at (p y) refl h (λ q. has_filter p ys x q e)
  where
    at : (b : Bool) → p y ≡ b → (y ≡ x) ⊎ Has ys x → (Has ys x → Has (filter p ys) x)
        → Has (cond b (y ∷ filter p ys) (filter p ys)) x
    at true is (inl q) rest = inl q
    at true is (inr q) rest = inr (rest q)
    at false is (inl q) rest = let r : false ≡ true = sym is ∙ ap p q ∙ e in cc
    at false is (inr q) rest = rest q

pub filter_has : {X : Type 0} (p : X → Bool) (xs : List X) (x : X) → Has (filter p xs) x → Has xs x × (p x ≡ true)
filter_has p [] x h = absurd h
filter_has {X} p (y ∷ ys) x h = at (p y) refl h (λ q. filter_has p ys x q)
  where
    at : (b : Bool) → p y ≡ b → Has (cond b (y ∷ filter p ys) (filter p ys)) x
        → (Has (filter p ys) x → Has ys x × (p x ≡ true)) → ((y ≡ x) ⊎ Has ys x) × (p x ≡ true)
    at true is (inl q) rest = (inl q, ap p (sym q) ∙ is)
    at true is (inr q) rest = let r = rest q in (inr r.0, r.1)
    at false is q rest = let r = rest q in (inr r.0, r.1)

-- a map
pub has_map : {X Y : Type 0} (f : X → Y) (xs : List X) (x : X) → Has xs x → Has (map f xs) (f x)
has_map f [] x h = absurd h
has_map f (y ∷ ys) x (inl e) = inl (ap f e)
has_map f (y ∷ ys) x (inr h) = inr (has_map f ys x h)

pub map_has : {X Y : Type 0} (f : X → Y) (xs : List X) (y : Y) → Has (map f xs) y → (x : X) × Has xs x × (f x ≡ y)
map_has f [] y h = absurd h
map_has f (x ∷ xs) y (inl e) = (x, inl refl, e)
map_has f (x ∷ xs) y (inr h) = let r = map_has f xs y h in (r.0, inr r.1, r.2)

-- a map with gaps
pub has_mapped : {X Y : Type 0} (f : X → Option Y) (xs : List X) (x : X) (y : Y) → Has xs x → f x ≡ Some y
    → Has (filter_map f xs) y
has_mapped f [] x y h e = absurd h
has_mapped {X} {Y} f (z ∷ zs) x y (inl q) e = subst (λ o. Has (cons_option o (filter_map f zs)) y) (sym (ap f q ∙ e)) (inl refl)
has_mapped {X} {Y} f (z ∷ zs) x y (inr q) e = at (f z) (has_mapped f zs x y q e)
  where
    at : (o : Option Y) → Has (filter_map f zs) y → Has (cons_option o (filter_map f zs)) y
    at None h = h
    at (Some w) h = inr h

pub mapped_has : {X Y : Type 0} (f : X → Option Y) (xs : List X) (y : Y) → Has (filter_map f xs) y
    → (x : X) × Has xs x × (f x ≡ Some y)
mapped_has f [] y h = absurd h
mapped_has {X} {Y} f (z ∷ zs) y h = at (f z) refl h (λ q. mapped_has f zs y q)
  where
    at : (o : Option Y) → f z ≡ o → Has (cons_option o (filter_map f zs)) y
        → (Has (filter_map f zs) y → (x : X) × Has zs x × (f x ≡ Some y)) → (x : X) × ((z ≡ x) ⊎ Has zs x) × (f x ≡ Some y)
    at None is q rest = let r = rest q in (r.0, inr r.1, r.2)
    at (Some w) is (inl q) rest = (z, inl refl, is ∙ ap Some q)
    at (Some w) is (inr q) rest = let r = rest q in (r.0, inr r.1, r.2)

-- lists joined, one for each element
pub has_joined : {X Y : Type 0} (f : X → List Y) (xs : List X) (x : X) (y : Y) → Has xs x → Has (f x) y → Has (flat_map f xs) y
has_joined f [] x y h k = absurd h
has_joined f (z ∷ zs) x y (inl e) k = has_left (f z) (flat_map f zs) y (subst (λ w. Has (f w) y) (sym e) k)
has_joined f (z ∷ zs) x y (inr h) k = has_right (f z) (flat_map f zs) y (has_joined f zs x y h k)

pub joined_has : {X Y : Type 0} (f : X → List Y) (xs : List X) (y : Y) → Has (flat_map f xs) y → (x : X) × Has xs x × Has (f x) y
joined_has f [] y h = absurd h
joined_has f (z ∷ zs) y h = elim (has_either (f z) (flat_map f zs) y h) [
  | inl a ↦ (z, inl refl, a)
  | inr b ↦ let r = joined_has f zs y b in (r.0, inr r.1, r.2)
]

-- a test of some element
pub has_any : {X : Type 0} (p : X → Bool) (xs : List X) (x : X) → Has xs x → p x ≡ true → list_any p xs ≡ true
has_any p [] x h e = absurd h
has_any p (y ∷ ys) x (inl q) e = let t : p y ≡ true = ap p q ∙ e in rw t refl
has_any p (y ∷ ys) x (inr h) e = elim (cases_Bool (p y)) [
  | inl t ↦ rw t refl
  | inr t ↦ rw t (has_any p ys x h e)
]

pub any_has : {X : Type 0} (p : X → Bool) (xs : List X) → list_any p xs ≡ true → (x : X) × Has xs x × (p x ≡ true)
any_has p [] e = let q : false ≡ true = e in cc
any_has p (y ∷ ys) e = elim (cases_Bool (p y)) [
  | inl t ↦ (y, inl refl, t)
  | inr t ↦ let r = any_has p ys (rw t at e) in (r.0, inr r.1, r.2)
]

-- what holds of each member
pub all_has : {X : Type 0} (P : X → Type 0) (xs : List X) → AllByRecursion P xs → (x : X) → Has xs x → P x
all_has P [] a x h = absurd h
all_has P (y ∷ ys) a x (inl e) = subst P e a.0
all_has P (y ∷ ys) a x (inr h) = all_has P ys a.1 x h

pub has_all : {X : Type 0} (P : X → Type 0) (xs : List X) → ((x : X) → Has xs x → P x) → AllByRecursion P xs
has_all P [] f = tt
has_all P (x ∷ xs) f = (f x (inl refl), has_all P xs (λ y m. f y (inr m)))

-- a list that is not empty has a member
pub first_of : {X : Type 0} (xs : List X) → xs ≢ [] → (x : X) × Has xs x
first_of [] n = absurd (n refl)
first_of (x ∷ xs) n = (x, inl refl)
