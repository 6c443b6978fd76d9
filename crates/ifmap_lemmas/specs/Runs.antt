-- Runs along a list: tests that all or some members pass, a bound of each, and what a filter leaves of a front.
use Rattle.std.proofs.Common.{◌≡◌, ℕ, zero, suc, ◌+◌, ◌<◌, Bool, true, false, cond, ◌&&◌, ◌||◌, List, [], ◌∷◌, ◌++◌, length, map, take, drop, get_or, option_to_list}
use Rattle.std.proofs.Common.{Option, Some, None, is_some, refl, ap, sym, ◌∙◌, subst, inl, inr}
use Rattle.std.specs.List.{AllByRecursion, filter, flat_map, list_all, list_any}
use Rattle.std.proofs.lemmas.Bool.{and_from, cases_Bool, or_parts}
use Rattle.std.proofs.lemmas.List.{append-nil, take-append-drop, take_more}
use Rattle.std.proofs.lemmas.List.Concat.{flat_map-append}
use Rattle.std.proofs.lemmas.List.Elements.{filter-append}
use Rattle.std.proofs.lemmas.List.Folds.{list_all-append, list_any-append}
use Rattle.std.proofs.lemmas.List.Sums.{AllPass-from_list_all, list_all-from_AllPass}
use Rattle.std.proofs.Math.Seq.{drop-cons}
use Rattle.ifmap_lemmas.specs.Items.{To}

-- ---- tests of all and of some

pub all_mapped : {X : Type 0} (p : X → Bool) (xs : List X) → list_all (λ b. b) (map p xs) ≡ list_all p xs
all_mapped p [] = refl
all_mapped p (x ∷ xs) = ap (λ b. p x && b) (all_mapped p xs)

pub any_mapped : {X : Type 0} (p : X → Bool) (xs : List X) → list_any (λ b. b) (map p xs) ≡ list_any p xs
any_mapped p [] = refl
any_mapped p (x ∷ xs) = ap (λ b. p x || b) (any_mapped p xs)

pub all_tested : {X : Type 0} (p : X → Bool) (xs : List X) → AllByRecursion (λ x. p x ≡ true) xs → list_all p xs ≡ true
all_tested p [] f = refl
all_tested p (x ∷ xs) f = and_from (p x) (list_all p xs) f.0 (all_tested p xs f.1)

-- what holds of each item that is taken holds of all
pub all_taken : {B X : Type 0} (Takes : B → X → B → Type 0) (P : X → Type 0) → ((bytes : B) (x : X) (rest : B) → Takes bytes x rest → P x)
    → (bytes : B) (xs : List X) (rest : B) → To Takes bytes xs rest → AllByRecursion P xs
all_taken Takes P each bytes [] rest l = tt
all_taken Takes P each bytes (x ∷ xs) rest l = (each bytes x l.0 l.1, all_taken Takes P each l.0 xs rest l.2)

-- items, and then more
pub to_both : {B X : Type 0} (Takes : B → X → B → Type 0) (bytes : B) (xs : List X) (mid : B) (ys : List X) (rest : B)
    → To Takes bytes xs mid → To Takes mid ys rest → To Takes bytes (xs ++ ys) rest
to_both {B} {X} Takes bytes [] mid ys rest l m = subst (λ (b : B). To Takes b ys rest) (sym l) m
to_both Takes bytes (x ∷ xs) mid ys rest l m = (l.0, l.1, to_both Takes l.0 xs mid ys rest l.2 m)

pub tests_weaker : {X : Type 0} (p q : X → Bool) → ((x : X) → p x ≡ true → q x ≡ true) → (xs : List X) → list_all p xs ≡ true
    → list_all q xs ≡ true
tests_weaker p q implies xs is =
    let all = AllPass-from_list_all p xs is in
    list_all-from_AllPass q xs (λ k d within. implies _ (all k d within))

-- of lists joined, one for each member
pub all_joined : {X Y : Type 0} (p : Y → Bool) (f : X → List Y) (xs : List X)
    → list_all p (flat_map f xs) ≡ list_all (λ x. list_all p (f x)) xs
all_joined p f [] = refl
all_joined p f (x ∷ xs) = list_all-append p (f x) (flat_map f xs) ∙ ap (λ b. list_all p (f x) && b) (all_joined p f xs)

pub any_both : {X : Type 0} (p : X → Bool) (xs ys : List X) → list_any p (xs ++ ys) ≡ false
    → (list_any p xs ≡ false) × (list_any p ys ≡ false)
any_both p xs ys e = or_parts (list_any p xs) (list_any p ys) (sym (list_any-append p xs ys) ∙ e)

pub any_more : {X : Type 0} (p : X → Bool) (xs ys : List X) → list_any p xs ≡ true → list_any p (xs ++ ys) ≡ true
any_more p [] ys h = cc
any_more p (x ∷ xs) ys h = elim (cases_Bool (p x)) [
  | inl e ↦ rw e refl
  | inr e ↦ rw e (any_more p xs ys (rw e at h))
]

pub any_last : {X : Type 0} (p : X → Bool) (xs : List X) (x : X) → p x ≡ true → list_any p (xs ++ x ∷ []) ≡ true
any_last p [] x h = rw h refl
any_last p (y ∷ ys) x h = elim (cases_Bool (p y)) [
  | inl e ↦ rw e refl
  | inr e ↦ rw e (any_last p ys x h)
]

-- ---- numbers below a bound

pub below_at : (bound : ℕ) (xs : List ℕ) → 0 < bound → AllByRecursion (λ n. n < bound) xs → (i : ℕ) → get_or xs i 0 < bound
below_at bound [] p h i = p
below_at bound (x ∷ xs) p h i =
    elim i as (λ j. get_or (x ∷ xs) j 0 < bound) [ zero ↦ h.0 | suc j ↦ below_at bound xs p h.1 j ]

pub all_below : (bound : ℕ) (xs : List ℕ) → ((i : ℕ) → get_or xs i 0 < bound) → AllByRecursion (λ n. n < bound) xs
all_below bound [] f = tt
all_below bound (x ∷ xs) f = (f 0, all_below bound xs (λ i. f (suc i)))

-- ---- fronts

pub flat_map-next : {X Y : Type 0} (f : X → List Y) (xs : List X) (i : ℕ) (x : X) → i < length xs → x ≡ get_or xs i x
    → flat_map f (take i xs) ++ f x ≡ flat_map f (take (i + 1) xs)
flat_map-next f xs i x l is =
    sym (ap (flat_map f) (take_more xs i x l) ∙ flat_map-append f (take i xs) (get_or xs i x ∷ [])
    ∙ ap (λ ys. flat_map f (take i xs) ++ ys) (append-nil (f (get_or xs i x)) ∙ ap f (sym is)))

passes_first : {X : Type 0} (p : X → Bool) (x : X) (xs : List X) → p x ≡ true → filter p (x ∷ xs) ≡ x ∷ filter p xs
passes_first p x xs h = ap (λ b. cond b (x ∷ filter p xs) (filter p xs)) h

two_members : {X : Type 0} (o : Option X) (x y : X) (rest : List X) → is_some o ≡ true → option_to_list o ++ (x ∷ rest) ≡ y ∷ [] → ⊥
two_members None x y rest some e = cc
two_members (Some z) x y rest some e = cc

-- where one passes among the first, and the next passes too, there is not one alone that passes
pub not_alone : {X : Type 0} (p : X → Bool) (xs : List X) (i : ℕ) (x : X) (o : Option X) → filter p (take i xs) ≡ option_to_list o
    → is_some o ≡ true → i < length xs → x ≡ get_or xs i x → p x ≡ true → (y : X) → filter p xs ≡ y ∷ [] → ⊥
not_alone p xs i x o front some below at passes y alone =
    let split : xs ≡ take i xs ++ (x ∷ drop (suc i) xs) =
    sym (take-append-drop i xs) ∙ ap (λ ys. take i xs ++ ys) (drop-cons xs i x below ∙ ap (λ z. z ∷ drop (suc i) xs) (sym at)) in
    let parts : filter p xs ≡ filter p (take i xs) ++ filter p (x ∷ drop (suc i) xs) =
    ap (filter p) split ∙ filter-append p (take i xs) (x ∷ drop (suc i) xs) in
    let whole : filter p xs ≡ option_to_list o ++ (x ∷ filter p (drop (suc i) xs)) =
    parts ∙ (λ k. front k ++ passes_first p x (drop (suc i) xs) passes k) in
    two_members o x y (filter p (drop (suc i) xs)) some (sym whole ∙ alone)
