-- What the first that passes a test tells of filters, of other tests, and of what else is there.
use Rattle.std.proofs.Common.{◌≡◌, ◌∙◌, ◌<◌, Bool, true, false, cond, List, [], ◌∷◌, ◌++◌, ap, None, Some, IsSome, inl, inr, refl, sym, subst, map, length, arith}
use Rattle.std.proofs.lemmas.Bool.{both_ways, cases_Bool}
use Rattle.std.specs.List.{AllByRecursion, filter, find, list_any}
use Rattle.ifmap_lemmas.specs.Filters.{filter_shorter, found_all}
use Rattle.ifmap_lemmas.specs.Having.{Has, any_has, has_any}
use Rattle.ifmap_lemmas.specs.Members.{all_of_map}

-- where none passes, none is found
pub find_none : {X : Type 0} (p : X → Bool) (xs : List X) → AllByRecursion (λ x. p x ≡ false) xs → find p xs ≡ None
find_none p [] h = refl
find_none p (x ∷ xs) h = rw h.0 (find_none p xs h.1)

-- what a search finds is found among those that a filter leaves, where whatever it looks for stays
pub find_in_filter : {X : Type 0} (q p : X → Bool) → ((x : X) → q x ≡ true → p x ≡ true) → (xs : List X) (x : X) → find q xs ≡ Some x
    → find q (filter p xs) ≡ Some x
find_in_filter q p f [] x e = cc
find_in_filter q p f (y ∷ ys) x e =
    elim (cases_Bool (q y)) [
      | inl hit ↦ rw (f y hit, hit) (rw hit at e)
      | inr miss ↦
          let rest = find_in_filter q p f ys x (rw miss at e) in
          elim (cases_Bool (p y)) [ inl stays ↦ rw (stays, miss) rest | inr goes ↦ rw goes rest ]
    ]

-- one at least goes, where what a search finds does not pass
pub one_less : {X : Type 0} (q p : X → Bool) (xs : List X) (x : X) → find q xs ≡ Some x → p x ≡ false → length (filter p xs) < length xs
one_less q p [] x e out = cc
one_less q p (y ∷ ys) x e out =
    elim (cases_Bool (q y)) [
      | inl hit ↦
          let same : y ≡ x = cc (rw hit at e) in
          let gone : p y ≡ false = subst (λ z. p z ≡ false) (sym same) out in
          let rest = filter_shorter p ys in
          rw gone (omega (arith, rest))
      | inr miss ↦
          let rest = one_less q p ys x (rw miss at e) out in
          elim (cases_Bool (p y)) [ inl stays ↦ rw stays (omega (arith, rest)) | inr goes ↦ rw goes (omega (arith, rest)) ]
    ]

-- a test that nothing passes fails at each member, and the other way round
pub fails_at : {X : Type 0} (p : X → Bool) (xs : List X) (x : X) → list_any p xs ≡ false → Has xs x → p x ≡ false
fails_at p xs x none h = elim (cases_Bool (p x)) [
  | inl e ↦ let q : false ≡ true = sym none ∙ has_any p xs x h e in cc
  | inr e ↦ e
]

pub none_where_fails : {X : Type 0} (p : X → Bool) (xs : List X) → ((x : X) → Has xs x → p x ≡ false) → list_any p xs ≡ false
none_where_fails p xs f = elim (cases_Bool (list_any p xs)) [
  | inl e ↦ let a = any_has p xs e in let q : false ≡ true = sym (f a.0 a.1) ∙ a.2 in cc
  | inr e ↦ e
]

-- one more that does not pass changes nothing
pub find_push : {X : Type 0} (p : X → Bool) (xs : List X) (y : X) → p y ≡ false → find p (xs ++ y ∷ []) ≡ find p xs
find_push p [] y e = rw e refl
find_push p (x ∷ xs) y e = ap (λ o. cond (p x) (Some x) o) (find_push p xs y e)

-- what holds of each member's key holds of the key of what is found
pub key_found : {X K : Type 0} (key : X → K) (P : K → Type 0) (p : X → Bool) (xs : List X) (x : X)
    → AllByRecursion P (map key xs) → find p xs ≡ Some x → P (key x)
key_found key P p xs x h e = found_all (λ y. P (key y)) p xs (all_of_map P key xs h) x e

-- what passes one test is found by each test that it passes
pub found_again : {X : Type 0} (p q : X → Bool) (xs : List X) (x : X) → find p xs ≡ Some x → q x ≡ true → IsSome (find q xs)
found_again p q [] x e h = cc
found_again p q (y ∷ ys) x e h =
    elim (cases_Bool (q y)) [
      | inl hit ↦ rw hit refl
      | inr miss ↦
          elim (cases_Bool (p y)) [
            | inl here ↦ let same : y ≡ x = cc (rw here at e) in absurd (both_ways (q x) (subst (λ z. q z ≡ false) same miss) h)
            | inr past ↦ rw miss (found_again p q ys x (rw past at e) h)
          ]
    ]
