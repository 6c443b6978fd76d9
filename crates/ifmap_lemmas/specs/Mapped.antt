-- Maps of lists: when two are alike, one after another, and of lists side by side. Then lists that are joined, one for each member.
use Rattle.std.proofs.Common.{◌≡◌, ◌≢◌, ℕ, zero, suc, ◌≤◌, Bool, true, Option, None, Some, List, [], ◌∷◌, ◌++◌, length, map, flat_map, option_map, option_to_list, slice_get, take, inl, inr, refl, ap, ◌∙◌, arith, length-append}
use Rattle.std.proofs.lemmas.Bool.{cases_Bool}
use Rattle.std.proofs.lemmas.Option.{none-some, same_Some, slice_get-map}
use Rattle.std.specs.List.{AllByRecursion, filter, zip}
use Rattle.ifmap_lemmas.specs.Having.{Has, has_all}
use Rattle.ifmap_lemmas.specs.Members.{both_all}

-- maps that agree at each member, and at no more than these
pub alike_maps : {X Y : Type 0} (f g : X → Y) (xs : List X) → AllByRecursion (λ x. f x ≡ g x) xs → map f xs ≡ map g xs
alike_maps f g [] h = refl
alike_maps f g (x ∷ xs) h = ap (λ y. y ∷ map f xs) h.0 ∙ ap (λ ys. g x ∷ ys) (alike_maps f g xs h.1)

pub maps_alike : {X Y : Type 0} (f g : X → Y) (xs : List X) → map f xs ≡ map g xs → AllByRecursion (λ x. f x ≡ g x) xs
maps_alike f g [] e = tt
maps_alike f g (x ∷ xs) e =
    let head : f x ≡ g x = cc e in let tail : map f xs ≡ map g xs = cc e in (head, maps_alike f g xs tail)

pub map_alike : {X Y : Type 0} (f g : X → Y) (xs : List X) → ((x : X) → Has xs x → f x ≡ g x) → map f xs ≡ map g xs
map_alike f g xs h = alike_maps f g xs (has_all (λ x. f x ≡ g x) xs h)

-- one map after another
pub map_twice : {X Y Z : Type 0} (f : X → Y) (g : Y → Z) (xs : List X) → map g (map f xs) ≡ map (λ x. g (f x)) xs
map_twice f g [] = refl
map_twice f g (x ∷ xs) = ap (λ ys. g (f x) ∷ ys) (map_twice f g xs)

-- what stands at a place
pub mapped_there : {X Y : Type 0} (f : X → Y) (xs : List X) (n : ℕ) (x : X) → slice_get xs n ≡ Some x → slice_get (map f xs) n ≡ Some (f x)
mapped_there f xs n x e = slice_get-map f xs n ∙ ap (option_map f) e

-- lists side by side
pub mapped_long : {X Y Z : Type 0} (f : X × Y → Z) (xs : List X) (ys : List Y) → length xs ≡ length ys
    → length (map f (zip xs ys)) ≡ length ys
mapped_long f [] ys long = omega (arith, long)
mapped_long f (x ∷ xs) [] long = refl
mapped_long f (x ∷ xs) (y ∷ ys) long = ap suc (mapped_long f xs ys (omega (arith, long)))

-- one place on
pub zip_more : {A B : Type 0} (us : List A) (vs : List B) (n : ℕ) (a : A) (b : B) → slice_get us n ≡ Some a → slice_get vs n ≡ Some b
    → take (suc n) (zip us vs) ≡ take n (zip us vs) ++ (a, b) ∷ []
zip_more [] vs n a b p q = absurd (none-some a p)
zip_more (x ∷ us) [] n a b p q = absurd (none-some b q)
zip_more (x ∷ us) (y ∷ vs) zero a b p q = ap (λ u. (u, y) ∷ []) (same_Some x a p) ∙ ap (λ u. (a, u) ∷ []) (same_Some y b q)
zip_more (x ∷ us) (y ∷ vs) (suc n) a b p q = ap (λ l. (x, y) ∷ l) (zip_more us vs n a b p q)

-- what is beside those that pass a test, which sees of them what a map gives
pub zip_mapped : {X Y N Z : Type 0} (f : X → Y) (q : Y → Bool) (items : N → List Z) (xs : List X) (ns : List N)
    → flat_map (λ (p : X × N). items p.1) (filter (λ (p : X × N). q (f p.0)) (zip xs ns))
    ≡ flat_map (λ (p : Y × N). items p.1) (filter (λ (p : Y × N). q p.0) (zip (map f xs) ns))
zip_mapped f q items [] ns = refl
zip_mapped f q items (x ∷ xs) [] = refl
zip_mapped f q items (x ∷ xs) (n ∷ ns) =
    let rest = zip_mapped f q items xs ns in elim (cases_Bool (q (f x))) [
      | inl t ↦ rw t (ap (λ zs. items n ++ zs) rest)
      | inr t ↦ rw t rest
    ]

-- where there is something, it is of one that passes
pub some_joined : {Y Z : Type 0} (told : Y → List Z) (q : Y → Bool) (ys : List Y) → flat_map told (filter q ys) ≢ []
    → (y : Y) × Has ys y × (q y ≡ true)
some_joined told q [] some = absurd (some refl)
some_joined told q (y ∷ ys) some = elim (cases_Bool (q y)) [
  | inl t ↦ (y, inl refl, t)
  | inr t ↦ let r = some_joined told q ys (λ e. some (rw t e)) in (r.0, inr r.1, r.2)
]

-- what holds of all that is made of each holds of all that is joined
pub all_of_joined : {X Y : Type 0} (P : X → Type 0) (Q : Y → Type 0) (f : X → List Y) → ((x : X) → P x → AllByRecursion Q (f x))
    → (xs : List X) → AllByRecursion P xs → AllByRecursion Q (flat_map f xs)
all_of_joined P Q f h [] all = tt
all_of_joined P Q f h (x ∷ xs) all = both_all Q (f x) (flat_map f xs) (h x all.0) (all_of_joined P Q f h xs all.1)

-- an option makes one at most, and as many options no more than there are
pub one_at_most : {X : Type 0} (o : Option X) → length (option_to_list o) ≤ 1
one_at_most None = omega arith
one_at_most (Some x) = omega arith

pub fewer_joined : {X Y : Type 0} (f : X → Option Y) (xs : List X) → length (flat_map (λ x. option_to_list (f x)) xs) ≤ length xs
fewer_joined f [] = omega arith
fewer_joined f (x ∷ xs) =
    let rest = fewer_joined f xs in
    let both = length-append (option_to_list (f x)) (flat_map (λ y. option_to_list (f y)) xs) in
    omega (arith, rest, both, one_at_most (f x))
