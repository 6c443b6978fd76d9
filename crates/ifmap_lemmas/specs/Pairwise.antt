-- Lists of which each element stands so to those after it.
use Rattle.std.proofs.Common.{List, [], ◌∷◌, map, ◌++◌}
use Rattle.std.specs.List.{AllByRecursion}
use Rattle.ifmap_lemmas.specs.Members.{all_onto, both_all}

-- each element and those after it
abbrev pub Pairwise : {X : Type 0} → (X → X → Type 0) → List X → Type 0
Pairwise P [] = Unit {0}
Pairwise P (x ∷ xs) = AllByRecursion (P x) xs × Pairwise P xs

pub pairwise_onto : {X Y : Type 0} (P : X → X → Type 0) (Q : Y → Y → Type 0) (f : X → Y) (xs : List X) → ((x y : X) → P x y → Q (f x) (f y))
    → Pairwise P xs → Pairwise Q (map f xs)
pairwise_onto P Q f [] g p = tt
pairwise_onto P Q f (x ∷ xs) g p = (all_onto (P x) (Q (f x)) f xs (g x) p.0, pairwise_onto P Q f xs g p.1)

pub pairwise_both : {X : Type 0} (P : X → X → Type 0) (xs ys : List X) → Pairwise P xs → Pairwise P ys → AllByRecursion
    (λ x. AllByRecursion (P x) ys) xs
    → Pairwise P (xs ++ ys)
pairwise_both P [] ys p q a = q
pairwise_both P (x ∷ xs) ys p q a = (both_all (P x) xs ys p.0 a.0, pairwise_both P xs ys p.1 q a.1)
