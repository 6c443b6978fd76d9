-- Lists that are made of lists.
use Rattle.std.proofs.Common.{◌≡◌, ℕ, List, [], ◌∷◌, ◌++◌, map, refl, ap, length, drop, sym, ◌∙◌}
use Rattle.std.specs.List.{flat_map, concat}
use Rattle.std.proofs.Math.Seq.{drop-append_seam}

pub concat_map : {X : Type 0} (f : X → List ℕ) (xs : List X) → concat (map f xs) ≡ flat_map f xs
concat_map f [] = refl
concat_map f (x ∷ xs) = ap (λ ys. f x ++ ys) (concat_map f xs)

-- what follows fronts of one length
pub cut_same : {X : Type 0} (xs ys zs ws : List X) → length xs ≡ length zs → xs ++ ys ≡ zs ++ ws → ys ≡ ws
cut_same xs ys zs ws l e = sym (drop-append_seam xs ys) ∙ ap (drop (length xs)) e ∙ ap (λ n. drop n (zs ++ ws)) l ∙ drop-append_seam zs ws

pub same_front : (p x y : List ℕ) → p ++ x ≡ p ++ y → x ≡ y
same_front [] x y e = e
same_front (b ∷ p) x y e = same_front p x y (cc)
