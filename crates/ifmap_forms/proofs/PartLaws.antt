-- Lists of references, and children as parts.
use Rattle.std.proofs.Common.{◌≡◌, ℕ, Bool, Bor, List, [], ◌∷◌, map, refl, ap}
use Rattle.std.specs.Prelude.{◌||◌}
use Rattle.std.specs.List.{list_any}

pub any_borrowed : (p : List ℕ → Bool) (ls : List (Bor (List ℕ)))
    → list_any (λ (l : Bor (List ℕ)). p l.now) ls ≡ list_any p (map (λ (l : Bor (List ℕ)). l.now) ls)
any_borrowed p [] = refl
any_borrowed p (l ∷ ls) = ap (λ t. p l.now || t) (any_borrowed p ls)
