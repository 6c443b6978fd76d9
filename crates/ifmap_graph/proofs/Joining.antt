-- A list of lists that grows by an empty one.
use Rattle.std.proofs.Common.{◌≡◌, ℕ, List, [], ◌∷◌, ◌++◌, ap, ◌∙◌}
use Rattle.ifmap_graph.specs.Sides.{Sides}
use Rattle.ifmap_graph.specs.Turning.{no_list, sides_at}
use Rattle.ifmap_lemmas.specs.Inserted.{one_pushed}

-- an empty list more changes no place
pub one_longer : {T : Type 0} (lists longer : List (Sides T)) (x : Sides T) → longer ≡ lists ++ (x ∷ []) → x ≡ no_list → (v : ℕ)
    → sides_at longer v ≡ sides_at lists v
one_longer lists longer x e n v = ap (λ l. sides_at l v) (e ∙ ap (λ y. lists ++ (y ∷ [])) n) ∙ one_pushed lists v no_list
