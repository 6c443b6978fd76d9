-- Depths and walks over what is linked alike.
use Rattle.std.proofs.Common.{◌≡◌, ℕ, Bool, Option, sym, ◌∙◌, zero, suc, false}
use Rattle.ifmap_region.specs.Walks.{AreDepths, Walk, begins, goes_on}

-- the same marks are the same depths
pub depths_same : (links : ℕ → ℕ → Type 0) (terminal : ℕ → Bool) (start top : ℕ) (m n : ℕ → Option ℕ) → ((v : ℕ) → n v ≡ m v)
    → AreDepths links terminal start top m → AreDepths links terminal start top n
depths_same links terminal start top m n same depths v k = (λ e. (depths v k).0 (sym (same v) ∙ e), λ h. same v ∙ (depths v k).1 h)

-- walks along links that go on alike
pub walk_over : (L M : ℕ → ℕ → Type 0) (T U : ℕ → Bool) (start : ℕ)
    → ((u v : ℕ) → T u ≡ false → L u v → (U u ≡ false) × M u v) → (k v : ℕ) → Walk L T start k v → Walk M U start k v
walk_over L M T U start f zero v (begins e) = begins e
walk_over L M T U start f (suc k) v (goes_on {u = u} w t l) =
    let n = f u v t l in goes_on (walk_over L M T U start f k u w) n.0 n.1
