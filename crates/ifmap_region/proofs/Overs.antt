-- Marks after one row is put in.
use Rattle.std.proofs.Common.{◌≡◌, ◌≢◌, ℕ, Option, Some, List, nat_eq, ap, ◌∙◌, unwrap_or}
use Rattle.std.specs.Map.{update}
use Rattle.std.proofs.lemmas.Map.{update_here, update_apart}
use Rattle.ifmap_region.specs.Marks.{row_of, mark_over}

module _ (rows after : List (ℕ × Option ℕ)) (below : ℕ → Option ℕ) (k : ℕ) (w : Option ℕ)
    (put : (q : ℕ) → row_of after q ≡ update nat_eq (row_of rows) k (Some w) q) where
  pub row_here : row_of after k ≡ Some w
  row_here = put k ∙ update_here (row_of rows) k (Some w)

  pub row_apart : (q : ℕ) → q ≢ k → row_of after q ≡ row_of rows q
  row_apart q apart = put q ∙ update_apart (row_of rows) k (Some w) q apart

  pub over_here : mark_over after below k ≡ w
  over_here = ap (λ (o : Option (Option ℕ)). unwrap_or o (below k)) row_here

  pub over_apart : (q : ℕ) → q ≢ k → mark_over after below q ≡ mark_over rows below q
  over_apart q apart = ap (λ (o : Option (Option ℕ)). unwrap_or o (below q)) (row_apart q apart)
