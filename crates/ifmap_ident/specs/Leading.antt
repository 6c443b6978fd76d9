-- How texts compare by what they begin with.
use Rattle.std.specs.Prelude.{◌≡◌, ℕ, List, ◌++◌}
use Rattle.std.specs.Cmp.Lexicographic.{slice_cmp}
use Rattle.std.specs.Ordering.{nat_cmp, ordering_then}
use Rattle.std.specs.declared.cmp.Ordering.{Ordering}

-- texts that begin with p and q compare like this, and where it is Equal, as what follows there does
pub record FrontsCompare (order : Ordering) (p q : List ℕ) : Type 0 where
  pub compares : (x y : List ℕ) → slice_cmp nat_cmp (p ++ x) (q ++ y) ≡ ordering_then order (slice_cmp nat_cmp x y)
