-- Names without a prefix.
use Rattle.std.proofs.Common.{◌≡◌, ◌≢◌, ℕ, true, false, List, ap}
use Rattle.ifmap_elem.specs.Building.{bare_name, is_bare}
use Rattle.ifmap_elem.specs.declared.elements.Name.{Name}

pub another_bare : (one : List ℕ) (n : Name) → is_bare one (bare_name one) ≡ true → is_bare one n ≡ false → bare_name one ≢ n
another_bare one n here there e = let q : is_bare one (bare_name one) ≡ is_bare one n = ap (is_bare one) e in cc
