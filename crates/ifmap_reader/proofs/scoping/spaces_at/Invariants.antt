use Rattle.std.proofs.Common.{◌≡◌, ℕ, List, take}
use Rattle.std.specs.BTreeMap.{get}
use Rattle.std.specs.Cmp.Lexicographic.{slice_cmp}
use Rattle.std.specs.Ordering.{nat_cmp}
use Rattle.ifmap_elem.specs.InScope.{declared_at, listed_space}
use Rattle.ifmap_reader.proofs.scoping.spaces_at.Given as goal

abbrev pub invariant-loop-declaration : goal.invariant-loop-declaration
invariant-loop-declaration l =
    (prefix : List ℕ) → get (slice_cmp nat_cmp) l.spaces prefix
    ≡ listed_space (declared_at l.path (take l.declaration-index l.declared)) prefix
