use Rattle.std.proofs.Common.{ℕ, List, [], ap}
use Rattle.std.specs.Prelude.{codes}
use Rattle.ifmap_elem.specs.Namespaces.{numbered_prefixes}
use Rattle.ifmap_elem.specs.Canonical.{root_bytes}
use Rattle.ifmap_elem.proofs.order_laws.same_elements_are_printed_alike.Goals as goal

pub returns : goal.returns
returns c = record {
  canonical = λ one other same. ap (root_bytes (numbered_prefixes (codes "f") 1 [])) same;
  written = λ (spaces : List (List ℕ)) one other same. ap (root_bytes (numbered_prefixes (codes "f") 1 spaces)) same;
}
