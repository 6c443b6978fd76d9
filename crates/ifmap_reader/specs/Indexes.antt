-- The bindings of a tag, as rows and by their prefixes.
use Rattle.std.specs.Prelude.{◌≡◌, ℕ, List, Option, map}
use Rattle.ifmap_elem.specs.Document.{declared_here}
use Rattle.ifmap_elem.specs.InScope.{binding_told}
use Rattle.ifmap_elem.specs.Scopes.{prefix_space}
use Rattle.ifmap_elem.specs.declared.readings.Declared.{Declared}

-- the rows are declarations at the tag's own element, and each prefix is found as they bind it
abbrev pub AreIndexed : List Declared → (List ℕ → Option (List ℕ)) → Type 0
AreIndexed rows space_of =
    (rows ≡ declared_here (map binding_told rows)) × ((prefix : List ℕ) → space_of prefix ≡ prefix_space (map binding_told rows) prefix)
