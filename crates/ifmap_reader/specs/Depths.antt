-- How deep what has been read nests.
use Rattle.std.specs.Prelude.{ℕ, suc, ◌+◌, max, List, [], ◌∷◌, length, map}
use Rattle.ifmap_elem.specs.Nesting.{greatest_of, child_nesting}
use Rattle.ifmap_reader.specs.declared.open_elements.OpenElement.{OpenElement}

-- the levels of some open elements, the innermost first, with the children that they have
abbrev pub levels : List OpenElement → ℕ
levels [] = 0
levels (f ∷ fs) = max (length fs + suc (greatest_of (map child_nesting f.children))) (levels fs)
