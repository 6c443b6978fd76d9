-- How deep elements nest.
use Rattle.std.specs.Prelude.{ℕ, suc, max, List, [], ◌∷◌}
use Rattle.ifmap_elem.specs.declared.elements.Child.{Child, fold-Child}
use Rattle.ifmap_elem.specs.declared.elements.Element.{Element, fold-Element}
use Rattle.ifmap_elem.specs.declared.elements.Child.TheOpen.{Child-F, Element-F}

-- the greatest of some numbers, or 0
abbrev pub greatest_of : List ℕ → ℕ
greatest_of [] = 0
greatest_of (n ∷ ns) = max n (greatest_of ns)

abbrev pub child_levels : Child-F ℕ ℕ → ℕ
child_levels (Child-F.Element levels) = levels
child_levels (Child-F.Text text) = 0

abbrev pub element_levels : Element-F ℕ ℕ → ℕ
element_levels e = suc (greatest_of e.children)

-- the levels of an element: 1, and those of the child with the most
abbrev pub nesting : Element → ℕ
nesting = fold-Element ℕ ℕ child_levels element_levels

abbrev pub child_nesting : Child → ℕ
child_nesting = fold-Child ℕ ℕ child_levels element_levels
