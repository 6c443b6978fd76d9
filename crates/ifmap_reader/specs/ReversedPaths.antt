-- Paths that lie turned, and in two parts.
use Rattle.std.specs.Prelude.{ℕ, List, ◌++◌, reverse}
use Rattle.ifmap_elem.specs.declared.readings.Declared.{Declared}

-- with more at the end of its path
abbrev pub lengthen : List ℕ → Declared → Declared
lengthen above d = record { path = d.path ++ above; prefix = d.prefix; space = d.space }

-- with its path turned, which goes on so
abbrev pub reverse_path : List ℕ → Declared → Declared
reverse_path above d = record { path = reverse (d.path ++ above); prefix = d.prefix; space = d.space }
