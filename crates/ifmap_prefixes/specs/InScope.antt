-- The prefixes in scope at a path, as the rows of a scope (Namespaces in XML 1.0, section 6).
use Rattle.std.specs.Prelude.{ℕ, List, [], map}
use Rattle.ifmap_elem.specs.InScope.{declared_at}
use Rattle.ifmap_elem.specs.declared.readings.Declared.{Declared}
use Rattle.ifmap_reader.specs.declared.scoping.Scope.{Scope}

-- the prefixes in scope at a path, the innermost declaration first
abbrev pub scope_by : List Declared → List ℕ → Scope
scope_by declared path = record { rows = map (λ b. (b.prefix, b.space)) (declared_at path declared) }

-- a row of a scope as a declaration at the root of a document
abbrev pub root_row : List ℕ × List ℕ → Declared
root_row row = record { path = []; prefix = row.0; space = row.1 }
