-- Which prefixes are in scope at the elements of a message (Namespaces in XML 1.0, section 6).
use Rattle.std.specs.Prelude.{ℕ, List, [], ◌∷◌, ◌++◌, Option, None, Some}
use Rattle.ifmap_elem.specs.declared.readings.Declared.{Declared}
use Rattle.ifmap_filter.specs.ifmap_prefixes.InScope.{scope_by}
use Rattle.ifmap_ident.specs.ifmap_reader.declared.scoping.Scope.{Scope}

-- the scope at each path of child indexes from an element on
abbrev pub Scopes : Type 0
Scopes = List ℕ → Scope

-- those from its child with that index on
abbrev pub scopes_below : Scopes → ℕ → Scopes
scopes_below scopes index path = scopes (index ∷ path)

-- the scopes from the element at a path on
abbrev pub scopes_by : List Declared → List ℕ → Scopes
scopes_by declared path inner = scope_by declared (path ++ inner)

-- the path from an element to itself, or to its child with an index
abbrev pub child_path : Option ℕ → List ℕ
child_path None = []
child_path (Some index) = index ∷ []

-- the scope at the element with that path, or at its child with an index
abbrev pub place_scope : List Declared → List ℕ → Option ℕ → Scope
place_scope declared path None = scopes_by declared path []
place_scope declared path (Some index) = scopes_by declared path (index ∷ [])

-- the scopes from there on
abbrev pub place_scopes : List Declared → List ℕ → Option ℕ → Scopes
place_scopes declared path None = scopes_by declared path
place_scopes declared path (Some index) = scopes_below (scopes_by declared path) index
