-- What a list of prefixes with their namespaces tells of a scope.
use Rattle.std.specs.Prelude.{◌≡◌, ℕ, Bool, ◌==◌, ◌&&◌, List, Option}
use Rattle.std.specs.List.{starts_with}
use Rattle.std.specs.Map.{lookup}
use Rattle.std.specs.Str.{bytes_eq}
use Rattle.ifmap_elem.specs.InScope.{HasScope, declared_at, is_listed, listed_space}
use Rattle.ifmap_elem.specs.Scopes.{Scope}
use Rattle.ifmap_elem.specs.Spells.{Spells}
use Rattle.ifmap_elem.specs.declared.readings.Declared.{Declared}
use Rattle.ifmap_elem.specs.declared.readings.Reading.{Reading}

-- each prefix stands there with what is listed for it in the scope
abbrev pub Lists : List (List ℕ × List ℕ) → Scope → Type 0
Lists rows scope = (prefix : List ℕ) → lookup (bytes_eq prefix) rows ≡ listed_space scope prefix

-- what each prefix is listed with by the declarations at a path
abbrev pub ListsDeclared : List (List ℕ × List ℕ) → Reading → List ℕ → Type 0
ListsDeclared rows r path = Lists rows (declared_at path r.declared)

abbrev pub TellsDeclared : (List ℕ → Option (List ℕ)) → List ℕ → List Declared → Type 0
TellsDeclared space_of path declared = (prefix : List ℕ) → space_of prefix ≡ listed_space (declared_at path declared) prefix

-- a declaration at or round the element with this path, of a listed prefix
abbrev pub is_listed_at : List ℕ → Declared → Bool
is_listed_at path d = starts_with ◌==◌ path d.path && is_listed d.prefix

-- of whatever bytes the reading was read, that is the own scope of the element with this path
abbrev pub ListsScope : List (List ℕ × List ℕ) → Reading → List ℕ → Type 0
ListsScope rows r path = (bytes : List ℕ) (scope : Scope) → Spells bytes r → HasScope bytes path scope → Lists rows scope
