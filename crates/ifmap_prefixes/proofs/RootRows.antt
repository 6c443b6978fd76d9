-- The rows of a scope as declarations at the root: each is in scope there, in the order of the rows.
use Rattle.std.proofs.Common.{◌≡◌, ℕ, List, [], ◌∷◌, ◌++◌, map, reverse, refl, ap, sym, ◌∙◌}
use Rattle.std.specs.Prelude.{◌==◌, filter}
use Rattle.std.specs.List.{starts_with}
use Rattle.std.proofs.lemmas.List.{reverse-reverse}
use Rattle.ifmap_lemmas.specs.Joined.{reverse_map}
use Rattle.ifmap_elem.specs.InScope.{binding_told}
use Rattle.ifmap_elem.specs.Scopes.{row_of_binding}
use Rattle.ifmap_elem.specs.declared.readings.Declared.{Declared}
use Rattle.ifmap_reader.specs.declared.scoping.Scope.{Scope}
use Rattle.ifmap_prefixes.specs.InScope.{root_row, scope_by}

abbrev Row : Type 0
Row = List ℕ × List ℕ

-- at the root each declares
all_stand : (xs : List Row) → filter (λ d. starts_with ◌==◌ [] d.path) (map root_row xs) ≡ map root_row xs
all_stand [] = refl
all_stand (x ∷ xs) = ap (λ (ds : List Declared). root_row x ∷ ds) (all_stand xs)

rows_back : (xs : List Row) → map row_of_binding (map binding_told (map root_row xs)) ≡ xs
rows_back [] = refl
rows_back (x ∷ xs) = ap (λ (rs : List Row). x ∷ rs) (rows_back xs)

pub rows_in_scope : (rows : List Row) (ds : List Declared) → ds ≡ reverse (map root_row rows)
    → (scope_by ds []).rows ≡ rows
rows_in_scope rows ds is =
    ap (λ (d : List Declared). (scope_by d []).rows) (is ∙ reverse_map root_row rows)
    ∙ ap (λ (d : List Declared). map row_of_binding (reverse (map binding_told d))) (all_stand (reverse rows))
    ∙ ap (map row_of_binding) (reverse_map binding_told (map root_row (reverse rows)))
    ∙ ap (λ (d : List Declared). map row_of_binding (map binding_told d))
    (reverse_map root_row (reverse rows) ∙ ap (map root_row) (reverse-reverse rows))
    ∙ rows_back rows

pub scope_is : (scope : Scope) (rows : List Row) (declared ds : List Declared) → rows ≡ scope.rows → declared ≡ map root_row rows
    → ds ≡ reverse declared → scope_by ds [] ≡ scope
scope_is scope rows declared ds is made turned_is =
    let e : (scope_by ds []).rows ≡ scope.rows =
    rows_in_scope rows ds (turned_is ∙ ap reverse made) ∙ is in
    λ i. record { rows = e i }
