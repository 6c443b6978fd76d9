-- Paths that lie turned.
use Rattle.std.proofs.Common.{◌≡◌, ◌∙◌, ℕ, List, [], ◌∷◌, ◌++◌, ap, sym, refl, map, reverse}
use Rattle.std.proofs.lemmas.List.{append_assoc, append-nil, map-append, reverse-append}
use Rattle.ifmap_elem.specs.Document.{declared_here, from_above}
use Rattle.ifmap_elem.specs.Scopes.{Binding}
use Rattle.ifmap_elem.specs.declared.readings.Declared.{Declared}
use Rattle.ifmap_reader.specs.ReversedPaths.{lengthen, reverse_path}

-- one index more at the end of the turned paths is one more in front
pub raised_rows : (above : List ℕ) (index : ℕ) (rows : List Declared)
    → map (reverse_path (above ++ index ∷ [])) rows ≡ map (from_above index) (map (reverse_path above) rows)
raised_rows above index [] = refl
raised_rows above index (d ∷ rows) = λ i. record {
  path = (ap reverse (sym (append_assoc d.path above (index ∷ []))) ∙ reverse-append (d.path ++ above) (index ∷ [])) i;
  prefix = d.prefix;
  space = d.space;
} ∷ raised_rows above index rows i

-- paths that are whole go on with nothing
pub whole_rows : (above : List ℕ) (rows : List Declared) → map (reverse_path []) (map (lengthen above) rows) ≡ map (reverse_path above) rows
whole_rows above [] = refl
whole_rows above (d ∷ rows) = λ i. record {
  path = reverse (append-nil (d.path ++ above) i);
  prefix = d.prefix;
  space = d.space;
} ∷ whole_rows above rows i

pub rows_after : (rows : List Declared) (above : List ℕ) (more : List Declared)
    → map (reverse_path []) (rows ++ map (lengthen above) more) ≡ map (reverse_path []) rows ++ map (reverse_path above) more
rows_after rows above more =
    map-append (reverse_path []) rows (map (lengthen above) more) ∙ ap (λ ds. map (reverse_path []) rows ++ ds) (whole_rows above more)

-- a declaration at the element itself has nothing to turn
pub own_rows : (bs : List Binding) → map (reverse_path []) (declared_here bs) ≡ declared_here bs
own_rows [] = refl
own_rows (b ∷ bs) = ap (λ ds. record { path = []; prefix = b.prefix; space = b.space } ∷ ds) (own_rows bs)
