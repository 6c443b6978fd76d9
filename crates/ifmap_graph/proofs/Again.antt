-- A shelf is written once more as it is: nothing changes.
use Rattle.std.proofs.Common.{◌≡◌, ℕ, Option, Some, None, List, set, ap, ◌∙◌, sym}
use Rattle.std.proofs.lemmas.List.{set-get_or}
use Rattle.slab.specs.Slab.{Slab, get, with_value}
use Rattle.ifmap_graph.specs.declared.shelves.Shelf.{Shelf}

pub written_again : (slots : Slab Shelf) (at : ℕ) (s : Shelf) → get slots at ≡ Some s → with_value slots at s ≡ slots
written_again slots at s had =
    ap (λ (o : Option Shelf). record slots { slots = set slots.slots at o }) (sym had)
    ∙ ap (λ (l : List (Option Shelf)). record slots { slots = l }) (set-get_or slots.slots at None)
