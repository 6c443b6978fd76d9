-- Lists that lag behind others by one change.
use Rattle.std.specs.Prelude.{◌≡◌, List}
use Rattle.ifmap_meta.specs.declared.stored.Stored.{Stored}
use Rattle.ifmap_plans.specs.Lists.{next_on}
use Rattle.ifmap_graph.specs.declared.spares.Spare.{Spare}

-- the change that a list lags by makes it this one
abbrev pub AreBehind : Spare → List Stored → Type 0
AreBehind spare list = next_on spare.removed spare.added spare.rows ≡ list
