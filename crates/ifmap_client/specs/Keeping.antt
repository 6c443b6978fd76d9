-- The sets that a client keeps, as they stand in memory: names with their sets, and what they are as a function.
use Rattle.std.specs.Prelude.{ℕ, List, Option, Some, None}
use Rattle.std.specs.BTreeMap.{BTreeMap, get, is_at}
use Rattle.std.specs.Cmp.Lexicographic.{slice_cmp}
use Rattle.std.specs.Map.{lookup}
use Rattle.std.specs.Ordering.{nat_cmp}
use Rattle.ifmap_search.specs.declared.results.Entry.{Entry}
use Rattle.ifmap_folds.specs.Folds.{Sets, no_sets, set_under}

-- names, each with its set
abbrev pub Kept : Type 0
Kept = List (List ℕ × List Entry)

-- the set of each name that has one
abbrev pub sets_of : Kept → Sets
sets_of kept name = lookup (is_at (slice_cmp nat_cmp name)) kept

-- the same, of a map
abbrev pub kept_sets : BTreeMap (List ℕ) (List Entry) → Sets
kept_sets m = get (slice_cmp nat_cmp) m

-- without the set of that name, or without all where none is named
abbrev pub without_sets : Option (List ℕ) → Sets → Sets
without_sets (Some name) sets = set_under name None sets
without_sets None sets = no_sets
