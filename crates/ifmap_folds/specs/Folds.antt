-- The sets that a client keeps of its subscriptions, folded from what its polls were told.
use Rattle.std.specs.Prelude.{ℕ, List, [], ◌∷◌, Option, Some, None, option_map, unwrap_or}
use Rattle.std.specs.Map.{update}
use Rattle.std.specs.Str.{bytes_eq}
use Rattle.ifmap_plans.specs.Placing.{put}
use Rattle.ifmap_fresh.specs.ifmap_search.declared.results.Entry.{Entry}
use Rattle.ifmap_fresh.specs.ifmap_search.declared.results.PollItem.{PollItem}
use Rattle.ifmap_fresh.specs.ifmap_search.declared.results.PollItem.TheVariants as the_item
use Rattle.ifmap_folds.specs.Differences.{difference, entry_order}

-- a set for each name that has one, in the order of entries
abbrev pub Sets : Type 0
Sets = List ℕ → Option (List Entry)

-- no name has a set
abbrev pub no_sets : Sets
no_sets name = None

-- a set with each of these entries in its place
abbrev pub with_entries : List Entry → List Entry → List Entry
with_entries [] set = set
with_entries (e ∷ entries) set = with_entries entries (put entry_order e set)

-- the sets with another one, or none, under a name
abbrev pub set_under : List ℕ → Option (List Entry) → Sets → Sets
set_under name set sets = update bytes_eq sets name set

-- the sets after one item: a result begins a set, what came is added and what went is taken out, what was notified
-- changes nothing, and an error ends the set that it names, or all
abbrev pub fold_item : PollItem → Sets → Sets
fold_item (the_item.Search name entries) sets = set_under name (Some (with_entries entries [])) sets
fold_item (the_item.Update name entries) sets = set_under name (Some (with_entries entries (unwrap_or (sets name) []))) sets
fold_item (the_item.Delete name entries) sets = set_under name (option_map (λ set. difference set entries) (sets name)) sets
fold_item (the_item.Notify name entries) sets = sets
fold_item (the_item.Error (Some name) code note) sets = set_under name None sets
fold_item (the_item.Error None code note) sets = no_sets

-- the sets after some items, one after the other
abbrev pub fold_items : List PollItem → Sets → Sets
fold_items [] sets = sets
fold_items (item ∷ items) sets = fold_items items (fold_item item sets)
