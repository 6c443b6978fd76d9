-- Entries in their order: where one stands, and a set without it.
use Rattle.std.specs.Prelude.{◌≡◌, ◌<◌, ◌≤◌, ℕ, not, List, length, Result, MatchResult, set}
use Rattle.std.specs.List.{filter, insert, remove}
use Rattle.std.specs.Ordering.{eq_by_cmp}
use Rattle.ifmap_folds.specs.ifmap_plans.Placing.{put}
use Rattle.ifmap_search.specs.declared.results.Entry.{Entry}
use Rattle.ifmap_folds.specs.Differences.{entry_order}

-- a set without the entry
abbrev pub without_entry : Entry → List Entry → List Entry
without_entry e entries = filter (λ x. not (eq_by_cmp entry_order x e)) entries

-- the entry goes to that place of a set, over the one there, which it would take away; or in front of it, where none is taken away
abbrev pub IsEntryPlace : Entry → List Entry → Result ℕ ℕ → Type 0
IsEntryPlace e entries place =
    MatchResult place
    (λ i. (i < length entries) × (set entries i e ≡ put entry_order e entries) × (remove entries i ≡ without_entry e entries))
    (λ i. (i ≤ length entries) × (insert entries i e ≡ put entry_order e entries) × (entries ≡ without_entry e entries))
