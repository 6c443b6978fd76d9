-- Entries by the item that they are on: consecutive entries on one item are told together.
use Rattle.std.specs.Prelude.{ℕ, suc, if◌then◌else◌, List, [], ◌∷◌, map}
use Rattle.std.specs.List.{flat_map}
use Rattle.ifmap_elem.specs.declared.elements.Element.{Element}
use Rattle.ifmap_ident.specs.declared.items.Item.{Item}
use Rattle.ifmap_ident.specs.Items.{same_item}
use Rattle.ifmap_search.specs.declared.results.Entry.{Entry}
use Rattle.ifmap_replies.specs.declared.runs.Run.{Run}

abbrev pub run_on : Item → List Element → Run
run_on item elements = record { item = item; elements = elements }

-- an entry joins the run after it where both are on one item, and is a run of its own where they are not
abbrev pub joined_runs : Entry → List Run → List Run
joined_runs entry [] = run_on entry.item (entry.element ∷ []) ∷ []
joined_runs entry (run ∷ runs) =
    if same_item entry.item run.item
    then run_on entry.item (entry.element ∷ run.elements) ∷ runs
    else run_on entry.item (entry.element ∷ []) ∷ (run ∷ runs)

-- the runs of consecutive entries on one item
abbrev pub runs_of : List Entry → List Run
runs_of [] = []
runs_of (entry ∷ entries) = joined_runs entry (runs_of entries)

abbrev pub entry_on : Item → Element → Entry
entry_on item element = record { item = item; element = element }

-- the entries of a run
abbrev pub run_entries : Run → List Entry
run_entries run = map (entry_on run.item) run.elements

-- the entries of runs
abbrev pub entries_in_runs : List Run → List Entry
entries_in_runs runs = flat_map run_entries runs

-- ---- how long a run is

-- how many entries go on with the run of the one before them
abbrev pub run_length : Entry → List Entry → ℕ
run_length last [] = 0
run_length last (entry ∷ entries) = if same_item last.item entry.item then suc (run_length entry entries) else 0

abbrev pub entry_elements : List Entry → List Element
entry_elements entries = map (λ entry. entry.element) entries
