use Rattle.std.proofs.Common.{◌≡◌, ◌++◌, codes, length, take}
use Rattle.std.specs.Fmt.{decimal}
use Rattle.std.specs.List.{flat_map}
use Rattle.ifmap_client_script.specs.Printing.{entry_line}
use Rattle.ifmap_client_script.proofs.printing.entries_text.Given as goal

abbrev pub invariant-loop-entry : goal.invariant-loop-entry
invariant-loop-entry l =
    l.text.items
    ≡ codes "#" ++ decimal (length l.entries) ++ codes "\n" ++ flat_map entry_line (take l.entry-index l.entries)
