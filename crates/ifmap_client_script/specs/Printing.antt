-- What is written for what is done.
use Rattle.std.specs.Prelude.{ℕ, List, [], ◌∷◌, ◌++◌, codes, length, Option, Some, None}
use Rattle.std.specs.Fmt.{decimal}
use Rattle.std.specs.List.{flat_map}
use Rattle.ifmap_elem.specs.Canonical.{canonical_bytes}
use Rattle.ifmap_replies.specs.Results.{run_element}
use Rattle.ifmap_replies.specs.Runs.{run_on}
use Rattle.ifmap_search.specs.declared.results.Entry.{Entry}
use Rattle.ifmap_client_script.specs.Deeds.{Deed, Known, after_deed}
use Rattle.ifmap_client_script.specs.Deeds as deed

-- `=`, the length of a body, a newline and the body
abbrev pub body_text : List ℕ → List ℕ
body_text body = codes "=" ++ decimal (length body) ++ codes "\n" ++ body

-- the canonical bytes of a `resultItem` with that entry alone, and a newline
unfoldable pub entry_line : Entry → List ℕ
entry_line entry = canonical_bytes (run_element (run_on entry.item (entry.element ∷ []))) ++ codes "\n"

-- `#`, the number of entries and a newline, and a line for each entry
abbrev pub entries_text : List Entry → List ℕ
entries_text entries = codes "#" ++ decimal (length entries) ++ codes "\n" ++ flat_map entry_line entries

-- a set as it is printed, which is `none` where there is none
abbrev pub set_text : Option (List Entry) → List ℕ
set_text None = codes "none\n"
set_text (Some entries) = entries_text entries

-- what is written for a deed
abbrev pub deed_text : Known → Deed → List ℕ
deed_text known deed.passed = []
deed_text known (deed.asked a) = body_text a.body
deed_text known (deed.printed name) = set_text (known.sets name)

-- what is written for some deeds, one after the other
abbrev pub deeds_text : Known → List Deed → List ℕ
deeds_text known [] = []
deeds_text known (done ∷ deeds) = deed_text known done ++ deeds_text (after_deed done known) deeds
