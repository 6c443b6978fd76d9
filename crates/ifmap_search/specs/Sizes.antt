-- The sizes of results and of what a poll is told, in bytes: what max-size and max-poll-result-size are compared with (IF-MAP
-- binding for SOAP 2.2, search, newSession and poll).
use Rattle.std.specs.Prelude.{ℕ, ◌+◌, List, length, sum_by}
use Rattle.ifmap_elem.specs.Canonical.{canonical_bytes}
use Rattle.ifmap_ident.specs.Items.{item_size}
use Rattle.ifmap_search.specs.declared.results.Entry.{Entry}
use Rattle.ifmap_search.specs.declared.results.PollItem.{PollItem}
use Rattle.ifmap_search.specs.declared.results.PollItem.TheVariants as the_item

-- the size of an entry: the canonical bytes of its identifiers and of its element, each printed alone
unfoldable pub entry_size : Entry → ℕ
entry_size e = item_size e.item + length (canonical_bytes e.element)

-- the size of a result; the tags around its entries do not count
abbrev pub entries_size : List Entry → ℕ
entries_size entries = sum_by entry_size entries

-- what an item that is to be told counts beside its entries
abbrev pub size_beside_entries : ℕ
size_beside_entries = 100

-- the size of an item that is to be told: this, and that of its entries
abbrev pub poll_size : PollItem → ℕ
poll_size (the_item.Search name entries) = size_beside_entries + entries_size entries
poll_size (the_item.Update name entries) = size_beside_entries + entries_size entries
poll_size (the_item.Delete name entries) = size_beside_entries + entries_size entries
poll_size (the_item.Notify name entries) = size_beside_entries + entries_size entries
poll_size (the_item.Error name code note) = size_beside_entries

-- the size of a queue
abbrev pub queue_size : List PollItem → ℕ
queue_size queue = sum_by poll_size queue
