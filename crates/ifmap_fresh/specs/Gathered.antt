-- Attachments and entries, item by item. No public clause cites this module.
use Rattle.std.specs.Prelude.{◌≡◌, ℕ, ◌+◌, length, if◌then◌else◌, Bool, false, List, [], ◌∷◌, map, Option}
use Rattle.std.specs.List.{AllByRecursion, filter, flat_map, list_any}
use Rattle.std.specs.Ordering.{is_gt}
use Rattle.ifmap_elem.specs.Canonical.{canonical_bytes}
use Rattle.ifmap_search.specs.ifmap_filter.declared.filters.Filter.{Filter}
use Rattle.ifmap_search.specs.ifmap_filter.Meets.{meets_optional}
use Rattle.ifmap_ident.specs.declared.items.Item.{Item}
use Rattle.ifmap_ident.specs.Items.{item_order, same_item}
use Rattle.ifmap_meta.specs.declared.stored.Stored.{Stored}
use Rattle.ifmap_search.specs.declared.results.Entry.{Entry}
use Rattle.ifmap_view.specs.Attachments.{row_on}
use Rattle.ifmap_view.specs.declared.attachments.Attachment.{Attachment}
use Rattle.ifmap_view.specs.Rows.{stored_on}

-- the items do not fall along the list
abbrev pub IsGrouped : List Attachment → Type 0
IsGrouped [] = Unit {0}
IsGrouped (r ∷ rs) = AllByRecursion (λ s. is_gt (item_order r.item s.item) ≡ false) rs × IsGrouped rs

abbrev pub has_item : List Item → Item → Bool
has_item items x = list_any (λ i. same_item x i) items

-- what stands on each of the items, one item after the other
abbrev pub gathered_rows : List Attachment → List Item → List Attachment
gathered_rows rows items = flat_map (λ i. map (row_on i) (stored_on i rows)) items

abbrev pub stored_entry : Item → Stored → Entry
stored_entry item stored = record { item = item; element = stored.element }

-- the entries of an item: what is stored on it and meets the filter
abbrev pub entries_of : Option Filter → Item → List Stored → List Entry
entries_of filter_by item stored = map (stored_entry item) (filter (λ s. meets_optional filter_by s.element) stored)

-- the entries of some items, one item after the other
abbrev pub entries_on : Option Filter → List Attachment → List Item → List Entry
entries_on filter_by rows items = flat_map (λ i. entries_of filter_by i (stored_on i rows)) items

-- what a row of an item of that size adds to the size of a result
abbrev pub row_size : ℕ → Option Filter → Stored → ℕ
row_size own filter_by stored = if meets_optional filter_by stored.element then own + length (canonical_bytes stored.element) else 0
