-- What one result has and another has not.
use Rattle.std.specs.Prelude.{ℕ, Bool, not, ◌&&◌, List}
use Rattle.std.specs.Cmp.Lexicographic.{slice_cmp}
use Rattle.std.specs.List.{filter, list_any}
use Rattle.std.specs.Ordering.{nat_cmp, on, then_cmp}
use Rattle.std.specs.Str.{bytes_eq}
use Rattle.std.specs.declared.cmp.Ordering.{Ordering}
use Rattle.ifmap_elem.specs.Canonical.{canonical_bytes}
use Rattle.ifmap_elem.specs.declared.elements.Element.{Element}
use Rattle.ifmap_ident.specs.Items.{item_order, same_item}
use Rattle.ifmap_fresh.specs.ifmap_search.declared.results.Entry.{Entry}

-- the canonical bytes of an entry's element
unfoldable pub entry_bytes : Entry → List ℕ
entry_bytes e = canonical_bytes e.element

-- two entries are one: they stand on one item, and their elements have the same canonical bytes
abbrev pub same_entry : Entry → Entry → Bool
same_entry a b = same_item a.item b.item && bytes_eq (entry_bytes a) (entry_bytes b)

abbrev pub has_entry : List Entry → Entry → Bool
has_entry entries e = list_any (same_entry e) entries

-- the entries of the first list that are not in the second, in their order
abbrev pub difference : List Entry → List Entry → List Entry
difference a b = filter (λ e. not (has_entry b e)) a

-- the order of a result: by the items, and on one item by the canonical bytes of the elements
abbrev pub entry_order : Entry → Entry → Ordering
entry_order = then_cmp (on (λ e. e.item) item_order) (on entry_bytes (slice_cmp nat_cmp))
