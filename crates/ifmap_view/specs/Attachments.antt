-- Attachments: their order, their keys, and the lists that are graphs.
use Rattle.std.specs.Prelude.{ℕ, Bool, ◌&&◌, List}
use Rattle.std.specs.Cmp.Lexicographic.{slice_cmp}
use Rattle.std.specs.List.{AllByRecursion, IsDistinct}
use Rattle.std.specs.List.Sorted.{IsStrictlySortedBy}
use Rattle.std.specs.Ordering.{nat_cmp, on, then_cmp}
use Rattle.std.specs.declared.cmp.Ordering.{Ordering}
use Rattle.ifmap_elem.specs.Canonical.{canonical_bytes}
use Rattle.ifmap_ident.specs.declared.items.Item.{Item}
use Rattle.ifmap_ident.specs.Items.{IsCanonItem, item_order, same_item}
use Rattle.ifmap_meta.specs.declared.stored.Stored.{Stored}
use Rattle.ifmap_meta.specs.Keys.{same_key}
use Rattle.ifmap_view.specs.declared.attachments.Attachment.{Attachment}

-- a stored element on an item
abbrev pub row_on : Item → Stored → Attachment
row_on item stored = record { item = item; stored = stored }

-- the canonical bytes of a stored element
unfoldable pub stored_bytes : Stored → List ℕ
stored_bytes s = canonical_bytes s.element

-- the order of what is stored on one item: by the canonical bytes
abbrev pub stored_order : Stored → Stored → Ordering
stored_order = on stored_bytes (slice_cmp nat_cmp)

-- the order of attachments: by their items, and on one item by what is stored
abbrev pub attachment_order : Attachment → Attachment → Ordering
attachment_order = then_cmp (on (λ a. a.item) item_order) (on (λ a. a.stored) stored_order)

-- two attachments have one key: they stand on one item, and are of one key there
abbrev pub of_one_key : Attachment → Attachment → Bool
of_one_key a b = same_item a.item b.item && same_key a.stored b.stored

-- what holds of every graph: its items are such, it rises strictly, and no two attachments have one key
pub record IsGraph (rows : List Attachment) : Type 0 where
  pub items : AllByRecursion (λ r. IsCanonItem r.item) rows
  pub rising : IsStrictlySortedBy attachment_order rows
  pub keys : IsDistinct of_one_key rows
