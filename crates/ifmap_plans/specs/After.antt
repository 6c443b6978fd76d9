-- Items in order: the first above another that carries an attachment.
use Rattle.std.specs.Prelude.{◌≡◌, ◌≢◌, List, [], ◌∷◌, not, Option, Some, None}
use Rattle.std.specs.List.{filter}
use Rattle.std.specs.declared.cmp.Ordering.TheVariants.{Less}
use Rattle.ifmap_ident.specs.declared.items.Item.{Item}
use Rattle.ifmap_ident.specs.Items.{item_order, same_item}
use Rattle.ifmap_view.specs.declared.attachments.Attachment.{Attachment}
use Rattle.ifmap_view.specs.Rows.{stored_on}

-- the item is above the other, where there is one
abbrev pub IsAbove : Option Item → Item → Type 0
IsAbove None x = Unit {0}
IsAbove (Some a) x = item_order a x ≡ Less

-- the least item above another, or of all, that carries an attachment
pub record IsNextItem (rows : List Attachment) (after : Option Item) (item : Item) : Type 0 where
  pub above : IsAbove after item
  pub carries : stored_on item rows ≢ []
  pub least : (other : Item) → IsAbove after other → stored_on other rows ≢ [] → item_order other item ≡ Less → ⊥

-- no item above it carries one
abbrev pub NoItem : List Attachment → Option Item → Type 0
NoItem rows after = (other : Item) → IsAbove after other → stored_on other rows ≡ []

-- the items that carry attachments, each once
abbrev pub items_of : List Attachment → List Item
items_of [] = []
items_of (r ∷ rows) = r.item ∷ filter (λ x. not (same_item r.item x)) (items_of rows)
