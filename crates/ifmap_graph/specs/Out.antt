-- A change that is out: whose shelves and links have drafts.
use Rattle.std.specs.Prelude.{◌≡◌, List, map, length, Option, Some, IsSome}
use Rattle.std.specs.BTreeMap.{is_at}
use Rattle.std.specs.List.{AllByRecursion, IsDistinct}
use Rattle.std.specs.Map.{lookup}
use Rattle.std.specs.declared.cmp.Ordering.TheVariants.{Equal}
use Rattle.ifmap_lemmas.specs.Having.{Has}
use Rattle.ifmap_ident.specs.declared.items.Item.{Item}
use Rattle.ifmap_ident.specs.Items.{item_order, same_item}
use Rattle.ifmap_plans.specs.declared.plans.ItemChange.{ItemChange}
use Rattle.ifmap_graph.specs.declared.changes.Ready.{Ready}
use Rattle.ifmap_graph.specs.declared.shelves.Shelf.{Shelf}
use Rattle.ifmap_graph.specs.Inside.{GraphInside}
use Rattle.ifmap_graph.specs.Turning.{AreDrafted, NoOthers}

-- the items of changes
abbrev pub items_changed : List ItemChange → List Item
items_changed changes = map (λ c. c.item) changes

-- the shelf of an item has a draft
abbrev pub IsDrafted : List (Item × Option Shelf) → Item → Type 0
IsDrafted shelves x = (shelf : Shelf) × (lookup (is_at (item_order x)) shelves ≡ Some (Some shelf)) × IsSome shelf.stored.draft

-- the shelves of the change's items have drafts, and no others; so have the links of its numbers; and there is room for each list that
-- gives way
pub record IsOut (ready : Ready) (h : GraphInside) : Type 0 where
  pub drafted : AllByRecursion (IsDrafted h.shelves) (items_changed ready.plan.changes)
  pub within : (x : Item) → IsDrafted h.shelves x → (i : Item) × Has (items_changed ready.plan.changes) i × (item_order i x ≡ Equal)
  pub apart : IsDistinct same_item (items_changed ready.plan.changes)
  pub lists : length ready.lists ≡ length ready.plan.changes
  pub links : AreDrafted ready.ways h.links
  pub no_others : NoOthers ready.ways h.links
