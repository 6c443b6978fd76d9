-- The items that a search looks at, number by number. No public clause cites this module.
use Rattle.std.specs.Prelude.{◌≡◌, ◌≢◌, true, ℕ, Bool, false, not, ◌&&◌, List, [], ◌++◌, Option, None, Some, map, nat_lt}
use Rattle.std.specs.Prelude.{if◌then◌else◌, option_and_then}
use Rattle.std.specs.List.{cons_option, filter_map, flat_map}
use Rattle.std.specs.List.Sorted.{IsStrictlySortedBy}
use Rattle.ifmap_ident.specs.declared.identifiers.Identifier.{Identifier}
use Rattle.ifmap_ident.specs.declared.items.Item.{Item}
use Rattle.ifmap_ident.specs.Items.{item_order}
use Rattle.ifmap_lemmas.specs.Having.{Has}
use Rattle.ifmap_search.specs.declared.searches.Search.{Search}
use Rattle.ifmap_view.specs.declared.attachments.Attachment.{Attachment}
use Rattle.ifmap_view.specs.declared.views.LinkSeen.{LinkSeen}
use Rattle.ifmap_ident.specs.Items.{IsCanonItem}
use Rattle.ifmap_view.specs.Rows.{stored_on}
use Rattle.ifmap_fresh.specs.Fresh.{is_looked_at}
use Rattle.ifmap_fresh.specs.Gathered.{has_item}
use Rattle.ifmap_fresh.specs.Items.{item_alone, pair_at}
use Rattle.ifmap_fresh.specs.Linking.{end_where, is_terminal_at}

-- the mark is of a walk that has room for one link more
abbrev pub is_below : ℕ → Option ℕ → Bool
is_below top None = false
is_below top (Some k) = nat_lt k top

-- the numbers of marks
abbrev pub numbers_of : List (ℕ × Option ℕ) → List ℕ
numbers_of marks = map (λ e. e.0) marks

-- a list of what there is
abbrev pub item_list : Option Item → List Item
item_list item = cons_option item []

module _ (rows : List Attachment) (id_at : ℕ → Option Identifier) (links : ℕ → List LinkSeen) (s : Search) (mark : ℕ → Option ℕ) where
  -- walks go on from the number
  abbrev pub is_passed : ℕ → Bool
  is_passed v = is_below s.max_depth (mark v) && not (is_terminal_at s.terminal (id_at v))

  -- the item of the link between two numbers; none where the lesser one brings it
  abbrev pub item_to : ℕ → ℕ → Option Item
  item_to v w = if nat_lt w v && is_passed w then None else pair_at (id_at v) (id_at w)

  -- the item that a link of a number brings, where there is one
  abbrev pub item_at : ℕ → Option LinkSeen → Option Item
  item_at v seen = option_and_then (item_to v) (end_where rows id_at s.match_links v seen)

  abbrev pub item_along : ℕ → LinkSeen → Option Item
  item_along v seen = item_at v (Some seen)

  -- the items that a number brings: its own, and where walks go on from it, those of its matching links
  abbrev pub items_of_number : ℕ → List Item
  items_of_number v = item_alone (id_at v) ++ (if is_passed v then filter_map (item_along v) (links v) else [])

  -- the items that some numbers bring
  abbrev pub items_of_numbers : List ℕ → List Item
  items_of_numbers numbers = flat_map items_of_number numbers

-- items that a search looks at, in order; among them all that carry something
pub record AreLookedAt (rows : List Attachment) (s : Search) (items : List Item) : Type 0 where
  pub rising : IsStrictlySortedBy item_order items
  pub there : (x : Item) → Has items x → is_looked_at rows s x ≡ true
  pub back : (x : Item) → IsCanonItem x → stored_on x rows ≢ [] → is_looked_at rows s x ≡ true → has_item items x ≡ true
  pub canon : (x : Item) → Has items x → IsCanonItem x
