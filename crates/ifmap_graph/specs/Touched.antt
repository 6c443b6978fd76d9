-- The drafts of numbers' links, as one slot after another comes to be full or empty.
use Rattle.std.specs.Prelude.{◌≡◌, ◌≢◌, ◌&&◌, ◌++◌, ◌<◌, ℕ, Bool, true, false, not, List, [], Option, Some, None, is_some, cond, length}
use Rattle.std.specs.List.{cons_option, filter, filter_map, list_any}
use Rattle.slab.specs.Slab.{Slab, get}
use Rattle.ifmap_ident.specs.declared.items.Item.{Item}
use Rattle.ifmap_view.specs.declared.views.LinkSeen.{LinkSeen}
use Rattle.ifmap_graph.specs.declared.shelves.Shelf.{Shelf}
use Rattle.ifmap_graph.specs.declared.shelves.Shelves.{Shelves}
use Rattle.ifmap_graph.specs.Joined.{is_not_empty, joined_pair}
use Rattle.ifmap_graph.specs.Linked.{far_of, seen_at}
use Rattle.ifmap_graph.specs.Shelved.{list_at, slot_of_item}
use Rattle.ifmap_graph.specs.Sides.{Sides, list_next, list_now}
use Rattle.ifmap_graph.specs.Turning.{AreDrafted, NoOthers, sides_at}

module _ (slots : Slab Shelf) where
  -- whether a slot has something, and whether it is to have something
  abbrev pub full_now : ℕ → Bool
  full_now at = is_not_empty (list_at list_now (get slots at))

  abbrev pub full_next : ℕ → Bool
  full_next at = is_not_empty (list_at list_next (get slots at))

  -- whether a slot joins the number with another
  abbrev pub joins : ℕ → ℕ → Bool
  joins v at = is_some (far_of (joined_pair (get slots at)) v)

  -- the link that a slot brings to a number, which is empty and is to have something
  abbrev pub brought_link : ℕ → ℕ → Option LinkSeen
  brought_link v at = cond (full_next at && not (full_now at)) (seen_at at (far_of (joined_pair (get slots at)) v)) None

  -- the links of a number that stay
  abbrev pub links_kept : List LinkSeen → List LinkSeen
  links_kept links = filter (λ l. full_next l.at) links

  -- the draft of a number's links that there is, or one of those that stay
  abbrev pub begun_draft : Option (List LinkSeen) → List LinkSeen → List LinkSeen
  begun_draft None links = links_kept links
  begun_draft (Some draft) links = draft

  -- the draft after a slot was looked at
  abbrev pub touched_draft : ℕ → ℕ → Sides LinkSeen → Option (List LinkSeen)
  touched_draft at v sides = cond (joins v at) (Some (begun_draft sides.draft sides.now ++ cons_option (brought_link v at) [])) sides.draft

  -- the draft after these slots were looked at, where there was none
  abbrev pub draft_of : List ℕ → ℕ → List LinkSeen → Option (List LinkSeen)
  draft_of touched v links = cond (list_any (joins v) touched) (Some (links_kept links ++ filter_map (brought_link v) touched)) None

  -- the numbers that slots join have links, and are two
  abbrev pub ArePairs : ℕ → Type 0
  ArePairs n = (at v w : ℕ) → joined_pair (get slots at) ≡ Some (v, w) → (v < n) × (w < n) × (v ≢ w)

-- whether one of two is true, and not both
abbrev pub exactly_one : Bool → Bool → Bool
exactly_one true b = not b
exactly_one false b = b

-- a slot that comes to be full or empty
abbrev pub flip_in : Slab Shelf → Option ℕ → Option ℕ
flip_in slots None = None
flip_in slots (Some at) = cond (exactly_one (full_now slots at) (full_next slots at)) (Some at) None

-- the slot of an item, where it does
abbrev pub flipped_slot : Shelves → Item → Option ℕ
flipped_slot s x = flip_in s.slots (slot_of_item s x)

-- drafts stand at these places alone, each of which is named once
pub record AreExactlyDrafted (ways : List (ℕ × List LinkSeen)) (links : List (Sides LinkSeen)) : Type 0 where
  pub drafted : AreDrafted ways links
  pub no_others : NoOthers ways links

-- there are as many lists, and they are as they were
pub record KeepsLinks (old new : List (Sides LinkSeen)) : Type 0 where
  pub now : (v : ℕ) → (sides_at new v).now ≡ (sides_at old v).now
  pub long : length new ≡ length old

-- drafts come or go at one number alone
pub record TouchesOne (place : ℕ) (old new : List (Sides LinkSeen)) : Type 0 where
  pub kept : KeepsLinks old new
  pub others : (v : ℕ) → v ≢ place → sides_at new v ≡ sides_at old v
