-- What contracts see of a graph's inside, and what holds of it.
use Rattle.std.specs.Prelude.{ℕ, ◌+◌, ◌<◌, List, [], map, length, Option, None, IsSome, slice_index_or, nat_eq, refl}
use Rattle.std.specs.Coded.{Coded, code_by, coded×, coded_ℕ, coded_list, coded_option}
use Rattle.std.specs.List.{AllByRecursion, IsDistinct}
use Rattle.ifmap_lemmas.specs.Having.{Has}
use Rattle.ifmap_ident.specs.declared.identifiers.Identifier.{Identifier}
use Rattle.ifmap_ident.specs.declared.items.Item.{Item}
use Rattle.ifmap_ident.specs.Identifiers.{identifier_order}
use Rattle.ifmap_pool.specs.Holdings.{Holdings, IsHeld, IsPool, entry_at, holdings_code}
use Rattle.ifmap_plans.specs.Lists.{IsList}
use Rattle.ifmap_view.specs.declared.views.LinkSeen.{LinkSeen}
use Rattle.ifmap_graph.specs.declared.shelves.Shelf.{Shelf}
use Rattle.ifmap_graph.specs.Joined.{is_not_empty, joined_pair}
use Rattle.ifmap_graph.specs.Linked.{AreListed, link_places}
use Rattle.ifmap_graph.specs.Named.{AreHeld, AreIdentifiers, AreNumbered, uses_in}
use Rattle.ifmap_graph.specs.Shelved.{IsPlaced, StoredSide, list_at}
use Rattle.ifmap_graph.specs.Sides.{Sides, list_next, list_now, sides_code}

-- the shelves in the order of their items, the empty ones among them; the identifiers with their numbers; the links of each number on
-- both sides; and the slot of each item's shelf, in the same order
pub record GraphInside : Type 0 where
  pub shelves : List (Item × Option Shelf)
  pub names : Holdings Identifier
  pub links : List (Sides LinkSeen)
  pub places : List (Item × ℕ)

abbrev pub inside_code : Coded Item → Coded Shelf → Coded Identifier → Coded LinkSeen → Coded GraphInside
inside_code item shelf identifier link =
    code_by
    (List (Item × Option Shelf) × (Holdings Identifier × (List (Sides LinkSeen) × List (Item × ℕ))))
    (coded× (coded_list (coded× item (coded_option shelf))) (coded× (holdings_code identifier) (coded× (coded_list (sides_code link))
    (coded_list (coded× item coded_ℕ)))))
    (λ h. (h.shelves, (h.names, (h.links, h.places))))
    (λ p. record { shelves = p.0; names = p.1.0; links = p.1.1.0; places = p.1.1.1 })
    (λ _. refl)

-- the shelves of entries
abbrev pub shown_shelves : (ℕ → Option Shelf) → List (Item × ℕ) → List (Item × Option Shelf)
shown_shelves look entries = map (λ e. (e.0, look e.1)) entries

-- the links of a number on a side
abbrev pub links_at : (Sides LinkSeen → List LinkSeen) → List (Sides LinkSeen) → ℕ → List LinkSeen
links_at side links v = side (slice_index_or links v (record { now = []; draft = None }))

-- on a side: each list rises with its keys apart; a number's links are those whose shelves are not empty, each once
pub record IsSide (side : StoredSide) (look : ℕ → Option Shelf) (entries : List (Item × ℕ)) (links : ℕ → List LinkSeen) : Type 0 where
  pub lists : AllByRecursion (λ e. IsList (list_at side (look e.1))) entries
  pub listed : AreListed (λ at. joined_pair (look at)) (λ at. is_not_empty (list_at side (look at))) links
  pub once : (v : ℕ) → IsDistinct nat_eq (link_places (links v))

-- what holds of a graph's parts: each item has a shelf of its own with the numbers of its identifiers, and each shelf is an item's; the
-- numbers are a pool's, of identifiers that elements are, each held as often as entries name it, and as somebody holds it beside that; each
-- number has a list of links; and both sides are in order
pub record IsInside (names : Holdings Identifier) (look : ℕ → Option Shelf) (entries : List (Item × ℕ)) (links : List (Sides LinkSeen)) :
    Type 0 where
  pub placed : IsPlaced look entries
  pub used : (at : ℕ) → IsSome (look at) → (item : Item) × Has entries (item, at)
  pub numbered : AreNumbered names look entries
  pub pool : IsPool identifier_order names
  pub keys : AreIdentifiers names
  pub held : AreHeld names entries
  pub table : (v : ℕ) → IsSome (entry_at names v) → v < length links
  pub side : IsSide list_now look entries (links_at list_now links)
  pub next_side : IsSide list_next look entries (links_at list_next links)

-- an identifier is held so often by others than the shelves of the items that name it
abbrev pub IsOwn : GraphInside → Identifier → ℕ → Type 0
IsOwn h a own = IsHeld identifier_order h.names a (uses_in h.shelves a + own)
