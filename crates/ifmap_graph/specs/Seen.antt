-- What contracts see of a graph: what is stored and the links of each number, as they are and as they are to be; and what is waited for.
use Rattle.std.specs.Prelude.{◌≡◌, ◌≢◌, ◌⊎◌, ◌<◌, ◌^◌, ◌≤◌, ◌++◌, ℕ, List, [], Option, None, Some, IsSome}
use Rattle.std.specs.BTreeMap.{is_at}
use Rattle.std.specs.Map.{lookup}
use Rattle.ifmap_lemmas.specs.Having.{Has}
use Rattle.ifmap_ident.specs.declared.identifiers.Identifier.{Identifier}
use Rattle.ifmap_ident.specs.declared.items.Item.{Item}
use Rattle.ifmap_ident.specs.Canon.{IsIdentifier}
use Rattle.ifmap_ident.specs.Items.{identifiers_of, item_order}
use Rattle.ifmap_pool.specs.Holdings.{key_at}
use Rattle.ifmap_view.specs.declared.attachments.Attachment.{Attachment}
use Rattle.ifmap_view.specs.declared.views.LinkSeen.{LinkSeen}
use Rattle.ifmap_view.specs.Rows.{stored_on}
use Rattle.ifmap_graph.specs.declared.shelves.Shelf.{Shelf}
use Rattle.ifmap_graph.specs.Inside.{GraphInside, IsOwn, links_at}
use Rattle.ifmap_graph.specs.Out.{IsDrafted}
use Rattle.ifmap_graph.specs.Shelved.{list_at, rows_by}
use Rattle.ifmap_graph.specs.Sides.{list_next, list_now}
use Rattle.ifmap_graph.specs.Turning.{sides_at}
use Rattle.ifmap_graph.specs.Waits.{times_in, waits_of}

-- what is stored, and what is to be
abbrev pub rows_now : GraphInside → List Attachment
rows_now h = rows_by (list_at list_now) h.shelves

abbrev pub rows_next : GraphInside → List Attachment
rows_next h = rows_by (list_at list_next) h.shelves

-- the links of a number, and those that are to be
abbrev pub links_now : GraphInside → ℕ → List LinkSeen
links_now h = links_at list_now h.links

abbrev pub links_next : GraphInside → ℕ → List LinkSeen
links_next h = links_at list_next h.links

-- no change is out: nothing has a draft
pub record IsStill (h : GraphInside) : Type 0 where
  pub shelves : (x : Item) → IsDrafted h.shelves x → ⊥
  pub links : (v : ℕ) → (sides_at h.links v).draft ≡ None

-- how often the shelf of an item is waited for
abbrev pub waits_there_in : Option (Option Shelf) → ℕ
waits_there_in None = 0
waits_there_in (Some shelf) = waits_of shelf

abbrev pub waits_in : GraphInside → Item → ℕ
waits_in h x = waits_there_in (lookup (is_at (item_order x)) h.shelves)

-- each of these items is waited for, as often as it stands here
abbrev pub AreAwaited : List Item → GraphInside → Type 0
AreAwaited items h = (x : Item) → times_in items x ≤ waits_in h x

-- fewer than 2^32 hold each identifier beside the items that name it
abbrev pub HasFewOwn : GraphInside → Type 0
HasFewOwn h = (a : Identifier) → (own : ℕ) × IsOwn h a own × (own < 2 ^ 32)

-- each number that has an identifier has it still
abbrev pub KeepsNumbers : GraphInside → GraphInside → Type 0
KeepsNumbers old new = (v : ℕ) (a : Identifier) → key_at old.names v ≡ Some a → key_at new.names v ≡ Some a

-- each number that has an identifier had it before
abbrev pub BringsNoNumbers : GraphInside → GraphInside → Type 0
BringsNoNumbers old new = KeepsNumbers new old

-- others hold each identifier as often as before
abbrev pub KeepsOwn : GraphInside → GraphInside → Type 0
KeepsOwn old new = (a : Identifier) (own : ℕ) → IsOwn old a own → IsOwn new a own

-- these items are waited for once more, and once less
abbrev pub AwaitsMore : List Item → GraphInside → GraphInside → Type 0
AwaitsMore items old new = (rest : List Item) → AreAwaited rest old → AreAwaited (items ++ rest) new

abbrev pub AwaitsLess : List Item → GraphInside → GraphInside → Type 0
AwaitsLess items old new = (rest : List Item) → AreAwaited (items ++ rest) old → AreAwaited rest new

-- the item has a shelf
abbrev pub HasShelf : GraphInside → Item → Type 0
HasShelf h x = IsSome (lookup (is_at (item_order x)) h.shelves)

-- nothing is left behind beside what is out: no item is waited for more often than it stands here, and a shelf that is not waited for has
-- something on it
pub record IsLean (items : List Item) (h : GraphInside) : Type 0 where
  pub waits : (x : Item) → waits_in h x ≤ times_in items x
  pub full : (x : Item) → HasShelf h x → waits_in h x ≡ 0 → stored_on x (rows_now h) ≢ []

-- nothing is left behind where nothing was: as items come to be out, as they are out no longer, and as they stay
abbrev pub StaysLeanWith : List Item → GraphInside → GraphInside → Type 0
StaysLeanWith items old new = (rest : List Item) → IsLean rest old → IsLean (items ++ rest) new

abbrev pub StaysLeanWithout : List Item → GraphInside → GraphInside → Type 0
StaysLeanWithout items old new = (rest : List Item) → IsLean (items ++ rest) old → IsLean rest new

abbrev pub StaysLean : GraphInside → GraphInside → Type 0
StaysLean = StaysLeanWith []

-- a change of these items is done with: none is out, they are waited for once less, no number comes, others hold as before, nothing is left
pub record IsDoneWith (items : List Item) (old new : GraphInside) : Type 0 where
  pub still : IsStill new
  pub numbers : BringsNoNumbers old new
  pub own : KeepsOwn old new
  pub waits : AwaitsLess items old new
  pub lean : StaysLeanWithout items old new

-- an identifier has a number
abbrev pub HasPoolNumber : GraphInside → Identifier → Type 0
HasPoolNumber h a = (v : ℕ) × (key_at h.names v ≡ Some a)

-- it stands in an item that carries an attachment
abbrev pub IsAttached : List Attachment → Identifier → Type 0
IsAttached rows a = (r : Attachment) × Has rows r × Has (identifiers_of r.item) a

-- others than items hold it: however often they do, it is not never
abbrev pub IsHeldBeside : GraphInside → Identifier → Type 0
IsHeldBeside h a = (own : ℕ) → IsOwn h a own → 0 < own

-- the identifiers that have numbers are those that stand in an item with an attachment or that others hold
pub record AreUsed (h : GraphInside) : Type 0 where
  pub only : (a : Identifier) → HasPoolNumber h a → IsAttached (rows_now h) a ⊎ IsHeldBeside h a
  pub each : (a : Identifier) → IsIdentifier a → IsAttached (rows_now h) a ⊎ IsHeldBeside h a → HasPoolNumber h a

-- all that others see is the same
pub record IsSeenSame (old new : GraphInside) : Type 0 where
  pub rows : rows_now new ≡ rows_now old
  pub links : (v : ℕ) → links_now new v ≡ links_now old v
  pub numbers : (v : ℕ) → key_at new.names v ≡ key_at old.names v
  pub own : KeepsOwn old new
  pub waits : AwaitsMore [] old new
  pub lean : StaysLean old new
