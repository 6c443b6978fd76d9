-- The numbers of an item's identifiers, and how often entries name an identifier.
use Rattle.std.specs.Prelude.{◌≡◌, ◌≤◌, ℕ, ◌+◌, ◌-◌, List, [], ◌∷◌, Option, Some, None}
use Rattle.std.specs.List.{AllByRecursion}
use Rattle.ifmap_ident.specs.declared.identifiers.Identifier.{Identifier}
use Rattle.ifmap_ident.specs.declared.items.Item.{Item}
use Rattle.ifmap_ident.specs.declared.items.Item.TheVariants.{One, Pair}
use Rattle.ifmap_ident.specs.Canon.{IsIdentifier}
use Rattle.ifmap_ident.specs.Identifiers.{identifier_order}
use Rattle.ifmap_ident.specs.Items.{identifiers_of}
use Rattle.ifmap_pool.specs.Holdings.{Holdings, IsHeld, IsPool, Names, key_at, once}
use Rattle.ifmap_graph.specs.declared.ends.ItemEnds.{ItemEnds}
use Rattle.ifmap_graph.specs.declared.ends.ItemEnds.TheVariants as ends
use Rattle.ifmap_graph.specs.declared.shelves.Shelf.{Shelf}

-- the numbers of an item's identifiers, as a pool has them
abbrev pub AreEnds : Holdings Identifier → Item → ItemEnds → Type 0
AreEnds names (One a) (ends.One v) = Names identifier_order names v a
AreEnds names (Pair a b) (ends.Pair v w) = Names identifier_order names v a × Names identifier_order names w b
AreEnds names (One a) (ends.Pair v w) = ⊥
AreEnds names (Pair a b) (ends.One v) = ⊥

-- a shelf has the numbers of an item's identifiers
abbrev pub HasEnds : Holdings Identifier → Item → Option Shelf → Type 0
HasEnds names item None = ⊥
HasEnds names item (Some shelf) = AreEnds names item shelf.ends

-- so has that of each entry
abbrev pub AreNumbered : Holdings Identifier → (ℕ → Option Shelf) → List (Item × ℕ) → Type 0
AreNumbered names look entries = AllByRecursion (λ e. HasEnds names e.0 (look e.1)) entries

-- how often an item names an identifier
abbrev pub uses_of : Item → Identifier → ℕ
uses_of (One a) other = once identifier_order a other
uses_of (Pair a b) other = once identifier_order a other + once identifier_order b other

-- how often entries do
abbrev pub uses_in : {X : Type 0} → List (Item × X) → Identifier → ℕ
uses_in [] other = 0
uses_in (e ∷ es) other = uses_of e.0 other + uses_in es other

-- the keys of a pool are identifiers of elements
abbrev pub AreIdentifiers : Holdings Identifier → Type 0
AreIdentifiers names = (v : ℕ) (a : Identifier) → key_at names v ≡ Some a → IsIdentifier a

-- each identifier is held once for each entry that names it, and as often beside that as somebody holds it
abbrev pub AreHeld : {X : Type 0} → Holdings Identifier → List (Item × X) → Type 0
AreHeld names entries = (a : Identifier) → (own : ℕ) × IsHeld identifier_order names a (uses_in entries a + own)

-- an item's identifiers have these numbers, and each is held once more as often as the item names it; other numbers stay, and it stays
-- a pool of identifiers with its limit
pub record HoldsEnds (old new : Holdings Identifier) (item : Item) (numbers : ItemEnds) : Type 0 where
  pub numbered : AreEnds new item numbers
  pub held : (other : Identifier) (count : ℕ) → IsHeld identifier_order old other count
      → IsHeld identifier_order new other (count + uses_of item other)
  pub kept : (number : ℕ) (other : Identifier) → Names identifier_order old number other → Names identifier_order new number other
  pub keys : AllByRecursion IsIdentifier (identifiers_of item) → AreIdentifiers old → AreIdentifiers new
  pub limit : new.limit ≡ old.limit
  pub whole : IsPool identifier_order new

-- what these numbers name is held once less as often as their item names it; no number comes, no room goes, and it stays a pool of
-- identifiers with its limit
pub record LetsEndsGo (old new : Holdings Identifier) (numbers : ItemEnds) : Type 0 where
  pub held : (item : Item) (other : Identifier) (count : ℕ) → AreEnds old item numbers → IsHeld identifier_order old other count
      → IsHeld identifier_order new other (count - uses_of item other)
  pub before : (number : ℕ) (other : Identifier) → Names identifier_order new number other → Names identifier_order old number other
  pub keys : AreIdentifiers old → AreIdentifiers new
  pub limit : new.limit ≡ old.limit
  pub spare : old.spare ≤ new.spare
  pub whole : IsPool identifier_order new
