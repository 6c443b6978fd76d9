-- Slots that join numbers, and the items that stand there.
use Rattle.std.specs.Prelude.{◌≡◌, ℕ, List, Option, Some, None}
pub use Rattle.ifmap_lemmas.specs.Emptiness.{full_some, is_not_empty, some_full}
use Rattle.ifmap_lemmas.specs.Having.{Has}
use Rattle.ifmap_ident.specs.declared.identifiers.Identifier.{Identifier}
use Rattle.ifmap_ident.specs.declared.items.Item.{Item}
use Rattle.ifmap_ident.specs.declared.items.Item.TheVariants.{One, Pair}
use Rattle.ifmap_ident.specs.Identifiers.{identifier_bytes}
use Rattle.ifmap_graph.specs.declared.ends.ItemEnds.{ItemEnds}
use Rattle.ifmap_graph.specs.declared.ends.ItemEnds.TheVariants as ends
use Rattle.ifmap_graph.specs.declared.shelves.Shelf.{Shelf}

-- the two numbers of a link
abbrev pub two_of : ItemEnds → Option (ℕ × ℕ)
two_of (ends.One v) = None
two_of (ends.Pair v w) = Some (v, w)

-- the numbers that a slot joins: those of a link whose shelf it has
abbrev pub joined_pair : Option Shelf → Option (ℕ × ℕ)
joined_pair None = None
joined_pair (Some shelf) = two_of shelf.ends

-- the number is that of the identifier: its bytes are those of the number's
abbrev pub IsNumber : (ℕ → Option Identifier) → ℕ → Identifier → Type 0
IsNumber id_at v a = (k : Identifier) × (id_at v ≡ Some k) × (identifier_bytes k ≡ identifier_bytes a)

-- numbers whose identifiers have the same bytes are one
abbrev pub AreSingle : (ℕ → Option Identifier) → Type 0
AreSingle id_at = (v w : ℕ) (a b : Identifier) → id_at v ≡ Some a → id_at w ≡ Some b → identifier_bytes a ≡ identifier_bytes b → v ≡ w

-- a lone identifier has a number; the slot of a link joins the numbers of its ends, and no other slot joins
pub record AreJoined (entries : List (Item × ℕ)) (id_at : ℕ → Option Identifier) (joins : ℕ → Option (ℕ × ℕ)) : Type 0 where
  pub ones : (a : Identifier) (at : ℕ) → Has entries (One a, at) → (v : ℕ) × IsNumber id_at v a
  pub pairs : (a b : Identifier) (at : ℕ) → Has entries (Pair a b, at)
      → (v : ℕ) × (w : ℕ) × (joins at ≡ Some (v, w)) × IsNumber id_at v a × IsNumber id_at w b
  pub only : (at v w : ℕ) → joins at ≡ Some (v, w)
      → (a : Identifier) × (b : Identifier) × Has entries (Pair a b, at) × IsNumber id_at v a × IsNumber id_at w b
