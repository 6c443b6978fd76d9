-- Items: what metadata stands on, an identifier or a link of two.
use Rattle.std.specs.Prelude.{◌≡◌, ℕ, Bool, List, [], ◌∷◌, Option, None, Some, length, map}
use Rattle.std.specs.Cmp.Lexicographic.{lists_ties, pointwise, slice_cmp, texts_ties}
use Rattle.std.specs.List.{AllByRecursion, sum}
use Rattle.std.specs.Ordering.{eq_by_cmp, on}
use Rattle.std.specs.declared.cmp.Ordering.{Ordering}
use Rattle.std.specs.declared.cmp.Ordering.TheVariants.{Less, Equal, Greater}
use Rattle.ifmap_ident.specs.declared.identifiers.Identifier.{Identifier}
use Rattle.ifmap_ident.specs.declared.items.Item.{Item}
use Rattle.ifmap_ident.specs.declared.items.Item.TheVariants.{One, Pair}
use Rattle.ifmap_ident.specs.Canon.{IsIdentifier}
use Rattle.ifmap_ident.specs.Identifiers.{identifier_bytes, identifier_order, same_identifier}

-- the identifiers of an item
abbrev pub identifiers_of : Item → List Identifier
identifiers_of (One a) = a ∷ []
identifiers_of (Pair a b) = a ∷ (b ∷ [])

-- a pair is two different identifiers, the smaller first
abbrev pub IsItem : Item → Type 0
IsItem (One a) = Unit {0}
IsItem (Pair a b) = identifier_order a b ≡ Less

-- an item, each identifier of which some element is that a document can have
pub record IsCanonItem (x : Item) : Type 0 where
  pub ordered : IsItem x
  pub identifiers : AllByRecursion IsIdentifier (identifiers_of x)

-- two identifiers by how they compare, as a pair
abbrev pub ordered_pair : Ordering → Identifier → Identifier → Option Item
ordered_pair Less a b = Some (Pair a b)
ordered_pair Equal a b = None
ordered_pair Greater a b = Some (Pair b a)

-- the pair of two identifiers, the smaller first; none where they are equal
abbrev pub pair_of : Identifier → Identifier → Option Item
pair_of a b = ordered_pair (identifier_order a b) a b

-- whether two items have the same identifiers
abbrev pub same_item : Item → Item → Bool
same_item = on identifiers_of (pointwise same_identifier)

-- the order of items: as lists of identifiers, so one identifier comes before each pair that begins with it
abbrev pub item_order : Item → Item → Ordering
item_order = on identifiers_of (slice_cmp identifier_order)

-- the same items are those that the order does not tell apart
pub items_tie : (x y : Item) → same_item x y ≡ eq_by_cmp item_order x y
items_tie x y = lists_ties identifier_order (λ a b. texts_ties (identifier_bytes a) (identifier_bytes b)) (identifiers_of x)
    (identifiers_of y)

-- the lengths of the canonical bytes of an item's identifiers, together
abbrev pub item_size : Item → ℕ
item_size item = sum (map (λ i. length (identifier_bytes i)) (identifiers_of item))
