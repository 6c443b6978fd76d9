-- The items of identifiers that a view may lack.
use Rattle.std.specs.Prelude.{List, [], ◌∷◌, Option, None, Some}
use Rattle.ifmap_ident.specs.declared.identifiers.Identifier.{Identifier}
use Rattle.ifmap_ident.specs.declared.items.Item.{Item}
use Rattle.ifmap_ident.specs.declared.items.Item.TheVariants.{One}
use Rattle.ifmap_ident.specs.Items.{pair_of}

-- the item of an identifier, where there is one
abbrev pub item_alone : Option Identifier → List Item
item_alone None = []
item_alone (Some a) = One a ∷ []

-- the item of two identifiers, where there are both and they differ
abbrev pub pair_at : Option Identifier → Option Identifier → Option Item
pair_at None b = None
pair_at (Some a) None = None
pair_at (Some a) (Some b) = pair_of a b
