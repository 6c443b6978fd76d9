-- How many elements of one type an item can carry (IF-MAP binding for SOAP, version 2.2: `ifmap-cardinality`).
use Rattle.std.specs.Prelude.{Bool, cond, ◌&&◌, codes, Option, None, Some}
use Rattle.std.specs.List.{list_any}
use Rattle.std.specs.Str.{bytes_eq}
use Rattle.ifmap_elem.specs.Building.{is_bare}
use Rattle.ifmap_elem.specs.declared.elements.Attribute.{Attribute}
use Rattle.ifmap_elem.specs.declared.elements.Element.{Element}
use Rattle.ifmap_meta.specs.declared.metadata.Cardinality.{Cardinality}
use Rattle.ifmap_meta.specs.declared.metadata.Cardinality.TheVariants.{Single, Multi}

-- says that there is one at most
abbrev pub is_single_value : Attribute → Bool
is_single_value a = is_bare (codes "ifmap-cardinality") a.name && bytes_eq a.value (codes "singleValue")

-- says that there may be many
abbrev pub is_multi_value : Attribute → Bool
is_multi_value a = is_bare (codes "ifmap-cardinality") a.name && bytes_eq a.value (codes "multiValue")

-- an item carries one element of this type at most
abbrev pub is_single : Element → Bool
is_single e = list_any is_single_value e.attributes

-- an item may carry many elements of this type
abbrev pub is_multi : Element → Bool
is_multi e = list_any is_multi_value e.attributes

-- what the element says of its cardinality, where it says one
abbrev pub cardinality_of : Element → Option Cardinality
cardinality_of e = cond (is_single e) (Some Single) (cond (is_multi e) (Some Multi) None)
