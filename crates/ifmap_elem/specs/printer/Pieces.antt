-- What printing a piece of an element adds, where a namespace is numbered as soon as a name in it is printed.
use Rattle.std.specs.Prelude.{◌≡◌, ℕ, ◌⊎◌, List, [], ◌∷◌, ◌++◌, map, true, None}
use Rattle.std.specs.List.{flat_map}
use Rattle.std.specs.Map.{lookup}
use Rattle.std.specs.Option.{is_some}
use Rattle.std.specs.Str.{bytes_eq}
use Rattle.ifmap_elem.specs.declared.elements.Attribute.{Attribute}
use Rattle.ifmap_elem.specs.declared.elements.Child.{Child}
use Rattle.ifmap_elem.specs.declared.elements.Element.{Element}
use Rattle.ifmap_elem.specs.declared.elements.Name.{Name}
use Rattle.ifmap_elem.specs.Arranged.{arrange, arrange_child}
use Rattle.ifmap_elem.specs.Canonical.{after_attributes_bytes, attribute_bytes, child_bytes, element_bytes, printed_name}
use Rattle.ifmap_elem.specs.Namespaces.{spaces_of, spaces_of_child, name_prefixes, AddsSpaces, IsFront}

-- all namespaces that are numbered in the end, where these are numbered by now; the lack of one is none of them
pub record AreFinal (spaces final : List (List ℕ)) : Type 0 where
  pub begins : IsFront spaces final
  pub none_bare : lookup (bytes_eq []) (name_prefixes final) ≡ None

-- no namespace, or one that has a prefix
abbrev pub IsNumbered : List (List ℕ) → List ℕ → Type 0
IsNumbered spaces space = (space ≡ []) ⊎ (is_some (lookup (bytes_eq space) (name_prefixes spaces)) ≡ true)

-- the piece's namespaces are numbered after the old ones, and its bytes, by the prefixes of all that are numbered in the
-- end, stand after the bytes before
pub record Adds (old spaces new : List (List ℕ)) (piece : List (List ℕ × List ℕ) → List ℕ) (before after : List ℕ) : Type 0 where
  pub added : AddsSpaces old spaces new
  pub extends : IsFront old new
  pub written : (final : List (List ℕ)) → AreFinal new final → after ≡ before ++ piece (name_prefixes final)

-- a name
abbrev pub AddsName : Name → List (List ℕ) → List (List ℕ) → List ℕ → List ℕ → Type 0
AddsName name old new before after = Adds old (name.space ∷ []) new (λ rows. printed_name rows name) before after

-- an attribute
abbrev pub AddsAttribute : Attribute → List (List ℕ) → List (List ℕ) → List ℕ → List ℕ → Type 0
AddsAttribute a old new before after = Adds old (a.name.space ∷ []) new (λ rows. attribute_bytes rows a) before after

-- attributes, as they stand
abbrev pub AddsAttributes : List Attribute → List (List ℕ) → List (List ℕ) → List ℕ → List ℕ → Type 0
AddsAttributes list old new before after =
    Adds old (map (λ a. a.name.space) list) new (λ rows. flat_map (attribute_bytes rows) list) before after

-- an element below the root, arranged
abbrev pub AddsElement : Element → List (List ℕ) → List (List ℕ) → List ℕ → List ℕ → Type 0
AddsElement e old new before after = Adds old (spaces_of (arrange e)) new (λ rows. element_bytes rows (arrange e)) before after

-- a child, arranged
abbrev pub AddsChild : Child → List (List ℕ) → List (List ℕ) → List ℕ → List ℕ → Type 0
AddsChild c old new before after =
    Adds old (spaces_of_child (arrange_child c)) new (λ rows. child_bytes rows (arrange_child c)) before after

-- what follows the attributes of an element of this name with these children, arranged
abbrev pub AddsContent : Name → List Child → List (List ℕ) → List (List ℕ) → List ℕ → List ℕ → Type 0
AddsContent name children old new before after =
    Adds old (flat_map (λ c. spaces_of_child (arrange_child c)) children) new
    (λ rows. after_attributes_bytes (printed_name rows name) (map (λ c. child_bytes rows (arrange_child c)) children)) before after
