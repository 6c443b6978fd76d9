-- Which namespaces names stand for, and which tags are allowed: Namespaces in XML 1.0, sections 3, 5 and 6.
use Rattle.std.specs.Prelude.{◌≡◌, ◌≢◌, ◌↔◌, ℕ, ◌&&◌, if◌then◌else◌, List, [], ◌∷◌, ◌++◌, map, codes, filter, Option, Some, None, is_none}
use Rattle.std.specs.List.{AllByRecursion, filter_map}
use Rattle.std.specs.Str.{bytes_eq}
use Rattle.ifmap_elem.specs.declared.elements.Attribute.{Attribute}
use Rattle.ifmap_elem.specs.declared.elements.Name.{Name}
use Rattle.ifmap_elem.specs.declared.tokens.Assignment.{Assignment}
use Rattle.ifmap_elem.specs.declared.tokens.Tag.{Tag}

-- no two members are equal
abbrev pub AllDiffer : {X : Type 0} → List X → Type 0
AllDiffer [] = Unit {0}
AllDiffer (x ∷ xs) = AllByRecursion (λ y. x ≢ y) xs × AllDiffer xs

-- the namespace to which `xml` is bound, and the one that no prefix may be bound to
abbrev pub xml_space : List ℕ
xml_space = codes "http://www.w3.org/XML/1998/namespace"

abbrev pub xmlns_space : List ℕ
xmlns_space = codes "http://www.w3.org/2000/xmlns/"

-- a prefix and what it is bound to; the empty prefix is the default, the empty namespace is none
pub record Binding : Type 0 where
  pub prefix : List ℕ
  pub space : List ℕ

-- the bindings that hold at a place, the innermost first, and those that hold at the root
abbrev pub Scope : Type 0
Scope = List Binding

-- a binding as a row: its prefix, then its namespace
abbrev pub row_of_binding : Binding → List ℕ × List ℕ
row_of_binding b = (b.prefix, b.space)

abbrev pub root_scope : Scope
root_scope = record { prefix = codes "xml"; space = xml_space } ∷ (record { prefix = []; space = [] } ∷ [])

-- what a prefix is bound to, by the innermost binding
abbrev pub prefix_space : Scope → List ℕ → Option (List ℕ)
prefix_space [] prefix = None
prefix_space (b ∷ bs) prefix = if bytes_eq b.prefix prefix then Some b.space else prefix_space bs prefix

-- the binding that an assignment makes: of the default by `xmlns`, of a prefix by that prefix after `xmlns:`
abbrev pub binding_of : Assignment → Option Binding
binding_of a =
    if bytes_eq a.name.prefix (codes "xmlns") then Some (record { prefix = a.name.local; space = a.value })
    else (if bytes_eq a.name.prefix [] && bytes_eq a.name.local (codes "xmlns") then Some
    (record { prefix = []; space = a.value }) else None)

-- the bindings that a tag makes, in order
abbrev pub bindings : Tag → List Binding
bindings tag = filter_map binding_of tag.assignments

-- the assignments of a tag that bind no prefix: those of its attributes
abbrev pub plain_assignments : Tag → List Assignment
plain_assignments tag = filter (λ a. is_none (binding_of a)) tag.assignments

-- what holds within a tag's element
abbrev pub scope_within : Scope → Tag → Scope
scope_within outer tag = bindings tag ++ outer

-- a binding that a tag may make: never of `xmlns`, nor to its namespace; of `xml` to its own namespace and no other
-- prefix to that; of a prefix to some namespace
pub record IsBinding (b : Binding) : Type 0 where
  pub no_xmlns : b.prefix ≢ codes "xmlns"
  pub no_xmlns_space : b.space ≢ xmlns_space
  pub xml_alone : (b.prefix ≡ codes "xml") ↔ (b.space ≡ xml_space)
  pub some_space : b.prefix ≢ [] → b.space ≢ []

-- an attribute without a prefix is in no namespace
abbrev pub attribute_space : Scope → List ℕ → Option (List ℕ)
attribute_space scope [] = Some []
attribute_space scope (b ∷ bs) = prefix_space scope (b ∷ bs)

-- the attribute that an assignment gives
pub record IsAttribute (scope : Scope) (a : Assignment) (attribute : Attribute) : Type 0 where
  pub space_is : attribute_space scope a.name.prefix ≡ Some attribute.name.space
  pub local_is : attribute.name.local ≡ a.name.local
  pub value_is : attribute.value ≡ a.value

-- the attributes that assignments give, in order
abbrev pub AreAttributes : Scope → List Assignment → List Attribute → Type 0
AreAttributes scope [] [] = Unit {0}
AreAttributes scope [] (t ∷ ts) = ⊥
AreAttributes scope (a ∷ as') [] = ⊥
AreAttributes scope (a ∷ as') (t ∷ ts) = IsAttribute scope a t × AreAttributes scope as' ts

-- the tag is allowed, and these are its element's name and attributes
pub record NamesElement (outer : Scope) (tag : Tag) (name : Name) (attributes : List Attribute) : Type 0 where
  pub binds : AllByRecursion IsBinding (bindings tag)
  pub binds_once : AllDiffer (map (λ b. b.prefix) (bindings tag))
  pub space_is : prefix_space (scope_within outer tag) tag.name.prefix ≡ Some name.space
  pub local_is : name.local ≡ tag.name.local
  pub attributes_are : AreAttributes (scope_within outer tag) (plain_assignments tag) attributes
  pub names_differ : AllDiffer (map (λ t. t.name) attributes)
