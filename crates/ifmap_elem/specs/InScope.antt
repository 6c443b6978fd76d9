-- Which prefixes are in scope at an element: by the declarations that are read, and by the scope of the element's own names
-- (Namespaces in XML 1.0, section 6). `ResolvesAsDeclared` says that both are one.
use Rattle.std.specs.Prelude.{◌≡◌, ◌⊎◌, ℕ, Bool, true, not, ◌==◌, ◌||◌, if◌then◌else◌, List, [], ◌∷◌, ◌++◌, codes, length, reverse, map, filter, Option, Some, None}
use Rattle.std.specs.List.{slice_get, starts_with}
use Rattle.std.specs.Str.{bytes_eq}
use Rattle.ifmap_lemmas.specs.Items.{To}
use Rattle.ifmap_elem.specs.declared.elements.Child as the
use Rattle.ifmap_elem.specs.declared.elements.Element.{Element}
use Rattle.ifmap_elem.specs.declared.readings.Declared.{Declared}
use Rattle.ifmap_elem.specs.declared.readings.Reading.{Reading}
use Rattle.ifmap_elem.specs.declared.tokens.Tag.{Tag}
use Rattle.ifmap_elem.specs.declared.tokens.Token.{Token}
use Rattle.ifmap_elem.specs.Document as piece
use Rattle.ifmap_elem.specs.Document.{Pieces, Nothing, chain_pieces, tokens_of, heading, ContentItem, join_runs, is_child, AreItems, IsMargin}
use Rattle.ifmap_elem.specs.Scopes.{Binding, Scope, NamesElement, prefix_space, root_scope, scope_within}
use Rattle.ifmap_elem.specs.Spells.{without_byte_order_mark}
use Rattle.ifmap_elem.specs.Tokens.{TakesToken}

-- the binding that a declaration tells
abbrev pub binding_told : Declared → Binding
binding_told d = record { prefix = d.prefix; space = d.space }

-- the declarations at or round the element with this path, as bindings, the innermost first
abbrev pub declared_at : List ℕ → List Declared → Scope
declared_at path declared = reverse (map binding_told (filter (λ d. starts_with ◌==◌ path d.path) declared))

-- a prefix that is listed: neither the default nor `xml`
abbrev pub is_listed : List ℕ → Bool
is_listed prefix = not (length prefix == 0 || bytes_eq prefix (codes "xml"))

-- what a prefix is listed with: what the innermost of the bindings binds it to
abbrev pub listed_space : Scope → List ℕ → Option (List ℕ)
listed_space scope prefix = if is_listed prefix then prefix_space scope prefix else None

-- the first piece is an element with this tag and with these pieces in it
abbrev pub IsElementPiece : Pieces → Tag → Pieces → Pieces → Type 0
IsElementPiece pieces tag inside after = (pieces ≡ piece.Start tag inside after) ⊎ ((pieces ≡ piece.Empty tag after) × (inside ≡ Nothing))

-- how many children stand before an element that comes after these items
abbrev pub children_before : List ContentItem → ℕ
children_before items = length (filter (is_child true) (join_runs items))

-- among the pieces in an element, whose scope this is, the child with that index is an element with that tag and those pieces
pub record IsChildAt (scope : Scope) (inside : Pieces) (index : ℕ) (child : Tag) (within : Pieces) : Type 0 where
  pub before : Pieces
  pub element : Pieces
  pub after : Pieces
  pub items : List ContentItem
  pub inside_is : inside ≡ chain_pieces before element
  pub is_element : IsElementPiece element child within after
  pub mean : AreItems scope before items
  pub index_is : index ≡ children_before items

-- the path leads from an element with this tag and these pieces in it to one by whose own scope names are resolved there
abbrev pub LeadsTo : Scope → Tag → Pieces → List ℕ → Scope → Type 0
LeadsTo outer tag inside [] scope = scope ≡ scope_within outer tag
LeadsTo outer tag inside (index ∷ path) scope =
    (child : Tag) × (within : Pieces) × IsChildAt (scope_within outer tag) inside index child within
    × LeadsTo (scope_within outer tag) child within path scope

-- the bytes are a document in which the path names an element, and this is the element's own scope
pub record HasScope (bytes path : List ℕ) (scope : Scope) : Type 0 where
  pub tokens : List Token
  pub declared : Bool
  pub before : Pieces
  pub element : Pieces
  pub tag : Tag
  pub inside : Pieces
  pub after : Pieces
  pub lexed : To TakesToken (without_byte_order_mark bytes) tokens []
  pub tokens_are : tokens ≡ heading declared ++ tokens_of (chain_pieces before element)
  pub margin : IsMargin before
  pub is_element : IsElementPiece element tag inside after
  pub leads : LeadsTo root_scope tag inside path scope

-- what is listed for a prefix at a path, from the declarations that are read, is what the scope of the element there binds it to
abbrev pub ResolvesAsDeclared : List ℕ → Reading → Type 0
ResolvesAsDeclared bytes r =
    (path : List ℕ) (scope : Scope) → HasScope bytes path scope → (prefix : List ℕ)
    → listed_space (declared_at path r.declared) prefix ≡ listed_space scope prefix

-- the path of child indexes names this element: no index the root, and an index what the others name in the child element with it
abbrev pub NamesElementAt : Element → List ℕ → Element → Type 0
NamesElementAt root [] e = e ≡ root
NamesElementAt root (index ∷ path) e =
    (child : Element) × (slice_get root.children index ≡ Some (the.Element child)) × NamesElementAt child path e

-- the element's name and attributes are those that this scope, its own, resolves
pub record ResolvedIn (scope : Scope) (e : Element) : Type 0 where
  pub outer : Scope
  pub tag : Tag
  pub scope_is : scope ≡ scope_within outer tag
  pub named : NamesElement outer tag e.name e.attributes

-- each element that a path names in the reading has its own scope in the bytes
abbrev pub NamedHaveScopes : List ℕ → Reading → Type 0
NamedHaveScopes bytes r =
    (path : List ℕ) (e : Element) → NamesElementAt r.root path e → (scope : Scope) × HasScope bytes path scope × ResolvedIn scope e

-- each scope in the bytes is that of an element that the path names in the reading
abbrev pub ScopesAreNamed : List ℕ → Reading → Type 0
ScopesAreNamed bytes r =
    (path : List ℕ) (scope : Scope) → HasScope bytes path scope → (e : Element) × NamesElementAt r.root path e × ResolvedIn scope e
