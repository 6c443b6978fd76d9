-- What a list of tokens is as a document: XML 1.0 (fifth edition), sections 2.1, 2.4, 2.8, 3 and 3.1.
use Rattle.std.specs.Prelude.{◌≡◌, ℕ, ◌+◌, Bool, true, false, not, ◌==◌, if◌then◌else◌, List, [], ◌∷◌, ◌++◌, length, map, filter}
use Rattle.std.specs.List.{list_all, list_any}
use Rattle.ifmap_elem.specs.declared.elements.Child as the
use Rattle.ifmap_elem.specs.declared.elements.Element.{Element}
use Rattle.ifmap_elem.specs.declared.readings.Declared.{Declared}
use Rattle.ifmap_elem.specs.declared.readings.Reading.{Reading}
use Rattle.ifmap_elem.specs.Chars.{is_white}
use Rattle.ifmap_elem.specs.Scopes.{Scope, Binding, root_scope, scope_within, bindings, NamesElement}
use Rattle.ifmap_elem.specs.declared.tokens.Tag.{Tag}
use Rattle.ifmap_elem.specs.declared.tokens.Token.{Token}
use Rattle.ifmap_elem.specs.declared.tokens.Token.TheVariants as token

-- what stands between two tags, piece by piece: a comment, characters, a section, an empty element, or a start tag with what stands
-- in its element; each constructor ends with the pieces after it. Characters are blank where their own bytes are white space alone
pub data Pieces : Type 0 where
  Nothing : Pieces
  Comment : Pieces → Pieces
  Characters : (blank : Bool) (text : List ℕ) → Pieces → Pieces
  Section : (text : List ℕ) → Pieces → Pieces
  Empty : Tag → Pieces → Pieces
  Start : Tag → (inside : Pieces) → Pieces → Pieces

-- its tokens: the element of a start tag ends with an end tag of the same name
abbrev pub tokens_of : Pieces → List Token
tokens_of Nothing = []
tokens_of (Comment after) = token.Comment ∷ tokens_of after
tokens_of (Characters blank text after) = token.Characters blank text ∷ tokens_of after
tokens_of (Section text after) = token.Section text ∷ tokens_of after
tokens_of (Empty tag after) = token.Empty tag ∷ tokens_of after
tokens_of (Start tag inside after) = token.Start tag ∷ (tokens_of inside ++ (token.End tag.name ∷ tokens_of after))

-- pieces, and others after them
abbrev pub chain_pieces : Pieces → Pieces → Pieces
chain_pieces Nothing others = others
chain_pieces (Comment after) others = Comment (chain_pieces after others)
chain_pieces (Characters blank text after) others = Characters blank text (chain_pieces after others)
chain_pieces (Section text after) others = Section text (chain_pieces after others)
chain_pieces (Empty tag after) others = Empty tag (chain_pieces after others)
chain_pieces (Start tag inside after) others = Start tag inside (chain_pieces after others)

-- a piece by what it means: a child element with the declarations in it, their paths from it on, or text
pub data ContentItem : Type 0 where
  Inner : Element → List Declared → ContentItem
  Run : List ℕ → ContentItem

abbrev pub is_inner : ContentItem → Bool
is_inner (Inner e declared) = true
is_inner (Run text) = false

-- texts beside each other are one text
abbrev pub put_before : List ℕ → List ContentItem → List ContentItem
put_before text [] = Run text ∷ []
put_before text (Run more ∷ items) = Run (text ++ more) ∷ items
put_before text (Inner e declared ∷ items) = Run text ∷ (Inner e declared ∷ items)

abbrev pub join_runs : List ContentItem → List ContentItem
join_runs [] = []
join_runs (Run text ∷ items) = put_before text (join_runs items)
join_runs (Inner e declared ∷ items) = Inner e declared ∷ join_runs items

-- white space alone is no child beside an element, and an empty text is none anywhere
abbrev pub is_child : (beside : Bool) → ContentItem → Bool
is_child beside (Inner e declared) = true
is_child beside (Run text) = if beside then not (list_all is_white text) else not (length text == 0)

-- the items that are children
abbrev pub children_among : List ContentItem → List ContentItem
children_among items = filter (is_child (list_any is_inner items)) (join_runs items)

abbrev pub child_of : ContentItem → the.Child
child_of (Inner e declared) = the.Element e
child_of (Run text) = the.Text text

-- the declarations that a tag makes, at the element itself
abbrev pub declared_here : List Binding → List Declared
declared_here bs = map (λ b. record { path = []; prefix = b.prefix; space = b.space }) bs

-- a declaration as the parent sees it, at the child with that index
abbrev pub from_above : ℕ → Declared → Declared
from_above index d = record { path = index ∷ d.path; prefix = d.prefix; space = d.space }

-- the declarations in the children from that index on
abbrev pub declared_below : ℕ → List ContentItem → List Declared
declared_below index [] = []
declared_below index (Inner e declared ∷ items) = map (from_above index) declared ++ declared_below (index + 1) items
declared_below index (Run text ∷ items) = declared_below (index + 1) items

-- the element of an allowed tag over these items, with the declarations in it
pub record IsElement (outer : Scope) (tag : Tag) (items : List ContentItem) (e : Element) (declared : List Declared) : Type 0 where
  pub named : NamesElement outer tag e.name e.attributes
  pub children_are : e.children ≡ map child_of (children_among items)
  pub declared_are : declared ≡ declared_here (bindings tag) ++ declared_below 0 (children_among items)

-- the pieces mean these items
abbrev pub AreItems : Scope → Pieces → List ContentItem → Type 0
AreItems scope Nothing items = items ≡ []
AreItems scope (Comment after) items = AreItems scope after items
AreItems scope (Characters blank text after) items = (others : List ContentItem) × (items ≡ Run text ∷ others) × AreItems scope after others
AreItems scope (Section text after) items = (others : List ContentItem) × (items ≡ Run text ∷ others) × AreItems scope after others
AreItems scope (Empty tag after) items =
    (e : Element) × (declared : List Declared) × (others : List ContentItem) × (items ≡ Inner e declared ∷ others)
    × IsElement scope tag [] e declared × AreItems scope after others
AreItems scope (Start tag inside after) items =
    (inner : List ContentItem) × (e : Element) × (declared : List Declared) × (others : List ContentItem)
    × (items ≡ Inner e declared ∷ others)
    × AreItems (scope_within scope tag) inside inner × IsElement scope tag inner e declared × AreItems scope after others

-- comments and white space alone, in their own bytes
abbrev pub IsMargin : Pieces → Type 0
IsMargin Nothing = Unit {0}
IsMargin (Comment after) = IsMargin after
IsMargin (Characters blank text after) = (blank ≡ true) × IsMargin after
IsMargin (Section text after) = ⊥
IsMargin (Empty tag after) = ⊥
IsMargin (Start tag inside after) = ⊥

-- one element that means this, between margins
pub record IsRoot (pieces : Pieces) (r : Reading) : Type 0 where
  pub before : Pieces
  pub element : Pieces
  pub after : Pieces
  pub pieces_are : pieces ≡ chain_pieces before (chain_pieces element after)
  pub margin_before : IsMargin before
  pub means : AreItems root_scope element (Inner r.root r.declared ∷ [])
  pub margin_after : IsMargin after

-- a declaration, or none
abbrev pub heading : (declared : Bool) → List Token
heading true = token.Declaration ∷ []
heading false = []

-- the tokens are a document that means this
pub record IsDocument (ts : List Token) (r : Reading) : Type 0 where
  pub declared : Bool
  pub pieces : Pieces
  pub tokens_are : ts ≡ heading declared ++ tokens_of pieces
  pub rooted : IsRoot pieces r
