-- How a document goes on from where a reader stands, and what one more token makes of that.
use Rattle.std.specs.Prelude.{◌≡◌, ◌↔◌, ℕ, ◌+◌, ◌<◌, ◌≤◌, Bool, true, false, cond, ◌⊎◌, List, [], ◌∷◌, ◌++◌, length, reverse, Result, Ok, Err}
use Rattle.ifmap_elem.specs.Document.{Pieces, tokens_of, ContentItem, AreItems, IsMargin, IsDocument}
use Rattle.ifmap_elem.specs.laws.Roots.{BeginsWithRoot}
use Rattle.ifmap_elem.specs.Nesting.{nesting}
use Rattle.ifmap_elem.specs.Places.{is_start, is_end, Opens}
use Rattle.ifmap_elem.specs.Scopes.{Scope}
use Rattle.ifmap_elem.specs.declared.elements.Element.{Element}
use Rattle.ifmap_elem.specs.declared.readings.Declared.{Declared}
use Rattle.ifmap_elem.specs.declared.readings.Reading.{Reading}
use Rattle.ifmap_elem.specs.declared.tokens.Qualified.{Qualified}
use Rattle.ifmap_elem.specs.declared.tokens.Token.{Token}
use Rattle.ifmap_elem.specs.declared.tokens.Token.TheVariants.{Declaration, Comment, Start, Empty, End, Section, Characters}
use Rattle.ifmap_reader.specs.Depths.{levels}
use Rattle.ifmap_reader.specs.OpenElements.{AreLinked, Closes, scope_of, with_inner, written_name}
use Rattle.ifmap_reader.specs.declared.errors.TokenRefusal.{TokenRefusal}
use Rattle.ifmap_reader.specs.declared.errors.TokenRefusal.TheVariants.{NotAllowed, TooDeep, NoMemory}
use Rattle.ifmap_reader.specs.declared.open_elements.OpenElement.{OpenElement}
use Rattle.ifmap_reader.specs.declared.progress.DocumentProgress.{DocumentProgress}
use Rattle.ifmap_reader.specs.declared.progress.DocumentProgress.TheVariants as standing

-- where a reader stands: at the start, within some open elements, the innermost first and none before the root, or after the root
pub data Where : Type 0 where
  AtStart : Where
  Within : List OpenElement → Where
  AfterRoot : Reading → Where

abbrev pub where_is : DocumentProgress → Where
where_is standing.Start = AtStart
where_is (standing.Open open_elements) = Within (reverse open_elements)
where_is (standing.Done r) = AfterRoot r.value

-- the tokens are the rest of an open element's pieces, its end tag, and what Then says of the element that ended
pub record EndsElement (scope : Scope) (f : OpenElement) (ts : List Token)
    (Then : Element → List Declared → List Token → Type 0) : Type 0 where
  pub inside : Pieces
  pub rest : List Token
  pub items : List ContentItem
  pub element : Element
  pub declared : List Declared
  pub tokens_are : ts ≡ tokens_of inside ++ (End (written_name f) ∷ rest)
  pub means : AreItems scope inside items
  pub closes : Closes f items element declared
  pub goes_on : Then element declared rest

-- the tokens end a document after this root
pub record EndsDocument (root : Reading) (ts : List Token) (r : Reading) : Type 0 where
  pub after : Pieces
  pub tokens_are : ts ≡ tokens_of after
  pub margin : IsMargin after
  pub same : root ≡ r

-- the tokens end an open element, those round it, and the document
abbrev pub Closing : OpenElement → List OpenElement → List Token → Reading → Type 0
Closing f [] ts r = EndsElement (scope_of (f ∷ [])) f ts (λ e declared rest. EndsDocument (record { root = e; declared = declared }) rest r)
Closing f (g ∷ gs) ts r = EndsElement (scope_of (f ∷ (g ∷ gs))) f ts (λ e declared rest. Closing (with_inner g e declared) gs rest r)

-- the tokens are a document from before its root on
pub record BeginsRoot (ts : List Token) (r : Reading) : Type 0 where
  pub pieces : Pieces
  pub tokens_are : ts ≡ tokens_of pieces
  pub rooted : BeginsWithRoot pieces r

-- the tokens go on from there to a document that means this
abbrev pub IsDocumentFrom : Where → List Token → Reading → Type 0
IsDocumentFrom AtStart ts r = IsDocument ts r
IsDocumentFrom (Within []) ts r = BeginsRoot ts r
IsDocumentFrom (Within (f ∷ fs)) ts r = Closing f fs ts r
IsDocumentFrom (AfterRoot root) ts r = EndsDocument root ts r

-- what goes on after the token goes on before it with the token in front, and the other way
abbrev pub Follows : Where → Token → Where → Type 0
Follows old t new = (ts : List Token) (r : Reading) → (IsDocumentFrom old (t ∷ ts) r ↔ IsDocumentFrom new ts r)

-- after an element that ended within these
abbrev pub after_element : List OpenElement → Element → List Declared → Where
after_element [] e declared = AfterRoot (record { root = e; declared = declared })
after_element (g ∷ gs) e declared = Within (with_inner g e declared ∷ gs)

-- a token of text that means this, with its own bytes white space alone or not
abbrev pub IsCharacterData : Bool → List ℕ → Token → Type 0
IsCharacterData blank text t = (t ≡ Characters blank text) ⊎ ((blank ≡ false) × (t ≡ Section text))

-- the token may stand beside the root: a comment, or white space alone in its own bytes
abbrev pub is_margin : Token → Bool
is_margin Declaration = false
is_margin Comment = true
is_margin (Start tag) = false
is_margin (Empty tag) = false
is_margin (End name) = false
is_margin (Section text) = false
is_margin (Characters blank text) = blank

-- how many elements are open
abbrev pub open_in : Where → ℕ
open_in AtStart = 0
open_in (Within open_elements) = length open_elements
open_in (AfterRoot root) = 0

-- how deep what was read nests
abbrev pub depth_read : Where → ℕ
depth_read AtStart = 0
depth_read (Within open_elements) = levels open_elements
depth_read (AfterRoot root) = nesting root.root

-- one, where it is so
abbrev pub one_if : Bool → ℕ
one_if b = cond b 1 0

-- what is open there is linked
abbrev pub IsLinked : Where → Type 0
IsLinked AtStart = Unit {0}
IsLinked (Within open_elements) = AreLinked open_elements
IsLinked (AfterRoot root) = Unit {0}

-- the token leads from there to here, within that many levels
pub record Leads (depth : ℕ) (old : Where) (t : Token) (new : Where) : Type 0 where
  pub follows : Follows old t new
  pub fits : depth_read old ≤ depth → depth_read new ≤ depth
  pub counts : open_in old + one_if (is_start t) ≡ open_in new + one_if (is_end t)
  pub within : Opens t → open_in old < depth
  pub linked : IsLinked old → IsLinked new

-- the token is a tag that is allowed but opens a level more than that many
pub record Passes (depth : ℕ) (old : Where) (t : Token) : Type 0 where
  pub opens : Opens t
  pub level_is : depth ≤ open_in old
  pub new : Where
  pub follows : Follows old t new
  pub deeper : depth < depth_read new

-- the answer to one more token
abbrev pub TokenAnswer : ℕ → Where → Token → Result DocumentProgress TokenRefusal → Type 0
TokenAnswer depth old t (Ok new) = Leads depth old t (where_is new)
TokenAnswer depth old t (Err NotAllowed) = (ts : List Token) (r : Reading) → IsDocumentFrom old (t ∷ ts) r → ⊥
TokenAnswer depth old t (Err TooDeep) = Passes depth old t
TokenAnswer depth old t (Err NoMemory) = Unit {0}

-- the answer to characters or a section within some open elements, the innermost last
abbrev pub TextAnswer : List OpenElement → Bool → List ℕ → Result DocumentProgress TokenRefusal → Type 0
TextAnswer open_elements blank text result =
    (depth : ℕ) (t : Token) → IsCharacterData blank text t → TokenAnswer depth (Within (reverse open_elements)) t result

-- the answer to an end tag there
abbrev pub EndAnswer : List OpenElement → Qualified → Result DocumentProgress TokenRefusal → Type 0
EndAnswer open_elements name result = (depth : ℕ) → TokenAnswer depth (Within (reverse open_elements)) (End name) result

-- a reader stands after an element that ended within these
abbrev pub IsAfterElement : List OpenElement → Element → List Declared → DocumentProgress → Type 0
IsAfterElement open_elements e declared new = where_is new ≡ after_element (reverse open_elements) e declared
