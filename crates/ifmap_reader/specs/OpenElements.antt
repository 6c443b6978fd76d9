-- Elements that are open, by what they are once they end.
use Rattle.std.specs.Prelude.{◌≡◌, ◌⊎◌, ℕ, ◌+◌, ◌-◌, ◌≤◌, Bool, true, not, ◌==◌, ◌||◌, if◌then◌else◌, List, [], ◌∷◌, ◌++◌, drop, length, map, filter}
use Rattle.std.specs.List.{list_any}
use Rattle.ifmap_elem.specs.Document.{ContentItem, Run, is_inner, put_before, join_runs, is_child, child_of, declared_here, declared_below, from_above}
use Rattle.ifmap_elem.specs.Scopes.{Binding, Scope, root_scope}
use Rattle.ifmap_elem.specs.declared.elements.Child.{Child}
use Rattle.ifmap_elem.specs.declared.elements.Child as the
use Rattle.ifmap_elem.specs.declared.elements.Element.{Element}
use Rattle.ifmap_elem.specs.declared.readings.Declared.{Declared}
use Rattle.ifmap_elem.specs.declared.tokens.Qualified.{Qualified}
use Rattle.ifmap_reader.specs.declared.open_elements.OpenElement.{OpenElement}

-- the name that its end tag has
abbrev pub written_name : OpenElement → Qualified
written_name f = record { prefix = f.prefix; local = f.name.local }

-- the bindings that hold in the innermost of some open elements, the innermost first
abbrev pub scope_of : List OpenElement → Scope
scope_of [] = root_scope
scope_of (f ∷ fs) = f.bindings ++ scope_of fs

-- that many open elements, the outermost, bind all that an element binds that has these bindings and stands within those open elements:
-- the element itself is one of them, or it binds nothing
pub record BindsNothing (bindings : List Binding) (count : ℕ) (outer : List OpenElement) : Type 0 where
  pub within : count ≤ length outer
  pub none : bindings ≡ []
  pub same : scope_of (drop (length outer - count) outer) ≡ scope_of outer

abbrev pub CountsBindings : List Binding → ℕ → List OpenElement → Type 0
CountsBindings bindings count outer = (count ≡ length outer + 1) ⊎ BindsNothing bindings count outer

-- each open element, the innermost first, knows how many of the outermost bind all that is bound in it
abbrev pub AreLinked : List OpenElement → Type 0
AreLinked [] = Unit {0}
AreLinked (f ∷ fs) = CountsBindings f.bindings f.declaring fs × AreLinked fs

-- some of its children have ended, an element among them
abbrev pub has_children : OpenElement → Bool
has_children f = not (length f.children == 0)

-- the text is a child
abbrev pub is_child_text : Bool → List ℕ → Bool
is_child_text beside text = is_child beside (Run text)

-- the text as a child, where it is one
abbrev pub text_child : Bool → List ℕ → List Child
text_child beside text = if is_child_text beside text then the.Text text ∷ [] else []

-- of its text and what is still to come, the items that are children
abbrev pub children_to_come : OpenElement → List ContentItem → List ContentItem
children_to_come f items = filter (is_child (has_children f || list_any is_inner items)) (put_before f.text (join_runs items))

-- the element, and the declarations in it, that it is once these items have come
pub record Closes (f : OpenElement) (items : List ContentItem) (e : Element) (declared : List Declared) : Type 0 where
  pub element_is : e ≡ record { name = f.name; attributes = f.attributes; children = f.children ++ map child_of (children_to_come f items) }
  pub declared_is : declared ≡ declared_here f.bindings ++ (f.below ++ declared_below (length f.children) (children_to_come f items))

-- with more text after its children
abbrev pub with_characters : OpenElement → List ℕ → OpenElement
with_characters f text = record f { text = f.text ++ text }

-- with an element after its text, and the declarations in that
abbrev pub with_inner : OpenElement → Element → List Declared → OpenElement
with_inner f e declared = record f {
  children = f.children ++ text_child true f.text ++ the.Element e ∷ [];
  text = [];
  below = f.below ++ map (from_above (length (f.children ++ text_child true f.text))) declared;
}

-- the last member is changed so
pub record ChangesLast {X : Type 0} (change : X → X) (old : List X) (new : List X) : Type 0 where
  pub before : List X
  pub last : X
  pub old_is : old ≡ before ++ last ∷ []
  pub new_is : new ≡ before ++ change last ∷ []
