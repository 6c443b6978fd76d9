-- What a tag opens.
use Rattle.std.specs.Prelude.{◌≡◌, ◌≢◌, ℕ, List, [], ◌∷◌, ◌++◌, filter, is_none, map, reverse, Option, Some, None, Result, Ok, Err}
use Rattle.std.proofs.Common.{Bor}
use Rattle.std.specs.List.{AllByRecursion, filter_map}
use Rattle.ifmap_elem.specs.Scopes.{Scope, Binding, IsBinding, AllDiffer, IsAttribute, AreAttributes, NamesElement, binding_of, bindings, prefix_space}
use Rattle.ifmap_elem.specs.declared.elements.Attribute.{Attribute}
use Rattle.ifmap_elem.specs.declared.elements.Name.{Name}
use Rattle.ifmap_elem.specs.declared.tokens.Assignment.{Assignment}
use Rattle.ifmap_elem.specs.declared.tokens.Tag.{Tag}
use Rattle.ifmap_reader.specs.declared.errors.TokenRefusal.{TokenRefusal}
use Rattle.ifmap_reader.specs.declared.errors.TokenRefusal.TheVariants.{NotAllowed, TooDeep, NoMemory}
use Rattle.ifmap_reader.specs.declared.open_elements.OpenElement.{OpenElement}
use Rattle.ifmap_reader.specs.OpenElements.{CountsBindings, scope_of, written_name}

-- the binding of a prefix, if there is one, to a namespace
abbrev pub told_binding : Option (Bor (List ℕ)) → List ℕ → Option Binding
told_binding None space = None
told_binding (Some prefix) space = Some (record { prefix = prefix.now; space = space })

-- the answer to one binding more: these bindings and that one, where it may be made and its prefix has none
abbrev pub Binds : List Binding → Option Binding → Result (List Binding) TokenRefusal → Type 0
Binds old None (Ok new) = new ≡ old
Binds old (Some b) (Ok new) = IsBinding b × (prefix_space old b.prefix ≡ None) × (new ≡ old ++ b ∷ [])
Binds old None (Err NotAllowed) = ⊥
Binds old (Some b) (Err NotAllowed) = IsBinding b → prefix_space old b.prefix ≡ None → ⊥
Binds old b (Err TooDeep) = ⊥
Binds old b (Err NoMemory) = Unit {0}

-- some bindings may be made together
pub record MayBind (bs : List Binding) : Type 0 where
  pub binds : AllByRecursion IsBinding bs
  pub binds_once : AllDiffer (map (λ b. b.prefix) bs)

-- the answer to assignments: the bindings that they make, where these may be made
abbrev pub AnswersBindings : List Assignment → Result (List Binding) TokenRefusal → Type 0
AnswersBindings assignments (Ok made) = (made ≡ filter_map binding_of assignments) × MayBind made
AnswersBindings assignments (Err NotAllowed) = MayBind (filter_map binding_of assignments) → ⊥
AnswersBindings assignments (Err TooDeep) = ⊥
AnswersBindings assignments (Err NoMemory) = Unit {0}

-- the answer to an assignment of an attribute
abbrev pub AnswersAttribute : Scope → Assignment → Result Attribute TokenRefusal → Type 0
AnswersAttribute scope a (Ok made) = IsAttribute scope a made
AnswersAttribute scope a (Err NotAllowed) = (t : Attribute) → IsAttribute scope a t → ⊥
AnswersAttribute scope a (Err TooDeep) = ⊥
AnswersAttribute scope a (Err NoMemory) = Unit {0}

-- the answer to assignments: the attributes that they give
abbrev pub AnswersAttributes : Scope → List Assignment → Result (List Attribute) TokenRefusal → Type 0
AnswersAttributes scope assignments (Ok made) = AreAttributes scope assignments made
AnswersAttributes scope assignments (Err NotAllowed) = (ts : List Attribute) → AreAttributes scope assignments ts → ⊥
AnswersAttributes scope assignments (Err TooDeep) = ⊥
AnswersAttributes scope assignments (Err NoMemory) = Unit {0}

-- an open element that an allowed tag has just opened
pub record OpensElement (outer : Scope) (tag : Tag) (f : OpenElement) : Type 0 where
  pub named : NamesElement outer tag f.name f.attributes
  pub name_is : tag.name ≡ written_name f
  pub bindings_are : f.bindings ≡ bindings tag
  pub no_children : f.children ≡ []
  pub no_text : f.text ≡ []
  pub none_below : f.below ≡ []

-- the answer to a tag: the element that it opens within the open elements, where the tag is allowed
abbrev pub TagAnswer : List OpenElement → Tag → Result OpenElement TokenRefusal → Type 0
TagAnswer outer tag (Ok f) = OpensElement (scope_of outer) tag f × CountsBindings f.bindings f.declaring outer
TagAnswer outer tag (Err NotAllowed) = (name : Name) (attributes : List Attribute) → NamesElement (scope_of outer) tag name attributes → ⊥
TagAnswer outer tag (Err TooDeep) = ⊥
TagAnswer outer tag (Err NoMemory) = Unit {0}

-- what is bound within a tag with these bindings, in some open elements, the innermost last
abbrev pub scope_inside : List Binding → List OpenElement → Scope
scope_inside bindings open_elements = bindings ++ scope_of (reverse open_elements)

-- the assignments that bind no prefix
abbrev pub plain_part : List Assignment → List Assignment
plain_part assignments = filter (λ a. is_none (binding_of a)) assignments

-- no attribute has the name
abbrev pub LacksName : Name → List Attribute → Type 0
LacksName name attributes = AllByRecursion (λ n. name ≢ n) (map (λ t. t.name) attributes)
