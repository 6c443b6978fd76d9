-- Tables of attributes and of children: what an element means by them.
use Rattle.std.specs.Prelude.{ℕ, ◌+◌, Bool, List, [], ◌∷◌, ◌++◌, map, Option, None, Some}
use Rattle.std.specs.List.{list_all}
use Rattle.ifmap_elem.specs.Building.{bare_name, is_name}
use Rattle.ifmap_elem.specs.Chars.{is_white}
use Rattle.ifmap_elem.specs.declared.elements.Child.{Child, out-Child}
use Rattle.ifmap_elem.specs.declared.elements.Child.TheOpen.{Child-F}
use Rattle.ifmap_elem.specs.declared.elements.Element.{Element}
use Rattle.ifmap_elem.specs.declared.elements.Name.{Name}
use Rattle.ifmap_ident.specs.ifmap_reader.declared.scoping.Scope.{Scope}
use Rattle.ifmap_elem.specs.WhiteSpace.{is_blank_part}
use Rattle.ifmap_ident.specs.Parts.{has_only}
use Rattle.ifmap_ident.specs.declared.codes.Code.TheVariants.{Failure}
use Rattle.ifmap_forms.specs.Checks.{Check, check_if, check_then, need, pass}
use Rattle.ifmap_forms.specs.Scopes.{Scopes, scopes_below}
use Rattle.ifmap_forms.specs.Values.{Field, field_check}

-- one thing and others
pub record Both (X Y : Type 0) : Type 0 where
  pub first : X
  pub others : Y

abbrev pub both : {X Y : Type 0} → X → Y → Both X Y
both x y = record { first = x; others = y }

-- ---- attributes

-- the names of attributes in the order in which they are checked, and what an element means by them
pub record AttributeTable (X : Type 0) : Type 1 where
  pub locals : List (List ℕ)
  pub reads : Scope → Element → Check X

abbrev pub no_attributes : AttributeTable (Unit {0})
no_attributes = record { locals = []; reads = λ scope e. pass tt }

module _ {X Y : Type 0} where
  abbrev pub read_both : Field X → AttributeTable Y → Scope → Element → Check (Both X Y)
  read_both field table scope e =
      check_then (field_check field scope e) (λ x. check_then (table.reads scope e) (λ y. pass (both x y)))

  -- an attribute, and then others
  abbrev pub table_with : Field X → AttributeTable Y → AttributeTable (Both X Y)
  table_with field table = record { locals = field.local ∷ table.locals; reads = read_both field table }

-- what an element means by an attribute that is a text, and by no other
abbrev pub OneText : Type 0
OneText = Both (List ℕ) (Unit {0})

-- ---- children

-- a child, seen as an element or a text
abbrev pub Part : Type 0
Part = Child-F Child Element

abbrev pub parts_in : List Child → List Part
parts_in children = map out-Child children

abbrev pub element_parts : Element → List Part
element_parts e = parts_in e.children

-- what children mean
abbrev pub ContentCheck : Type 0 → Type 1
ContentCheck X = Scopes → List Part → Check X

-- no children but white space
abbrev pub no_children : ContentCheck (Unit {0})
no_children scopes parts = need (list_all is_blank_part parts) Failure (pass tt)

module _ {X : Type 0} where
  -- elements from left to right, each checked whole, and nothing between them but white space
  abbrev pub each_element : (ℕ → Element → Check X) → ℕ → List Part → Check (List X)
  each_element one index [] = pass []
  each_element one index (Child-F.Element e ∷ parts) =
      check_then (one index e) (λ x. check_then (each_element one (index + 1) parts) (λ xs. pass (x ∷ xs)))
  each_element one index (Child-F.Text text ∷ parts) = need (list_all is_white text) Failure (each_element one (index + 1) parts)

  -- any number of elements, each of which means one thing
  abbrev pub list_of : (Scopes → Element → Check X) → ContentCheck (List X)
  list_of one scopes parts = each_element (λ index e. one (scopes_below scopes index) e) 0 parts

  -- the same, where it does not matter in which scopes they stand
  abbrev pub members_check : (Element → Check X) → List Part → Check (List X)
  members_check one parts = each_element (λ index e. one e) 0 parts

  -- the one member, where it stands alone
  abbrev pub only_member : List X → Option X
  only_member [] = None
  only_member (x ∷ []) = Some x
  only_member (x ∷ (y ∷ more)) = None

-- ---- elements

-- an element by its name, by attributes that are passed over, and by the tables of its attributes and of its children
pub record ElementForm (A C : Type 0) : Type 1 where
  pub name : Name
  pub passed_over : List (List ℕ)
  pub attributes : AttributeTable A
  pub content : ContentCheck C

module _ {A C : Type 0} where
  -- a form of an element in no namespace, where no further attribute is passed over
  abbrev pub bare_form : List ℕ → AttributeTable A → ContentCheck C → ElementForm A C
  bare_form local attributes content =
      record { name = bare_name local; passed_over = []; attributes = attributes; content = content }

  -- its attributes in the table's order, then those that are not in the table, then its children
  abbrev pub read_form : ElementForm A C → Scopes → Element → Check (Both A C)
  read_form form scopes e =
      check_then (form.attributes.reads (scopes []) e)
      (λ a. need (has_only (form.passed_over ++ form.attributes.locals) e) Failure
      (check_then (form.content scopes (element_parts e)) (λ c. pass (both a c))))

module _ {X A C : Type 0} where
  -- what is made of what an element means by its attributes and its children
  abbrev pub form_check : ElementForm A C → (A → C → X) → Scopes → Element → Check X
  form_check form make scopes e = check_then (read_form form scopes e) (λ x. pass (make x.first x.others))

  -- what is meant by this form, where the element has its name, and else what another check finds
  abbrev pub form_or : ElementForm A C → (A → C → X) → Scopes → Element → Check X → Check X
  form_or form make scopes e other = check_if (is_name e.name form.name) (form_check form make scopes e) other
