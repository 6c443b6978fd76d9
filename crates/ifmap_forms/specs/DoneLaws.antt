-- Forms, and what they are made of, find something where their parts do.
-- 1. Tables and forms: said of one element, so that whoever has a premise on elements hands it on to the parts.
-- 2. Elements one after another, each of which keeps a premise; lists of elements, without one.
-- 3. Texts.
use Rattle.std.proofs.Common.{◌+◌, ◌++◌, ℕ, List, [], ◌∷◌, Option, None, Some}
use Rattle.std.specs.List.{AllByRecursion, list_all}
use Rattle.ifmap_lemmas.specs.Members.{all_any}
use Rattle.ifmap_elem.specs.Building.{is_name}
use Rattle.ifmap_elem.specs.Chars.{is_white}
use Rattle.ifmap_elem.specs.WhiteSpace.{is_blank_part}
use Rattle.ifmap_elem.specs.declared.elements.Child.TheOpen.{Child-F}
use Rattle.ifmap_elem.specs.declared.elements.Element.{Element}
use Rattle.ifmap_ident.specs.Parts.{has_only}
use Rattle.ifmap_ident.specs.declared.codes.Code.TheVariants.{Failure}
use Rattle.ifmap_ident.specs.ifmap_reader.declared.scoping.Scope.{Scope}
use Rattle.ifmap_forms.specs.CheckLaws.{fail_done, if_done, need_done, pass_done, then_done}
use Rattle.ifmap_forms.specs.Checks.{Check, IsConclusive, check_then, need, pass}
use Rattle.ifmap_forms.specs.Items.{list_check, list_if_there}
use Rattle.ifmap_forms.specs.Scopes.{Scopes}
use Rattle.ifmap_forms.specs.Tables.{AttributeTable, ElementForm, Part, both, each_element, element_parts, form_check, form_or}
use Rattle.ifmap_forms.specs.Tables.{members_check, no_attributes, no_children, read_both, read_form}
use Rattle.ifmap_forms.specs.Values.{Field, field_check, read_text}

-- ---- 1. tables and forms

module _ {X Y : Type 0} (field : Field X) (table : AttributeTable Y) (scope : Scope) (e : Element) where
  pub beside_done : IsConclusive (field_check field scope e) → IsConclusive (table.reads scope e)
      → IsConclusive (read_both field table scope e)
  beside_done first others =
      then_done (field_check field scope e) (λ x. check_then (table.reads scope e) (λ y. pass (both x y)))
      (λ x found. then_done (table.reads scope e) (λ y. pass (both x y)) (λ y got. pass_done (both x y)) others) first

pub no_attributes_done : (scope : Scope) (e : Element) → IsConclusive (no_attributes.reads scope e)
no_attributes_done scope e = pass_done tt

pub no_children_done : (scopes : Scopes) (parts : List Part) → IsConclusive (no_children scopes parts)
no_children_done scopes parts = need_done (list_all is_blank_part parts) Failure (pass tt) (pass_done tt)

module _ {A C : Type 0} (form : ElementForm A C) (scopes : Scopes) (e : Element) where
  form_done : IsConclusive (form.attributes.reads (scopes []) e) → IsConclusive (form.content scopes (element_parts e))
      → IsConclusive (read_form form scopes e)
  form_done attributes content =
      then_done (form.attributes.reads (scopes []) e)
      (λ a. need (has_only (form.passed_over ++ form.attributes.locals) e) Failure
      (check_then (form.content scopes (element_parts e)) (λ c. pass (both a c))))
      (λ a found. need_done (has_only (form.passed_over ++ form.attributes.locals) e) Failure
      (check_then (form.content scopes (element_parts e)) (λ c. pass (both a c)))
      (then_done (form.content scopes (element_parts e)) (λ c. pass (both a c)) (λ c got. pass_done (both a c)) content))
      attributes

module _ {X A C : Type 0} (form : ElementForm A C) (make : A → C → X) (scopes : Scopes) (e : Element) where
  pub made_done : IsConclusive (form.attributes.reads (scopes []) e) → IsConclusive (form.content scopes (element_parts e))
      → IsConclusive (form_check form make scopes e)
  made_done attributes content =
      then_done (read_form form scopes e) (λ x. pass (make x.first x.others)) (λ x found. pass_done (make x.first x.others))
      (form_done form scopes e attributes content)

  pub or_done : IsConclusive (form.attributes.reads (scopes []) e) → IsConclusive (form.content scopes (element_parts e))
      → (other : Check X) → IsConclusive other → IsConclusive (form_or form make scopes e other)
  or_done attributes content other done =
      if_done (is_name e.name form.name) (form_check form make scopes e) other (made_done attributes content) done

-- ---- 2. elements one after another

-- it holds of the part, where this is an element
abbrev pub IfElement : (Element → Type 0) → Part → Type 0
IfElement Holds (Child-F.Element e) = Holds e
IfElement Holds (Child-F.Text text) = Unit {0}

module _ {X : Type 0} (Holds : Element → Type 0) (one : ℕ → Element → Check X)
    (s : (index : ℕ) (e : Element) → Holds e → IsConclusive (one index e)) where
  pub each_done : (index : ℕ) (parts : List Part) → AllByRecursion (IfElement Holds) parts → IsConclusive (each_element one index parts)
  each_done index [] hold = pass_done []
  each_done index (Child-F.Element e ∷ parts) hold =
      then_done (one index e) (λ x. check_then (each_element one (index + 1) parts) (λ xs. pass (x ∷ xs)))
      (λ x found. then_done (each_element one (index + 1) parts) (λ xs. pass (x ∷ xs)) (λ xs got. pass_done (x ∷ xs))
      (each_done (index + 1) parts hold.1))
      (s index e hold.0)
  each_done index (Child-F.Text text ∷ parts) hold =
      need_done (list_all is_white text) Failure (each_element one (index + 1) parts) (each_done (index + 1) parts hold.1)

-- no premise
abbrev IsAny : Element → Type 0
IsAny e = Unit {0}

any_part : (part : Part) → IfElement IsAny part
any_part (Child-F.Element e) = tt
any_part (Child-F.Text text) = tt

module _ {X : Type 0} (one : Element → Check X) (s : (e : Element) → IsConclusive (one e)) where
  pub members_done : (parts : List Part) → IsConclusive (members_check one parts)
  members_done parts =
      each_done IsAny (λ index e. one e) (λ index e any. s e) 0 parts (all_any (IfElement IsAny) parts any_part)

  list_done : (e : Element) → IsConclusive (list_check one e)
  list_done e = need_done (has_only [] e) Failure (members_check one (element_parts e)) (members_done (element_parts e))

  pub list_at_done : (parts : List Part) → IsConclusive (list_if_there one parts)
  list_at_done [] = pass_done None
  list_at_done (Child-F.Element e ∷ after) =
      then_done (list_check one e) (λ xs. need (list_all is_blank_part after) Failure (pass (Some xs)))
      (λ xs found. need_done (list_all is_blank_part after) Failure (pass (Some xs)) (pass_done (Some xs))) (list_done e)
  list_at_done (Child-F.Text text ∷ after) = fail_done Failure

-- ---- 3. texts

pub read_text_done : (scope : Scope) (text : Option (List ℕ)) → IsConclusive (read_text text)
read_text_done scope None = fail_done Failure
read_text_done scope (Some text) = pass_done text
