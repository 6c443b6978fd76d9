-- Forms, and what they are made of, find one thing at most.
-- 1. Identifiers, by the law of their crate.
-- 2. Tables, lists of children and forms, over what they are made of.
-- 3. Texts, lists of elements, and identifiers as children.
use Rattle.std.proofs.Common.{◌≡◌, ◌∙◌, ◌+◌, ◌++◌, ℕ, List, [], ◌∷◌, Option, None, Some, Result, Ok, Err, inl, inr, ap, subst, sym}
use Rattle.std.specs.List.{list_all}
use Rattle.ifmap_elem.specs.Chars.{is_white}
use Rattle.ifmap_elem.specs.declared.elements.Child.TheOpen.{Child-F}
use Rattle.ifmap_elem.specs.declared.elements.Element.{Element}
use Rattle.ifmap_ident.specs.ifmap_reader.declared.scoping.Scope.{Scope}
use Rattle.ifmap_ident.specs.declared.codes.Code.{Code}
use Rattle.ifmap_ident.specs.declared.codes.Code.TheVariants.{Failure}
use Rattle.ifmap_ident.specs.declared.errors.IdentError.{IdentError}
use Rattle.ifmap_ident.specs.declared.errors.IdentError.TheVariants.{NoMemory}
use Rattle.ifmap_ident.specs.declared.identifiers.Identifier.{Identifier}
use Rattle.ifmap_ident.specs.Canon.{IsAnswer}
use Rattle.ifmap_ident.specs.Laws.{AreOneAnswer}
use Rattle.ifmap_ident.specs.Parts.{has_only, value_of}
use Rattle.ifmap_forms.specs.CheckLaws.{fail_single, if_single, need_single, pass_single, some_single, then_single}
use Rattle.ifmap_forms.specs.Checks.{Check, IsSingle, check_then, need, need_some, pass}
use Rattle.ifmap_forms.specs.Items.{identifier_check, identifier_code, identifiers_check, item_content, item_of, list_if_there, list_check}
use Rattle.ifmap_forms.specs.Items.{may_follow, start_content}
use Rattle.ifmap_forms.specs.Scopes.{Scopes}
use Rattle.ifmap_elem.specs.WhiteSpace.{is_blank_part}
use Rattle.ifmap_elem.specs.Building.{is_name}
use Rattle.ifmap_forms.specs.Tables.{ContentCheck, ElementForm, Part, AttributeTable, table_with, both, each_element, form_or, no_attributes}
use Rattle.ifmap_forms.specs.Tables.{no_children, element_parts, read_form, form_check, only_member}
use Rattle.ifmap_forms.specs.Values.{Field, field_check, read_text}

-- ---- 1. identifiers

abbrev ok_of : Identifier → Result Identifier Code
ok_of i = Ok i

-- the same answers of another type of errors
same_found : (i j : Identifier) → i ≡ j → ok_of i ≡ ok_of j
same_found i j e = ap ok_of e

module _ (one_answer : (e : Element) (one other : Result Identifier IdentError) → IsAnswer e one → IsAnswer e other
    → AreOneAnswer one other) where
  abbrev answer : Identifier → Result Identifier IdentError
  answer i = Ok i

  abbrev err_identifier : IdentError → Result Identifier IdentError
  err_identifier error = Err error

  -- want of memory has no code
  no_code : (code : Code) → identifier_code NoMemory ≡ Some code → ⊥
  no_code code e = let wrong : identifier_code NoMemory ≡ Some code = e in cc

  not_memory : (error : IdentError) (code : Code) → identifier_code error ≡ Some code → err_identifier error ≡ err_identifier NoMemory → ⊥
  not_memory error code coded e =
      let same : error ≡ NoMemory = cc in
      no_code code (subst (λ (x : IdentError). identifier_code x ≡ Some code) same coded)

  pub identifier_single : (e : Element) → IsSingle (identifier_check e)
  identifier_single e (Ok i) (Ok j) a b = elim (one_answer e (answer i) (answer j) a b) [
    | inl same ↦ let s : answer i ≡ answer j = same in let t : i ≡ j = cc in same_found i j t
    | inr other ↦ elim other [
      | inl m ↦ let wrong : answer i ≡ err_identifier NoMemory = m in cc
      | inr m ↦ let wrong : answer j ≡ err_identifier NoMemory = m in cc
    ]
  ]
  identifier_single e (Ok i) (Err c) a b = elim (one_answer e (answer i) (err_identifier b.0) a b.2) [
    | inl same ↦ let wrong : answer i ≡ err_identifier b.0 = same in cc
    | inr other ↦ elim other [
      | inl m ↦ let wrong : answer i ≡ err_identifier NoMemory = m in cc
      | inr m ↦ absurd (not_memory b.0 c b.1 m)
    ]
  ]
  identifier_single e (Err c) (Ok j) a b = elim (one_answer e (err_identifier a.0) (answer j) a.2 b) [
    | inl same ↦ let wrong : err_identifier a.0 ≡ answer j = same in cc
    | inr other ↦ elim other [
      | inl m ↦ absurd (not_memory a.0 c a.1 m)
      | inr m ↦ let wrong : answer j ≡ err_identifier NoMemory = m in cc
    ]
  ]
  identifier_single e (Err c) (Err d) a b = elim (one_answer e (err_identifier a.0) (err_identifier b.0) a.2 b.2) [
    | inl same ↦
        let s : err_identifier a.0 ≡ err_identifier b.0 = same in
        let errors : a.0 ≡ b.0 = cc in
        let coded : Some c ≡ Some d = sym a.1 ∙ (ap identifier_code errors ∙ b.1) in
        cc
    | inr other ↦ elim other [
      | inl m ↦ absurd (not_memory a.0 c a.1 m)
      | inr m ↦ absurd (not_memory b.0 d b.1 m)
    ]
  ]

-- ---- 2. tables, children, forms

abbrev pub OneOfField : {X : Type 0} → Field X → Type 0
OneOfField field = (scope : Scope) (text : Option (List ℕ)) → IsSingle (field.reads scope text)

abbrev pub OneOfTable : {X : Type 0} → AttributeTable X → Type 0
OneOfTable table = (scope : Scope) (e : Element) → IsSingle (table.reads scope e)

abbrev pub OneOfContent : {X : Type 0} → ContentCheck X → Type 0
OneOfContent content = (scopes : Scopes) (parts : List Part) → IsSingle (content scopes parts)

module _ {X Y : Type 0} (field : Field X) (table : AttributeTable Y) where
  pub beside_single : OneOfField field → OneOfTable table → OneOfTable (table_with field table)
  beside_single f t scope e =
      then_single (field_check field scope e) (λ x. check_then (table.reads scope e) (λ y. pass (both x y)))
      (f scope (value_of field.local e))
      (λ x. then_single (table.reads scope e) (λ y. pass (both x y)) (t scope e) (λ y. pass_single (both x y)))

module _ {A C : Type 0} (form : ElementForm A C) where
  form_single : OneOfTable form.attributes → OneOfContent form.content → (scopes : Scopes) (e : Element)
      → IsSingle (read_form form scopes e)
  form_single t s scopes e =
      then_single (form.attributes.reads (scopes []) e)
      (λ a. need (has_only (form.passed_over ++ form.attributes.locals) e) Failure
      (check_then (form.content scopes (element_parts e)) (λ c. pass (both a c))))
      (t (scopes []) e)
      (λ a. need_single (has_only (form.passed_over ++ form.attributes.locals) e) Failure
      (check_then (form.content scopes (element_parts e)) (λ c. pass (both a c)))
      (then_single (form.content scopes (element_parts e)) (λ c. pass (both a c)) (s scopes (element_parts e))
      (λ c. pass_single (both a c))))

module _ {X A C : Type 0} (form : ElementForm A C) (make : A → C → X) where
  pub or_single : OneOfTable form.attributes → OneOfContent form.content → (scopes : Scopes) (e : Element) (other : Check X)
      → IsSingle other → IsSingle (form_or form make scopes e other)
  or_single t s scopes e other single =
      if_single (is_name e.name form.name) (check_then (read_form form scopes e) (λ x. pass (make x.first x.others))) other
      (then_single (read_form form scopes e) (λ x. pass (make x.first x.others)) (form_single form t s scopes e)
      (λ x. pass_single (make x.first x.others)))
      single

  pub made_single : OneOfTable form.attributes → OneOfContent form.content → (scopes : Scopes) (e : Element)
      → IsSingle (form_check form make scopes e)
  made_single t s scopes e =
      then_single (read_form form scopes e) (λ x. pass (make x.first x.others)) (form_single form t s scopes e)
      (λ x. pass_single (make x.first x.others))

module _ {X : Type 0} (one : ℕ → Element → Check X) (s : (index : ℕ) (e : Element) → IsSingle (one index e)) where
  pub each_single : (index : ℕ) (parts : List Part) → IsSingle (each_element one index parts)
  each_single index [] = pass_single []
  each_single index (Child-F.Element e ∷ parts) =
      then_single (one index e) (λ x. check_then (each_element one (index + 1) parts) (λ xs. pass (x ∷ xs))) (s index e)
      (λ x. then_single (each_element one (index + 1) parts) (λ xs. pass (x ∷ xs)) (each_single (index + 1) parts)
      (λ xs. pass_single (x ∷ xs)))
  each_single index (Child-F.Text text ∷ parts) =
      need_single (list_all is_white text) Failure (each_element one (index + 1) parts) (each_single (index + 1) parts)

-- ---- 3. what forms share: texts, lists and identifiers

pub read_text_single : (scope : Scope) (text : Option (List ℕ)) → IsSingle (read_text text)
read_text_single scope None = fail_single Failure
read_text_single scope (Some text) = pass_single text

module _ {X : Type 0} (one : Element → Check X) (s : (e : Element) → IsSingle (one e)) where
  list_check_single : (e : Element) → IsSingle (list_check one e)
  list_check_single e =
      need_single (has_only [] e) Failure (each_element (λ index inner. one inner) 0 (element_parts e))
      (each_single (λ index inner. one inner) (λ index inner. s inner) 0 (element_parts e))

  pub list_at_single : (parts : List Part) → IsSingle (list_if_there one parts)
  list_at_single [] = pass_single None
  list_at_single (Child-F.Element e ∷ after) =
      then_single (list_check one e) (λ xs. need (list_all is_blank_part after) Failure (pass (Some xs))) (list_check_single e)
      (λ xs. need_single (list_all is_blank_part after) Failure (pass (Some xs)) (pass_single (Some xs)))
  list_at_single (Child-F.Text text ∷ after) = fail_single Failure

pub no_attributes_single : OneOfTable no_attributes
no_attributes_single scope e = pass_single tt

pub no_children_single : OneOfContent no_children
no_children_single scopes parts = need_single (list_all is_blank_part parts) Failure (pass tt) (pass_single tt)

module _ (identifier_one : (e : Element) → IsSingle (identifier_check e)) where
  pub identifiers_single : (most : ℕ) (before : List Identifier) (parts : List Part) → IsSingle (identifiers_check most before parts)
  identifiers_single most before [] = pass_single []
  identifiers_single most before (Child-F.Element e ∷ parts) =
      then_single (identifier_check e)
      (λ i. need (may_follow most before i) Failure
      (check_then (identifiers_check most (before ++ i ∷ []) parts) (λ others. pass (i ∷ others))))
      (identifier_one e)
      (λ i. need_single (may_follow most before i) Failure
      (check_then (identifiers_check most (before ++ i ∷ []) parts) (λ others. pass (i ∷ others)))
      (then_single (identifiers_check most (before ++ i ∷ []) parts) (λ others. pass (i ∷ others))
      (identifiers_single most (before ++ i ∷ []) parts) (λ others. pass_single (i ∷ others))))
  identifiers_single most before (Child-F.Text text ∷ parts) =
      need_single (list_all is_white text) Failure (identifiers_check most before parts) (identifiers_single most before parts)

  pub start_single : OneOfContent start_content
  start_single scopes parts =
      then_single (identifiers_check 1 [] parts) (λ identifiers. need_some Failure (only_member identifiers) (λ i. pass i))
      (identifiers_single 1 [] parts)
      (λ identifiers. some_single Failure (only_member identifiers) (λ i. pass i) (λ i. pass_single i))

  pub item_single : OneOfContent item_content
  item_single scopes parts =
      then_single (identifiers_check 2 [] parts) (λ identifiers. need_some Failure (item_of identifiers) (λ item. pass item))
      (identifiers_single 2 [] parts)
      (λ identifiers. some_single Failure (item_of identifiers) (λ item. pass item) (λ item. pass_single item))
