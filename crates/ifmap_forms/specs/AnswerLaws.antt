-- How the answers to the parts of a check are answers to the whole.
use Rattle.std.specs.Prelude.{◌≡◌, Bool, true, false, [], ◌++◌, Result, Ok, Err, refl}
use Rattle.std.specs.Result.{IsErrAnd}
use Rattle.std.proofs.Common.{inl, inr, sym, subst}
use Rattle.ifmap_elem.specs.declared.elements.Element.{Element}
use Rattle.ifmap_ident.specs.Parts.{has_only}
use Rattle.ifmap_ident.specs.declared.codes.Code.{Code}
use Rattle.ifmap_ident.specs.declared.codes.Code.TheVariants.{Failure}
use Rattle.ifmap_ident.specs.ifmap_reader.declared.scoping.Scope.{Scope}
use Rattle.ifmap_forms.specs.declared.errors.FormError.{FormError}
use Rattle.ifmap_forms.specs.declared.errors.FormError.TheVariants.{Named, NoMemory}
use Rattle.ifmap_forms.specs.Answers.{IsChecked, IsCheckedAs, IsCheckRefusal}
use Rattle.ifmap_forms.specs.Checks.{Check, check_then, need, pass}
use Rattle.ifmap_forms.specs.Scopes.{Scopes}
use Rattle.ifmap_forms.specs.Tables.{Both, ElementForm, AttributeTable, table_with, both, form_check, no_attributes, element_parts}
use Rattle.ifmap_forms.specs.Tables.{read_form}
use Rattle.ifmap_forms.specs.Values.{Field, field_check}

module _ {X Y : Type 0} (first : Check X) (second : X → Check Y) where
  abbrev value : X → Result X Code
  value x = Ok x

  pub refused_first : (error : FormError) → IsCheckRefusal first error → IsCheckRefusal (check_then first second) error
  refused_first (Named code) f = inl f
  refused_first NoMemory f = tt

  pub refused_second : (x : X) (error : FormError) → first (value x) → IsCheckRefusal (second x) error
      → IsCheckRefusal (check_then first second) error
  refused_second x (Named code) f g = inr (x, f, g)
  refused_second x NoMemory f g = tt

  pub found_both : (x : X) (y : Y) → first (value x) → second x (Ok y) → check_then first second (Ok y)
  found_both x y f g = (x, f, g)

module _ {X : Type 0} (check : Check X) where
  abbrev refused_code : Code → Result X Code
  refused_code code = Err code

  pub refused_test : (b : Bool) (code : Code) → b ≡ false → need b code check (refused_code code)
  refused_test true code is = cc
  refused_test false code is = refl

  pub refused_after : (b : Bool) (code : Code) (error : FormError) → b ≡ true → IsCheckRefusal check error
      → IsCheckRefusal (need b code check) error
  refused_after true code error is f = f
  refused_after false code error is f = cc

  pub found_after : (b : Bool) (code : Code) (found : Result X Code) → b ≡ true → check found → need b code check found
  found_after true code found is f = f
  found_after false code found is f = cc

-- ---- the exit of a part

module _ {V X : Type 0} where
  pub refused_exit_as : (seen : V → X) (check : Check X) (r : Result V FormError) (error : FormError)
      → IsErrAnd r (λ e. e ≡ error) → IsCheckRefusal check error → IsCheckedAs seen check r
  refused_exit_as seen check (Ok v) error is f = absurd is
  refused_exit_as seen check (Err e) error is f = subst (λ (x : FormError). IsCheckRefusal check x) (sym is) f

module _ {X : Type 0} where
  pub refused_exit : (check : Check X) (r : Result X FormError) (error : FormError) → IsErrAnd r (λ e. e ≡ error)
      → IsCheckRefusal check error → IsChecked check r
  refused_exit check (Ok x) error is f = absurd is
  refused_exit check (Err e) error is f = subst (λ (x : FormError). IsCheckRefusal check x) (sym is) f

-- ---- one attribute alone

module _ {X : Type 0} (field : Field X) (scope : Scope) (e : Element) where
  pub found_alone : (x : X) → field_check field scope e (Ok x) → (table_with field no_attributes).reads scope e (Ok (both x tt))
  found_alone x f = (x, f, (tt, refl, refl))

  pub refused_alone : (error : FormError) → IsCheckRefusal (field_check field scope e) error
      → IsCheckRefusal ((table_with field no_attributes).reads scope e) error
  refused_alone (Named code) f = inl f
  refused_alone NoMemory f = tt

-- ---- an attribute and others

module _ {X Y : Type 0} (field : Field X) (table : AttributeTable Y) (scope : Scope) (e : Element) where
  pub found_beside : (x : X) (y : Y) → field_check field scope e (Ok x) → table.reads scope e (Ok y)
      → (table_with field table).reads scope e (Ok (both x y))
  found_beside x y f g = (x, f, (y, g, refl))

  pub refused_at_field : (error : FormError) → IsCheckRefusal (field_check field scope e) error
      → IsCheckRefusal ((table_with field table).reads scope e) error
  refused_at_field (Named code) f = inl f
  refused_at_field NoMemory f = tt

  pub refused_beside : (x : X) (error : FormError) → field_check field scope e (Ok x) → IsCheckRefusal (table.reads scope e) error
      → IsCheckRefusal ((table_with field table).reads scope e) error
  refused_beside x (Named code) f g = inr (x, f, inl g)
  refused_beside x NoMemory f g = tt

-- ---- a form that is read, before something is made of it

-- the element has no attribute but those of the form
abbrev no_others : {A C : Type 0} → ElementForm A C → Element → Bool
no_others form e = has_only (form.passed_over ++ form.attributes.locals) e

module _ {A C : Type 0} (form : ElementForm A C) (scopes : Scopes) (e : Element) where
  pub read_refused_at_attributes : (error : FormError) → IsCheckRefusal (form.attributes.reads (scopes []) e) error
      → IsCheckRefusal (read_form form scopes e) error
  read_refused_at_attributes (Named code) f = inl f
  read_refused_at_attributes NoMemory f = tt

  module _ (a : A) (f : form.attributes.reads (scopes []) e (Ok a)) where
    abbrev inside : Check (Both A C)
    inside = check_then (form.content scopes (element_parts e)) (λ c. pass (both a c))

    pub read_refused_at_others : no_others form e ≡ false → read_form form scopes e (Err Failure)
    read_refused_at_others is = inr (a, f, refused_test inside (no_others form e) Failure is)

    pub read_refused_at_content : (error : FormError) → no_others form e ≡ true
        → IsCheckRefusal (form.content scopes (element_parts e)) error → IsCheckRefusal (read_form form scopes e) error
    read_refused_at_content (Named code) is g = inr (a, f, found_after inside (no_others form e) Failure (Err code) is (inl g))
    read_refused_at_content NoMemory is g = tt

    pub read_whole : (c : C) → no_others form e ≡ true → form.content scopes (element_parts e) (Ok c)
        → read_form form scopes e (Ok (both a c))
    read_whole c is g = (a, f, found_after inside (no_others form e) Failure (Ok (both a c)) is (c, g, refl))

-- ---- a form, and what is made of it

module _ {X A C : Type 0} (form : ElementForm A C) (make : A → C → X) (scopes : Scopes) (e : Element) where
  pub made_as_read : (a : A) (c : C) → read_form form scopes e (Ok (both a c)) → form_check form make scopes e (Ok (make a c))
  made_as_read a c f = (both a c, f, refl)

  pub refused_as_read : (error : FormError) → IsCheckRefusal (read_form form scopes e) error
      → IsCheckRefusal (form_check form make scopes e) error
  refused_as_read (Named code) f = inl f
  refused_as_read NoMemory f = tt

  pub refused_at_attributes : (error : FormError) → IsCheckRefusal (form.attributes.reads (scopes []) e) error
      → IsCheckRefusal (form_check form make scopes e) error
  refused_at_attributes error f = refused_as_read error (read_refused_at_attributes form scopes e error f)

  module _ (a : A) (f : form.attributes.reads (scopes []) e (Ok a)) where
    pub refused_at_others : no_others form e ≡ false → form_check form make scopes e (Err Failure)
    refused_at_others is = refused_as_read (Named Failure) (read_refused_at_others form scopes e a f is)

    pub refused_at_content : (error : FormError) → no_others form e ≡ true
        → IsCheckRefusal (form.content scopes (element_parts e)) error → IsCheckRefusal (form_check form make scopes e) error
    refused_at_content error is g = refused_as_read error (read_refused_at_content form scopes e a f error is g)

    pub found_form : (c : C) → no_others form e ≡ true → form.content scopes (element_parts e) (Ok c)
        → form_check form make scopes e (Ok (make a c))
    found_form c is g = made_as_read a c (read_whole form scopes e a f c is g)
