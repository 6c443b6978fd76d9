-- The answers to elements by their names and forms.
use Rattle.std.proofs.Common.{◌≡◌, ◌++◌, Bool, true, List, [], Option, None, Some, Result, Ok, Err, inl, inr, refl, subst, sym}
use Rattle.ifmap_elem.specs.declared.elements.Element.{Element}
use Rattle.ifmap_ident.specs.Parts.{has_only}
use Rattle.ifmap_ident.specs.declared.codes.Code.{Code}
use Rattle.ifmap_ident.specs.declared.codes.Code.TheVariants.{Failure}
use Rattle.ifmap_forms.specs.declared.errors.FormError.{FormError}
use Rattle.ifmap_forms.specs.declared.errors.FormError.TheVariants.{Named, NoMemory}
use Rattle.ifmap_forms.specs.AnswerLaws.{found_form, refused_at_content}
use Rattle.ifmap_forms.specs.Answers.{IsChecked, IsCheckRefusal}
use Rattle.ifmap_forms.specs.Checks.{Check, need, need_some, pass}
use Rattle.ifmap_forms.specs.Scopes.{Scopes}
use Rattle.ifmap_forms.specs.Tables.{ElementForm, Part, form_check, element_parts, members_check, only_member}
use Rattle.ifmap_replies.specs.ResultForms.{only_check}

module _ {X : Type 0} where
  -- what is found where a test passes
  pub checked_after : (check : Check X) (b : Bool) (code : Code) → b ≡ true → (r : Result X FormError) → IsChecked check r
      → IsChecked (need b code check) r
  checked_after check b code is r f = subst (λ (t : Bool). IsChecked (need t code check) r) (sym is) f

  -- what is found where there is such a form
  pub checked_some : {K : Type 0} (code : Code) (o : Option K) (check : K → Check X) (kind : K) → o ≡ Some kind
      → (r : Result X FormError) → IsChecked (check kind) r → IsChecked (need_some code o check) r
  checked_some code o check kind is r f = subst (λ (p : Option _). IsChecked (need_some code p check) r) (sym is) f

  pub refused_none : {K : Type 0} (code : Code) (o : Option K) (check : K → Check X) → o ≡ None → need_some code o check (Err code)
  refused_none code o check is = subst (λ (p : Option _). need_some code p check (Err code)) (sym is) refl

  -- what the content means is what the element means
  pub content_alone : {A : Type 0} (form : ElementForm A X) (make : A → X → X) (scopes : Scopes) (e : Element) (a : A)
      → form.attributes.reads (scopes []) e (Ok a) → ((x : X) → make a x ≡ x)
      → has_only (form.passed_over ++ form.attributes.locals) e ≡ true → (r : Result X FormError)
      → IsChecked (form.content scopes (element_parts e)) r → IsChecked (form_check form make scopes e) r
  content_alone form make scopes e a f same is (Ok x) g =
      subst (λ y. form_check form make scopes e (Ok y)) (same x) (found_form form make scopes e a f x is g)
  content_alone form make scopes e a f same is (Err error) g = refused_at_content form make scopes e a f error is g

-- ---- one member alone

module _ {X : Type 0} (one : Element → Check X) (parts : List Part) where
  abbrev need_only_member : List X → Check X
  need_only_member xs = need_some Failure (only_member xs) (λ x. pass x)

  pub refused_member : (error : FormError) → IsCheckRefusal (members_check one parts) error → IsCheckRefusal (only_check one parts) error
  refused_member (Named code) f = inl f
  refused_member NoMemory f = tt

  module _ (xs : List X) (f : members_check one parts (Ok xs)) where
    pub member_alone : (x : X) → only_member xs ≡ Some x → only_check one parts (Ok x)
    member_alone x is = (xs, f, subst (λ (o : Option X). need_some Failure o (λ y. pass y) (Ok x)) (sym is) refl)

    pub none_alone : only_member xs ≡ None → only_check one parts (Err Failure)
    none_alone is = inr (xs, f, refused_none Failure (only_member xs) (λ y. pass y) is)
