-- Places of children.
use Rattle.std.proofs.Common.{◌≡◌, ℕ, List, [], Option, None, Some, Result, Ok, refl, subst, sym}
use Rattle.std.specs.Result.{IsErrAnd}
use Rattle.ifmap_elem.specs.declared.elements.Child as the
use Rattle.ifmap_elem.specs.declared.elements.Child.{Child, out-Child}
use Rattle.ifmap_elem.specs.declared.elements.Element.{Element}
use Rattle.ifmap_elem.specs.declared.readings.Declared.{Declared}
use Rattle.ifmap_forms.specs.declared.errors.FormError.{FormError}
use Rattle.ifmap_forms.specs.declared.errors.FormError.TheVariants.{NoMemory}
use Rattle.ifmap_forms.specs.AnswerLaws.{refused_exit}
use Rattle.ifmap_forms.specs.Answers.{IsChecked, IsCheckRefusal}
use Rattle.ifmap_forms.specs.Checks.{Check}
use Rattle.ifmap_forms.specs.Gathering.{one_found, part_check, part_found, part_refused}
use Rattle.ifmap_forms.specs.Scopes.{Scopes, place_scope, place_scopes, scopes_below, scopes_by}

-- the scope at a place is the first of those from there on
pub here : (declared : List Declared) (path : List ℕ) (child : Option ℕ) → place_scope declared path child
    ≡ place_scopes declared path child []
here declared path None = refl
here declared path (Some index) = refl

-- the place of a child
pub child_place : (declared others : List Declared) (path route : List ℕ) (child : Option ℕ) (index : ℕ) → others ≡ declared → route ≡ path
    → child ≡ Some index → place_scopes others route child ≡ scopes_below (scopes_by declared path) index
child_place declared others path route child index d p c = λ i. place_scopes (d i) (p i) (c i)

-- the place of the element at the path itself
pub own_place : (declared : List Declared) (path : List ℕ) (child : Option ℕ) → child ≡ None
    → place_scope declared path child ≡ scopes_by declared path []
own_place declared path child c = λ i. place_scope declared path (c i)

pub out_of_memory : {X : Type 0} (check : Check X) (error : FormError) → error ≡ NoMemory → IsCheckRefusal check error
out_of_memory check error is = subst (λ (e : FormError). IsCheckRefusal check e) (sym is) tt

-- a child that is an element, which is read at its own place
module _ {X : Type 0} (check : Scopes → Element → Check X) (declared others : List Declared) (path route : List ℕ) (own : Option ℕ)
    (index : ℕ) (same_declared : others ≡ declared) (same_path : route ≡ path) (is_own : own ≡ Some index) (child : Child) (e : Element)
    (is : child ≡ the.Element e) where
  scopes_of_place : place_scopes others route own ≡ scopes_below (scopes_by declared path) index
  scopes_of_place = child_place declared others path route own index same_declared same_path is_own

  -- what is found of it there is found of the child
  pub child_found : (x : X) → check (place_scopes others route own) e (Ok x)
      → part_check (check (scopes_below (scopes_by declared path) index)) (out-Child child) (one_found (Some x))
  child_found x f =
      part_found (check (scopes_below (scopes_by declared path) index)) child e is x
      (subst (λ (scopes : Scopes). check scopes e (Ok x)) scopes_of_place f)

  -- and where it is refused, so is the child
  pub child_refused : (r : Result (Option X) FormError) (error : FormError) → IsErrAnd r (λ x. x ≡ error)
      → IsCheckRefusal (check (place_scopes others route own) e) error
      → IsChecked (part_check (check (scopes_below (scopes_by declared path) index)) (out-Child child)) r
  child_refused r error exits f =
      let one = check (scopes_below (scopes_by declared path) index) in
      refused_exit (part_check one (out-Child child)) r error exits
      (part_refused one child e is error (subst (λ (scopes : Scopes). IsCheckRefusal (check scopes e) error) scopes_of_place f))
