-- What is in an element that a document can have, of so many levels at most: values of characters, and such elements again.
use Rattle.std.proofs.Common.{◌≡◌, ◌≤◌, ◌++◌, ℕ, suc, Bool, true, false, List, [], ◌∷◌, map, Option, None, Some, IfSome, refl, arith, subst}
use Rattle.std.proofs.Common.{sym}
use Rattle.std.specs.Prelude.{option_map, if◌then◌else◌}
use Rattle.std.specs.List.{AllByRecursion, find, flat_map}
use Rattle.ifmap_lemmas.specs.Members.{all_both}
use Rattle.ifmap_elem.specs.Building.{is_bare}
use Rattle.ifmap_elem.specs.Chars.{IsCharacters}
use Rattle.ifmap_elem.specs.Fit.{IsFit, IsFitAlone, IsFitAttribute}
use Rattle.ifmap_elem.specs.Folds.{at_child_element, at_element, each_child}
use Rattle.ifmap_elem.specs.Nesting.{child_levels, child_nesting, element_levels, greatest_of, nesting}
use Rattle.ifmap_elem.specs.declared.elements.Attribute.{Attribute}
use Rattle.ifmap_elem.specs.declared.elements.Child.{Child, out-Child}
use Rattle.ifmap_elem.specs.declared.elements.Child.TheOpen.{Child-F}
use Rattle.ifmap_elem.specs.declared.elements.Element.{Element}
use Rattle.ifmap_elem.specs.laws.FitLaws.{elements_in, elements_of_child, fit_parts, out_text}
use Rattle.ifmap_envelopes.specs.Envelopes.{IsEnvelope}
use Rattle.ifmap_ident.specs.Parts.{value_of}
use Rattle.ifmap_forms.specs.DoneLaws.{IfElement}
use Rattle.ifmap_forms.specs.Items.{before_list, from_list, is_list}
use Rattle.ifmap_forms.specs.Tables.{Part, parts_in, element_parts}
use Rattle.ifmap_elem.specs.laws.ArrangedLaws.{out_element}

module _ (most : ℕ) where
  -- a document can have the element, and it has so many levels at most
  pub record IsSound (e : Element) : Type 0 where
    pub fit : IsFit e
    pub levels : nesting e ≤ most

  abbrev pub IsSoundPart : Part → Type 0
  IsSoundPart = IfElement IsSound

  abbrev pub AreSound : List Part → Type 0
  AreSound parts = AllByRecursion IsSoundPart parts

  -- ---- children

  abbrev IsSoundChild : Child → Type 0
  IsSoundChild c = AllByRecursion IsFitAlone (elements_of_child c) → child_nesting c ≤ most → IsSoundPart (out-Child c)

  child_sound : (c : Child) → IsSoundChild c
  child_sound = each_child IsSoundChild (λ e. Unit {0})
      (λ e none fit levels. subst IsSoundPart (sym (out_element e)) (record {
        fit = subst (AllByRecursion IsFitAlone) (elements_in e) fit;
        levels = subst (λ (n : ℕ). n ≤ most) (at_child_element ℕ ℕ child_levels element_levels e) levels;
      }))
      (λ t fit levels. subst IsSoundPart (sym (out_text t)) tt)
      (λ e each. tt)

  children_sound : (cs : List Child) → AllByRecursion IsFitAlone (flat_map elements_of_child cs)
      → greatest_of (map child_nesting cs) ≤ most → AreSound (parts_in cs)
  children_sound [] fit levels = tt
  children_sound (c ∷ cs) fit levels =
      let fits = all_both IsFitAlone (elements_of_child c) (flat_map elements_of_child cs) fit in (
        child_sound c fits.0 (omega arith),
        children_sound cs fits.1 (omega arith),
      )

  pub parts_sound : (e : Element) → IsSound e → AreSound (element_parts e)
  parts_sound e s =
      let deep : nesting e ≡ suc (greatest_of (map child_nesting e.children)) = at_element ℕ ℕ child_levels element_levels e in
      let levels = s.levels in
      children_sound e.children (fit_parts e s.fit).1 (omega arith)

  -- ---- the parts before a list and from it on

  one_sound : (b : Bool) (one other : List Part) → AreSound one → AreSound other → AreSound (if b then one else other)
  one_sound true one other s t = s
  one_sound false one other s t = t

  pub before_sound : (parts : List Part) → AreSound parts → AreSound (before_list parts)
  before_sound [] s = tt
  before_sound (part ∷ parts) s = one_sound (is_list part) [] (part ∷ before_list parts) tt (s.0, before_sound parts s.1)

  pub from_sound : (parts : List Part) → AreSound parts → AreSound (from_list parts)
  from_sound [] s = tt
  from_sound (part ∷ parts) s = one_sound (is_list part) (part ∷ parts) (from_list parts) s (from_sound parts s.1)

  -- ---- what is in an envelope

  sound_within : (before after parts : List Part) (e : Element) → parts ≡ before ++ (Child-F.Element e ∷ after) → AreSound parts
      → IsSound e
  sound_within before after parts e is s =
      (all_both IsSoundPart before (Child-F.Element e ∷ after) (subst AreSound is s)).1.0

  pub inner_sound : (root : Element) (path : List ℕ) (inner : Element) → IsEnvelope root path inner → IsSound root → IsSound inner
  inner_sound root path inner envelope s =
      let at = envelope.body_at in
      let alone = envelope.alone in
      let body = sound_within at.before at.after (element_parts root) envelope.body at.parts_are (parts_sound root s) in
      sound_within alone.before alone.after (element_parts envelope.body) inner alone.parts_are (parts_sound envelope.body body)

-- ---- attributes

abbrev value_in : Option Attribute → Option (List ℕ)
value_in o = option_map (λ a. a.value) o

first_value : (b : Bool) (a : Attribute) (rest : Option Attribute) (text : List ℕ) → IsFitAttribute a
    → (value_in rest ≡ Some text → IsCharacters text) → value_in (if b then Some a else rest) ≡ Some text → IsCharacters text
first_value true a rest text fit later e = let same : a.value ≡ text = cc in subst IsCharacters same fit.value
first_value false a rest text fit later e = later e

found_value : (p : Attribute → Bool) (attributes : List Attribute) → AllByRecursion IsFitAttribute attributes → (text : List ℕ)
    → value_in (find p attributes) ≡ Some text → IsCharacters text
found_value p [] fit text e = cc
found_value p (a ∷ attributes) fit text e = first_value (p a) a (find p attributes) text fit.0 (found_value p attributes fit.1 text) e

value_from : (local : List ℕ) (e : Element) → IsFit e → (text : Option (List ℕ)) → value_of local e ≡ text → IfSome text IsCharacters
value_from local e fit None is = tt
value_from local e fit (Some text) is =
    found_value (λ (a : Attribute). is_bare local a.name) e.attributes (fit_parts e fit).0.attributes text is

-- the value of an attribute is of characters
pub value_fit : (local : List ℕ) (e : Element) → IsFit e → IfSome (value_of local e) IsCharacters
value_fit local e fit = value_from local e fit (value_of local e) refl
