-- Elements that a document can have, arranged, of so many levels at most.
-- 1. Names and attributes that are spelled out.
-- 2. An element of a text; one of elements by the law of its crate.
use Rattle.std.proofs.Common.{◌≡◌, ◌≢◌, ◌∙◌, ◌&&◌, ℕ, ◌+◌, suc, Bool, true, false, List, [], ◌∷◌, ◌++◌, map, codes, refl, ap, arith}
use Rattle.std.proofs.Common.{subst, sym}
use Rattle.std.proofs.lemmas.Bool.Decides.{not_from_Decides}
use Rattle.std.proofs.lemmas.Slice.Eq.{bytes_eq-Decides}
use Rattle.std.specs.Prelude.{IsTrue}
use Rattle.std.specs.List.{AllByRecursion, flat_map, list_all, list_any}
use Rattle.std.specs.Str.{bytes_eq}
use Rattle.std.proofs.lemmas.Bool.{and_parts}
use Rattle.ifmap_elem.specs.Building.{bare_attribute, bare_name}
use Rattle.ifmap_elem.specs.Chars.{IsCharacters}
use Rattle.ifmap_elem.specs.Fit.{AreFitChildren, IsFitAlone, IsFitAttribute, IsFitName, IsNamespace}
use Rattle.ifmap_elem.specs.Fit.{IsNotBlank, is_element}
use Rattle.ifmap_elem.specs.Folds.{at_child_text, at_element}
use Rattle.ifmap_elem.specs.Names.{is_name_character, is_name_start}
use Rattle.ifmap_elem.specs.Nesting.{child_levels, child_nesting, element_levels, greatest_of, nesting}
use Rattle.ifmap_elem.specs.Scopes.{AllDiffer, xmlns_space}
use Rattle.ifmap_elem.specs.declared.elements.Child.{out-Child}
use Rattle.ifmap_elem.specs.declared.elements.Child as the
use Rattle.ifmap_elem.specs.declared.elements.Child.TheOpen.{Child-F}
use Rattle.ifmap_elem.specs.declared.elements.Element.{Element}
use Rattle.ifmap_elem.specs.declared.elements.Name.{Name}
use Rattle.ifmap_elem.specs.laws.ArrangedLaws.{arranged_is, arranged_text}
use Rattle.ifmap_elem.specs.laws.FitLaws.{elements_of_child, elements_text, fit_whole, out_text, no_namespace}
use Rattle.ifmap_lemmas.specs.Emptiness.{first_there}
use Rattle.ifmap_lemmas.specs.Members.{all_of_test}
use Rattle.ifmap_lemmas.specs.Texts.{ascii_encoded, is_ascii}
use Rattle.ifmap_replies.specs.Results.{text_children}
use Rattle.ifmap_elem.specs.laws.CharacterLaws.{is_plain, plain_characters}
use Rattle.ifmap_elem.specs.laws.GoodElements.{IsGood, good_elements}

-- ---- 1. names and attributes

-- a namespace, and a name part, that are spelled out
pub plain_space : (space : List ℕ) → list_all is_plain space ≡ true → bytes_eq space xmlns_space ≡ false → IsNamespace space
plain_space space plain other = record {
  characters = plain_characters space (all_of_test is_plain space plain);
  not_reserved = not_from_Decides _ (bytes_eq-Decides space xmlns_space) other;
}

unfoldable pub is_plain_part : List ℕ → Bool
is_plain_part [] = false
is_plain_part (first ∷ others) = (list_all is_ascii (first ∷ others) && is_name_start first) && list_all is_name_character others

plain_name_of : (space local : List ℕ) → IsNamespace space → is_plain_part local ≡ true
    → IsFitName (record { space = space; local = local })
unfolding is_plain_part
plain_name_of space [] s h = absurd cc
plain_name_of space (first ∷ others) s h =
    let parts = and_parts (list_all is_ascii (first ∷ others) && is_name_start first) (list_all is_name_character others) h in
    let front = and_parts (list_all is_ascii (first ∷ others)) (is_name_start first) parts.0 in
    record {
      space = s;
      local = record {
        first = first;
        others = others;
        bytes_are = ascii_encoded (first ∷ others) (all_of_test is_ascii (first ∷ others) front.0);
        begins = front.1;
        goes_on = all_of_test is_name_character others parts.1;
      };
    }

-- the test of a spelled-out name part, where it may be computed
abbrev pub IsPlainPart : List ℕ → Type 0
IsPlainPart local = is_plain_part local ≡ true

pub plain_name : (space local : List ℕ) → IsNamespace space → IsPlainPart local → IsFitName (record { space = space; local = local })
plain_name space local s h = plain_name_of space local s h

pub bare_fits : (local : List ℕ) → IsPlainPart local → IsFitName (bare_name local)
bare_fits local h = plain_name [] local no_namespace h

same_local : (one other : List ℕ) → bytes_eq one other ≡ false → bare_name one ≢ bare_name other
same_local one other apart e = not_from_Decides _ (bytes_eq-Decides one other) apart (ap (λ (n : Name). n.local) e)

pub attribute_fits : (local value : List ℕ) → IsPlainPart local → bytes_eq local (codes "xmlns") ≡ false → IsCharacters value
    → IsFitAttribute (bare_attribute local value)
attribute_fits local value plain other h = record {
  name = bare_fits local plain;
  no_declaration = same_local local (codes "xmlns") other;
  value = h;
}

-- two, and three, names that differ
pub two_differ : (a b : List ℕ) → bytes_eq a b ≡ false → AllDiffer (bare_name a ∷ (bare_name b ∷ []))
two_differ a b ab = ((same_local a b ab, tt), (tt, tt))

pub three_differ : (a b c : List ℕ) → bytes_eq a b ≡ false → bytes_eq a c ≡ false → bytes_eq b c ≡ false
    → AllDiffer (bare_name a ∷ (bare_name b ∷ (bare_name c ∷ [])))
three_differ a b c ab ac bc = ((same_local a b ab, (same_local a c ac, tt)), two_differ b c bc)

-- ---- 2. elements

-- of a text
pub good_text : (name : Name) → IsFitName name → (text : List ℕ) → IsCharacters text
    → IsGood 1 (record { name = name; attributes = []; children = text_children text })
good_text name fits [] h = good_elements name [] fits tt tt refl 0 [] tt
good_text name fits (b ∷ bs) h =
    let text = b ∷ bs in
    let e : Element = record { name = name; attributes = []; children = the.Text text ∷ [] } in
    let parts : map out-Child (the.Text text ∷ []) ≡ Child-F.Text text ∷ [] = λ i. out_text text i ∷ [] in
    let children : AreFitChildren (Child-F.Text text ∷ []) =
    record { texts = ((first_there b bs, h), tt); apart = tt; beside = λ any. absurd (no_element any) } in
    record {
      fit = fit_whole e (record { name = fits; attributes = tt; names_differ = tt; children = subst AreFitChildren (sym parts) children })
          (subst (AllByRecursion IsFitAlone) (sym (nothing_inside text)) tt);
      arranged = arranged_is e ∙ (λ i. record { name = name; attributes = []; children = arranged_text text i ∷ [] });
      within =
          let is : nesting e ≡ suc (greatest_of (child_nesting (the.Text text) ∷ [])) = at_element ℕ ℕ child_levels element_levels e in
          let none : child_nesting (the.Text text) ≡ 0 = at_child_text ℕ ℕ child_levels element_levels text in
          omega (arith, is, none);
    }
  where
    no_element : IsTrue (list_any is_element (Child-F.Text (b ∷ bs) ∷ [])) → ⊥
    no_element any = let wrong : false ≡ true = any in cc

    nothing_inside : (text : List ℕ) → flat_map elements_of_child (the.Text text ∷ []) ≡ []
    nothing_inside text = ap (λ (xs : List Element). xs ++ []) (elements_text text)
