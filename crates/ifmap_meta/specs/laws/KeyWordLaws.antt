-- The word of a key is mixed of one part after another, and what has one key has one word.
use Rattle.std.proofs.Common.{◌≡◌, ◌⊎◌, ℕ, List, [], ◌∷◌, ◌++◌, refl, sym, ap, ◌∙◌, inl, inr, Bool, true, cond, IsTrue, ◌&&◌}
use Rattle.std.proofs.Math.Bool.{beq}
use Rattle.std.proofs.lemmas.Bool.{and_parts}
use Rattle.std.specs.Cmp.{booleans_Decides}
use Rattle.std.specs.List.{flat_map}
use Rattle.std.specs.Str.{bytes_eq}
use Rattle.std.proofs.lemmas.List.Folds.{flat_map-map}
use Rattle.ifmap_elem.specs.declared.elements.Element.{Element}
use Rattle.ifmap_elem.specs.Folds.{at_element}
use Rattle.ifmap_lemmas.specs.Texts.{eq_tells}
use Rattle.ifmap_meta.specs.declared.stored.Stored.{Stored}
use Rattle.ifmap_meta.specs.Cardinality.{is_single}
use Rattle.ifmap_meta.specs.Keys.{HaveOneKey, word_of}
use Rattle.ifmap_meta.specs.KeyWords.{attribute_parts, parts_of, parts_of_child, child_parts_of, element_parts_of, end_part, key_parts, mix, mix_all, name_parts}
use Rattle.ifmap_meta.specs.Stamps.{content_of}

pub mix_append : (word : ℕ) (xs ys : List ℕ) → mix_all word (xs ++ ys) ≡ mix_all (mix_all word xs) ys
mix_append word [] ys = refl
mix_append word (x ∷ xs) ys = mix_append (mix word x) xs ys

pub parts_are : (e : Element) → parts_of e
    ≡ name_parts e.name ++ (flat_map attribute_parts e.attributes ++ flat_map parts_of_child e.children)
parts_are e =
    at_element (List ℕ) (List ℕ) child_parts_of element_parts_of e
    ∙ ap (λ cs. name_parts e.name ++ (flat_map attribute_parts e.attributes ++ cs))
    (flat_map-map (λ (cs : List ℕ). cs) parts_of_child e.children)

-- where the test is true, what it chooses besides makes no difference
first_alone : (p q : Bool) (xs ys : List ℕ) → p ≡ true → p ≡ q → cond p [] xs ≡ cond q [] ys
first_alone p q xs ys s e = ap (λ b. cond b [] xs) s ∙ sym (ap (λ b. cond b [] ys) (sym e ∙ s))

content_parts : Element → List ℕ
content_parts e = flat_map attribute_parts e.attributes ++ flat_map parts_of_child e.children

abbrev OfOneContent : Stored → Stored → Type 0
OfOneContent a b = IsTrue (is_single a.element) ⊎ ((a.publisher ≡ b.publisher) × (content_of a.element ≡ content_of b.element))

module _ (a b : Stored) (single : is_single a.element ≡ is_single b.element) where
  contents_agree : OfOneContent a b → cond (is_single a.element) [] (content_parts (content_of a.element))
      ≡ cond (is_single b.element) [] (content_parts (content_of b.element))
  contents_agree (inl s) =
      first_alone (is_single a.element) (is_single b.element) (content_parts (content_of a.element)) (content_parts (content_of b.element))
      s single
  contents_agree (inr p) = λ i. cond (single i) [] (content_parts (p.1 i))

  publishers_agree : OfOneContent a b → cond (is_single a.element) [] (end_part a.publisher)
      ≡ cond (is_single b.element) [] (end_part b.publisher)
  publishers_agree (inl s) =
      first_alone (is_single a.element) (is_single b.element) (end_part a.publisher) (end_part b.publisher) s single
  publishers_agree (inr p) = λ i. cond (single i) [] (end_part (p.0 i))

  parts_agree : a.element.name.space ≡ b.element.name.space → a.element.name.local ≡ b.element.name.local → OfOneContent a b
      → key_parts a.element ≡ key_parts b.element
  unfolding content_parts
  parts_agree space local one = λ i. (end_part (space i) ++ end_part (local i)) ++ contents_agree one i

pub words_agree : (a b : Stored) → HaveOneKey a b → word_of a ≡ word_of b
unfolding word_of
words_agree a b h =
    let parts = and_parts (bytes_eq a.element.name.space b.element.name.space && bytes_eq a.element.name.local b.element.name.local)
    (beq (is_single a.element) (is_single b.element)) h.0 in
    let names =
    and_parts (bytes_eq a.element.name.space b.element.name.space) (bytes_eq a.element.name.local b.element.name.local) parts.0 in
    let single = (booleans_Decides (is_single a.element) (is_single b.element)).0 parts.1 in
    let of_elements = parts_agree a b single (eq_tells a.element.name.space b.element.name.space names.0)
    (eq_tells a.element.name.local b.element.name.local names.1) h.1 in
    let of_publishers = publishers_agree a b single h.1 in
    λ i. mix_all (mix_all 0 (of_elements i)) (of_publishers i)
