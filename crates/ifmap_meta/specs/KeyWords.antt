-- A number for each key, by which most keys are told apart at once: each text of what it is made of stands with its end.
use Rattle.std.specs.Prelude.{ℕ, ◌+◌, ◌*◌, ◌%◌, ◌^◌, cond, List, [], ◌∷◌, ◌++◌}
use Rattle.std.specs.List.{flat_map}
use Rattle.ifmap_elem.specs.declared.elements.Attribute.{Attribute}
use Rattle.ifmap_elem.specs.declared.elements.Child.{Child, fold-Child}
use Rattle.ifmap_elem.specs.declared.elements.Child.TheOpen.{Child-F, Element-F}
use Rattle.ifmap_elem.specs.declared.elements.Element.{Element, fold-Element}
use Rattle.ifmap_elem.specs.declared.elements.Name.{Name}
use Rattle.ifmap_meta.specs.Cardinality.{is_single}
use Rattle.ifmap_meta.specs.Stamps.{without_stamps}

-- what stands after each text: the first number that is no byte
abbrev pub text_end : ℕ
text_end = 256

-- a text and its end
abbrev pub end_part : List ℕ → List ℕ
end_part text = text ++ text_end ∷ []

abbrev pub name_parts : Name → List ℕ
name_parts n = end_part n.space ++ end_part n.local

abbrev pub attribute_parts : Attribute → List ℕ
attribute_parts a = name_parts a.name ++ end_part a.value

abbrev pub child_parts_of : Child-F (List ℕ) (List ℕ) → List ℕ
child_parts_of (Child-F.Element parts) = parts
child_parts_of (Child-F.Text text) = end_part text

abbrev pub element_parts_of : Element-F (List ℕ) (List ℕ) → List ℕ
element_parts_of e =
    name_parts e.name ++ (flat_map attribute_parts e.attributes ++ flat_map (λ parts. parts) e.children)

-- the names, values and texts in an element, one after another
abbrev pub parts_of : Element → List ℕ
parts_of = fold-Element (List ℕ) (List ℕ) child_parts_of element_parts_of

abbrev pub parts_of_child : Child → List ℕ
parts_of_child = fold-Child (List ℕ) (List ℕ) child_parts_of element_parts_of

-- the word after one more number: the word times a prime, and the number added, within 64 bits
abbrev pub mix : ℕ → ℕ → ℕ
mix word b = (word * 1_099_511_628_211 % 2 ^ 64 + b) % 2 ^ 64

-- the word after more numbers
abbrev pub mix_all : ℕ → List ℕ → ℕ
mix_all word [] = word
mix_all word (b ∷ bs) = mix_all (mix word b) bs

-- what the word of a key is made of: the name, and where there may be many, the content
abbrev pub key_parts : Element → List ℕ
key_parts e =
    name_parts e.name ++ cond (is_single e) [] (flat_map attribute_parts (without_stamps e.attributes)
    ++ flat_map parts_of_child e.children)

-- the word of the key, but for the publisher
abbrev pub key_word : Element → ℕ
key_word e = mix_all 0 (key_parts e)
