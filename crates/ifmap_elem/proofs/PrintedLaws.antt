-- What an element is printed as, piece by piece.
use Rattle.std.proofs.Common.{◌≡◌, ◌≢◌, ℕ, ◌+◌, ◌<◌, List, [], ◌∷◌, ◌++◌, map, take, length, get_or, refl, ap, sym, ◌∙◌, Bor}
use Rattle.std.proofs.Common.{append_assoc, arith}
use Rattle.std.proofs.lemmas.List.{take_more, length-take-le, append-nil}
use Rattle.std.proofs.lemmas.List.Concat.{flat_map-append}
use Rattle.std.specs.Prelude.{codes}
use Rattle.std.specs.List.{flat_map}
use Rattle.ifmap_lemmas.specs.Numerals.{numeral}
use Rattle.ifmap_elem.specs.Folds.{at_element}
use Rattle.ifmap_elem.specs.Arranged.{arrange, arrange_child, sort_attributes}
use Rattle.ifmap_elem.specs.Namespaces.{namespaces, numbered_prefixes, name_prefixes}
use Rattle.ifmap_elem.specs.Canonical.{printed_name, declaration_bytes, attribute_bytes, after_attributes_bytes, element_of_parts}
use Rattle.ifmap_elem.specs.Canonical.{child_piece, element_piece, child_bytes, element_bytes, written_bytes}
use Rattle.ifmap_elem.specs.declared.elements.Attribute.{Attribute}
use Rattle.ifmap_elem.specs.declared.elements.Child.{Child}
use Rattle.ifmap_elem.specs.declared.elements.Element.{Element}
use Rattle.ifmap_elem.specs.laws.ArrangedLaws.{arranged_is}
use Rattle.ifmap_elem.specs.laws.NamespaceLaws.{prefix_rows-push}
use Rattle.std.proofs.lemmas.Simd.{map-map}
use Rattle.ifmap_lemmas.specs.Lists.{concat_map}
use Rattle.ifmap_lemmas.specs.Joined.{joined_twice}

abbrev PrefixRows : Type 0
PrefixRows = List (List ℕ × List ℕ)

pub content_written : (g : Child → List ℕ) (children : List Child) (name a b c d e f : List ℕ) → length children ≢ 0 → b ≡ a ++ codes ">"
    → c ≡ b ++ flat_map g children
    → d ≡ c ++ codes "</" → e ≡ d ++ name → f ≡ e ++ codes ">" → f ≡ a ++ after_attributes_bytes name (map g children)
content_written g [] name a b c d e f some p q r s t = absurd (some refl)
content_written g (child ∷ others) name a b c d e f some p q r s t =
    joined_twice a b f (codes ">") _ p
    (joined_twice b c f (flat_map g (child ∷ others)) _ q (joined_twice c d f (codes "</") _ r (joined_twice d e f name (codes ">") s t)))
    ∙ ap (λ l. a ++ (codes ">" ++ (l ++ (codes "</" ++ (name ++ codes ">"))))) (sym (concat_map g (child ∷ others)))

pub element_is : (prefixes : PrefixRows) (e : Element) → element_bytes prefixes (arrange e)
    ≡ element_of_parts prefixes [] e.name (sort_attributes e.attributes) (map (λ c. child_bytes prefixes (arrange_child c)) e.children)
element_is prefixes e =
    ap (element_bytes prefixes) (arranged_is e)
    ∙ at_element (List ℕ) (List ℕ) (child_piece prefixes) (element_piece prefixes)
    (record { name = e.name; attributes = sort_attributes e.attributes; children = map arrange_child e.children })
    ∙ ap (element_of_parts prefixes [] e.name (sort_attributes e.attributes)) (map-map (child_bytes prefixes) arrange_child e.children)

abbrev bytes_declaring : PrefixRows → PrefixRows → Element → List ℕ
bytes_declaring prefixes declared e = element_of_parts prefixes declared e.name e.attributes (map (child_bytes prefixes) e.children)

root_is : (prefixes declared : PrefixRows) (e : Element)
    → bytes_declaring prefixes declared (arrange e) ≡ element_of_parts prefixes declared e.name (sort_attributes e.attributes)
    (map (λ c. child_bytes prefixes (arrange_child c)) e.children)
root_is prefixes declared e =
    ap (bytes_declaring prefixes declared) (arranged_is e) ∙ ap (element_of_parts prefixes declared e.name (sort_attributes e.attributes))
    (map-map (child_bytes prefixes) arrange_child e.children)

pub root_printed : (element : Element) (given spaces : List (List ℕ)) (a b c d e f : List ℕ) → spaces ≡ namespaces (arrange element)
    → a ≡ codes "<" → b ≡ a ++ printed_name (name_prefixes spaces) element.name
    → c ≡ b ++ flat_map declaration_bytes (numbered_prefixes (codes "n") 1 spaces)
    → d ≡ c ++ flat_map declaration_bytes (numbered_prefixes (codes "f") 1 given)
    → e ≡ d ++ flat_map (attribute_bytes (name_prefixes spaces)) (sort_attributes element.attributes)
    → f ≡ e ++ after_attributes_bytes (printed_name (name_prefixes spaces) element.name)
    (map (λ c. child_bytes (name_prefixes spaces) (arrange_child c)) element.children)
    → f ≡ written_bytes element given
root_printed element given spaces a b c d e f are p q r s t u =
    let own = numbered_prefixes (codes "n") 1 spaces in
    let more = numbered_prefixes (codes "f") 1 given in
    let prefixes = name_prefixes spaces in
    joined_twice a b f (printed_name prefixes element.name) _ q
    (joined_twice b c f (flat_map declaration_bytes own) _ r (joined_twice c d f (flat_map declaration_bytes more) _ s
    (joined_twice d e f _ _ t u)))
    ∙ ap (λ l. l ++ (printed_name prefixes element.name ++ (flat_map declaration_bytes own ++ (flat_map declaration_bytes more ++ rest)))) p
    ∙ ap (λ l. codes "<" ++ (printed_name prefixes element.name ++ l))
    (sym (append_assoc (flat_map declaration_bytes own) (flat_map declaration_bytes more) rest))
    ∙ ap (λ l. codes "<" ++ (printed_name prefixes element.name ++ (l ++ rest))) (sym (flat_map-append declaration_bytes own more))
    ∙ sym (root_is prefixes (own ++ more) element)
    ∙ ap (λ (l : List (List ℕ)).
    bytes_declaring (name_prefixes l) (numbered_prefixes (codes "n") 1 l ++ numbered_prefixes (codes "f") 1 given)
    (arrange element)) are
  where
    rest : List ℕ
    rest =
        flat_map (attribute_bytes (name_prefixes spaces)) (sort_attributes element.attributes)
        ++ after_attributes_bytes (printed_name (name_prefixes spaces) element.name)
        (map (λ c. child_bytes (name_prefixes spaces) (arrange_child c)) element.children)

-- one more declaration
pub declarations_more : (letter : List ℕ) (xs : List (List ℕ)) (i : ℕ) (x : List ℕ) → i < length xs → x ≡ get_or xs i x
    → flat_map declaration_bytes (numbered_prefixes letter 1 (take (i + 1) xs)) ≡ flat_map declaration_bytes
    (numbered_prefixes letter 1 (take i xs)) ++ declaration_bytes (x, letter ++ numeral (i + 1))
declarations_more letter xs i x l is =
    let long : 1 + length (take i xs) ≡ i + 1 = omega (arith, length-take-le i xs (omega arith)) in
    let back : get_or xs i x ≡ x = sym is in
    ap (λ s. flat_map declaration_bytes (numbered_prefixes letter 1 s)) (take_more xs i x l)
    ∙ ap (flat_map declaration_bytes) (prefix_rows-push letter 1 (take i xs) (get_or xs i x))
    ∙ flat_map-append declaration_bytes (numbered_prefixes letter 1 (take i xs))
    ((get_or xs i x, letter ++ numeral (1 + length (take i xs))) ∷ [])
    ∙ ap (λ s. flat_map declaration_bytes (numbered_prefixes letter 1 (take i xs)) ++ s)
    (append-nil (declaration_bytes (get_or xs i x, letter ++ numeral (1 + length (take i xs))))
    ∙ (λ j. declaration_bytes (back j, letter ++ numeral (long j))))

pub referred_attributes : (prefixes : PrefixRows) (rs : List (Bor Attribute))
    → flat_map (λ (r : Bor Attribute). attribute_bytes prefixes r.now) rs ≡ flat_map (attribute_bytes prefixes)
    (map (λ (r : Bor Attribute). r.now) rs)
referred_attributes prefixes [] = refl
referred_attributes prefixes (r ∷ rs) = ap (λ l. attribute_bytes prefixes r.now ++ l) (referred_attributes prefixes rs)

pub declared_more : (letter : List ℕ) (xs : List (List ℕ)) (i : ℕ) (x prefix a b c : List ℕ) → i < length xs → x ≡ get_or xs i x
    → prefix ≡ letter ++ numeral (i + 1)
    → b ≡ a ++ flat_map declaration_bytes (numbered_prefixes letter 1 (take i xs)) → c ≡ b ++ declaration_bytes (x, prefix)
    → c ≡ a ++ flat_map declaration_bytes (numbered_prefixes letter 1 (take (i + 1) xs))
declared_more letter xs i x prefix a b c l is named was now =
    joined_twice a b c (flat_map declaration_bytes (numbered_prefixes letter 1 (take i xs))) (declaration_bytes (x, prefix)) was now
    ∙ ap (λ p. a ++ (flat_map declaration_bytes (numbered_prefixes letter 1 (take i xs)) ++ declaration_bytes (x, p))) named
    ∙ ap (λ s. a ++ s) (sym (declarations_more letter xs i x l is))
