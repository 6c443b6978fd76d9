-- How deep the elements nest that a reader has read, and those that it can go on to.
use Rattle.std.proofs.Common.{◌≡◌, ℕ, ◌<◌, ◌≤◌, suc, Bool, true, false, cond, ◌||◌, max, List, [], ◌∷◌, ◌++◌, length, map, refl, ap, ◌∙◌, arith}
use Rattle.std.proofs.lemmas.List.{map-append}
use Rattle.ifmap_elem.specs.declared.elements.Child.{Child}
use Rattle.ifmap_elem.specs.declared.elements.Child as the
use Rattle.ifmap_elem.specs.declared.elements.Element.{Element}
use Rattle.ifmap_elem.specs.declared.readings.Declared.{Declared}
use Rattle.ifmap_elem.specs.declared.readings.Reading.{Reading}
use Rattle.ifmap_elem.specs.declared.tokens.Token.{Token}
use Rattle.ifmap_elem.specs.Document.{ContentItem, Run, is_child, child_of}
use Rattle.ifmap_elem.specs.Folds.{at_element, at_child_element, at_child_text}
use Rattle.ifmap_elem.specs.Nesting.{greatest_of, nesting, child_nesting, child_levels, element_levels}
use Rattle.ifmap_reader.specs.declared.open_elements.OpenElement.{OpenElement}
use Rattle.ifmap_reader.specs.Depths.{levels}
use Rattle.ifmap_reader.specs.OpenElements.{Closes, has_children, children_to_come, is_child_text, text_child, with_inner}
use Rattle.ifmap_reader.specs.Progress.{Where, AtStart, Within, AfterRoot, Closing, IsDocumentFrom, after_element, depth_read}

-- the greatest nesting of some children
abbrev pub children_nesting : List Child → ℕ
children_nesting cs = greatest_of (map child_nesting cs)

greatest_append : (ms ns : List ℕ) → greatest_of (ms ++ ns) ≡ max (greatest_of ms) (greatest_of ns)
greatest_append [] ns = omega arith
greatest_append (m ∷ ms) ns = let h = greatest_append ms ns in omega (arith, h)

children_nesting_append : (cs ds : List Child) → children_nesting (cs ++ ds) ≡ max (children_nesting cs) (children_nesting ds)
children_nesting_append cs ds =
    ap greatest_of (map-append child_nesting cs ds) ∙ greatest_append (map child_nesting cs) (map child_nesting ds)

nesting_is : (e : Element) → nesting e ≡ suc (children_nesting e.children)
nesting_is e = at_element ℕ ℕ child_levels element_levels e

element_nests : (e : Element) → child_nesting (the.Element e) ≡ nesting e
element_nests e = at_child_element ℕ ℕ child_levels element_levels e

text_nests : (t : List ℕ) → child_nesting (the.Text t) ≡ 0
text_nests t = at_child_text ℕ ℕ child_levels element_levels t

one_text : (b : Bool) (t : List ℕ) → children_nesting (map child_of (cond b (Run t ∷ []) [])) ≡ 0
one_text true t = let h = text_nests t in omega (arith, h)
one_text false t = refl

children_deep : (f : OpenElement) (items : List ContentItem) (e : Element) (d : List Declared) → Closes f items e d
    → nesting e ≡ suc (max (children_nesting f.children) (children_nesting (map child_of (children_to_come f items))))
children_deep f items e d c =
    nesting_is e ∙ ap (λ (y : Element). suc (children_nesting y.children)) c.element_is
    ∙ ap suc (children_nesting_append f.children (map child_of (children_to_come f items)))

-- an element that ends
pub closed_nests : (f : OpenElement) (e : Element) (d : List Declared) → Closes f [] e d → nesting e ≡ suc (children_nesting f.children)
closed_nests f e d c =
    let h = children_deep f [] e d c in
    let t : children_nesting (map child_of (children_to_come f [])) ≡ 0 =
    one_text (is_child (has_children f || false) (Run f.text)) f.text in
    omega (arith, h, t)

one_child : (b : Bool) (t : List ℕ) → children_nesting (cond b (the.Text t ∷ []) []) ≡ 0
one_child true t = let h = text_nests t in omega (arith, h)
one_child false t = refl

inner_deep : (g : OpenElement) (e : Element) (d : List Declared)
    → children_nesting (with_inner g e d).children ≡ max (children_nesting g.children) (nesting e)
inner_deep g e d =
    let h = children_nesting_append (g.children ++ text_child true g.text) (the.Element e ∷ []) in
    let k = children_nesting_append g.children (text_child true g.text) in
    let t : children_nesting (text_child true g.text) ≡ 0 = one_child (is_child_text true g.text) g.text in
    let l = element_nests e in
    omega (arith, h, k, t, l)

-- after an element that ended nothing is deeper than before
pub after_element_fits : (n : ℕ) (f : OpenElement) (fs : List OpenElement) (e : Element) (d : List Declared) → Closes f [] e d
    → levels (f ∷ fs) ≤ n → depth_read (after_element fs e d) ≤ n
after_element_fits n f [] e d c fits = let h = closed_nests f e d c in omega (arith, h, fits)
after_element_fits n f (g ∷ gs) e d c fits =
    let h = closed_nests f e d c in
    let k = inner_deep g e d in
    omega (arith, h, k, fits)

-- and no less deep
pub after_element_deep : (f : OpenElement) (fs : List OpenElement) (e : Element) (d : List Declared) → Closes f [] e d
    → length fs < depth_read (after_element fs e d)
after_element_deep f [] e d c = let h = closed_nests f e d c in omega (arith, h)
after_element_deep f (g ∷ gs) e d c =
    let h = closed_nests f e d c in
    let k = inner_deep g e d in
    omega (arith, h, k)

closing_deep : (f : OpenElement) (fs : List OpenElement) (ts : List Token) (r : Reading) → Closing f fs ts r
    → levels (f ∷ fs) ≤ nesting r.root
closing_deep f [] ts r x =
    let h = children_deep f x.items x.element x.declared x.closes in
    let s = ap (λ (y : Reading). nesting y.root) x.goes_on.same in
    omega (arith, h, s)
closing_deep f (g ∷ gs) ts r x =
    let h = children_deep f x.items x.element x.declared x.closes in
    let k = inner_deep g x.element x.declared in
    let l = closing_deep (with_inner g x.element x.declared) gs x.rest r x.goes_on in
    omega (arith, h, k, l)

-- what goes on nests at least as deep as what has been read
pub goes_deep : (w : Where) (ts : List Token) (r : Reading) → IsDocumentFrom w ts r → depth_read w ≤ nesting r.root
goes_deep AtStart ts r x = omega arith
goes_deep (Within []) ts r x = omega arith
goes_deep (Within (f ∷ fs)) ts r x = closing_deep f fs ts r x
goes_deep (AfterRoot root) ts r x = let s = ap (λ (y : Reading). nesting y.root) x.same in omega (arith, s)
