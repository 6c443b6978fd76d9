-- The element that fit tokens mean is fit, and so is what it declares.
-- 1. The scope within a fit tag binds to namespaces that fit (`within_fits`, `bound_fits`).
-- 2. So the attributes that a tag gives fit (`attributes_fit`).
-- 3. The children among fit items are texts apart, none of them blank beside elements
--    (`children_fit`); the elements in them fit alone (`inner_fit`).
-- 4. So do declarations (`declared_fit`), and with all of these the element (`element_fits`).
-- 5. By induction over pieces each item fits (`means_fit`), so what bytes spell does
--    (`spelled_fits`).
use Rattle.std.proofs.Common.{◌≡◌, ◌≢◌, ℕ, ◌+◌, Bool, true, false, List, [], ◌∷◌, map, refl, ap, sym, ◌∙◌, subst, inl, inr}
use Rattle.std.specs.Prelude.{◌&&◌, if◌then◌else◌, codes, filter, Option, Some, None, IfSome, is_none}
use Rattle.std.specs.List.{AllByRecursion, cons_option, filter_map, flat_map, list_all, list_any}
use Rattle.std.specs.Str.{bytes_eq}
use Rattle.std.proofs.lemmas.Bool.{and_from, cases_Bool}
use Rattle.ifmap_elem.specs.Chars.{IsCharacters, IsWhite, is_character, is_white}
use Rattle.ifmap_elem.specs.Document as piece
use Rattle.ifmap_elem.specs.Document.{Pieces, Nothing, tokens_of, ContentItem, Inner, Run, child_of, declared_below, declared_here, from_above, heading, is_inner, is_child, join_runs, children_among, put_before, IsElement, AreItems}
use Rattle.ifmap_elem.specs.laws.Roots.{BeginsWithRoot, root_begins}
use Rattle.ifmap_elem.specs.Fit.{IsNamespace, IsFitAttribute, HasCharacters, IsNotBlank, AreApart, is_element, AreFitChildren, IsFitAlone, IsFit}
use Rattle.ifmap_elem.specs.Names.{IsNamePart}
use Rattle.ifmap_elem.specs.Scopes.{Scope, Binding, IsBinding, IsAttribute, AreAttributes, attribute_space, binding_of, bindings, prefix_space, root_scope, scope_within, xml_space, xmlns_space}
use Rattle.ifmap_elem.specs.Spells.{Spells, without_byte_order_mark}
use Rattle.ifmap_elem.specs.declared.elements.Attribute.{Attribute}
use Rattle.ifmap_elem.specs.declared.elements.Child.{Child, out-Child}
use Rattle.ifmap_elem.specs.declared.elements.Element.{Element}
use Rattle.ifmap_elem.specs.declared.elements.Name.{Name}
use Rattle.ifmap_elem.specs.declared.readings.Declared.{Declared}
use Rattle.ifmap_elem.specs.declared.readings.Reading.{Reading}
use Rattle.ifmap_elem.specs.declared.tokens.Assignment.{Assignment}
use Rattle.ifmap_elem.specs.declared.tokens.Tag.{Tag}
use Rattle.ifmap_elem.specs.declared.tokens.Token.TheVariants.{End}
use Rattle.ifmap_lemmas.specs.Members.{all_both, both_all, all_of_test}
use Rattle.ifmap_elem.specs.laws.FitLaws.{elements_in, elements_of_child, elements_text, fit_whole, out_text, no_namespace}
use Rattle.ifmap_lemmas.specs.Texts.{eq_tells, ascii_encoded, is_ascii}
use Rattle.ifmap_lemmas.specs.Apart.{told_apart}
use Rattle.ifmap_reader.proofs.FitTokens.{IsFitAssignment, IsFitTag, IsFitToken, tokens_fit}
use Rattle.ifmap_elem.specs.laws.CharacterLaws.{characters_both}
use Rattle.ifmap_elem.specs.laws.ArrangedLaws.{out_element}
use Rattle.ifmap_elem.specs.laws.PrintedElements.{item_child}

-- scopes

record IsFitBinding (b : Binding) : Type 0 where
  space : IsNamespace b.space
  some : b.prefix ≢ [] → b.space ≢ []

abbrev IsFitScope : Scope → Type 0
IsFitScope scope = AllByRecursion IsFitBinding scope

root_fits : IsFitScope root_scope
root_fits = (
  record {
    space = record {
      characters = (
        xml_space,
        ascii_encoded xml_space
            (all_of_test is_ascii xml_space refl),
        all_of_test is_character xml_space refl,
      );
      not_reserved = told_apart xml_space xmlns_space
          refl;
    };
    some = λ e. told_apart xml_space [] refl;
  },
  (record { space = no_namespace; some = λ some. absurd (some refl) }, tt),
)

bound_characters : (a : Assignment) → IsCharacters a.value → IfSome (binding_of a) (λ b. IsCharacters b.space)
bound_characters a i = elim (cases_Bool (bytes_eq a.name.prefix (codes "xmlns"))) [
  | inl e ↦ rw e i
  | inr e ↦ elim (cases_Bool (bytes_eq a.name.prefix [] && bytes_eq a.name.local (codes "xmlns"))) [
    | inl f ↦ rw (e, f) i
    | inr f ↦ rw (e, f) tt
  ]
]

one_more : (o : Option Binding) (bs : List Binding) → IfSome o (λ b. IsCharacters b.space) → AllByRecursion IsBinding (cons_option o bs)
    → (AllByRecursion IsBinding bs → IsFitScope bs)
    → IsFitScope (cons_option o bs)
one_more None bs i h rest = rest h
one_more (Some b) bs i h rest =
    (record { space = record { characters = i; not_reserved = h.0.no_xmlns_space }; some = h.0.some_space }, rest h.1)

bindings_fit : (assignments : List Assignment) → AllByRecursion IsFitAssignment assignments
    → AllByRecursion IsBinding (filter_map binding_of assignments) → IsFitScope (filter_map binding_of assignments)
bindings_fit [] f g = tt
bindings_fit (a ∷ as') f g = one_more (binding_of a) (filter_map binding_of as') (bound_characters a f.0.value) g (bindings_fit as' f.1)

within_fits : (outer : Scope) (tag : Tag) → IsFitScope outer → IsFitTag tag → AllByRecursion IsBinding (bindings tag)
    → IsFitScope (scope_within outer tag)
within_fits outer tag f t binds = both_all IsFitBinding (bindings tag) outer (bindings_fit tag.assignments t.assignments binds) f

bound_fits : (scope : Scope) → IsFitScope scope → (prefix space : List ℕ) → prefix_space scope prefix ≡ Some space
    → IsNamespace space × (prefix ≢ [] → space ≢ [])
bound_fits [] f prefix space e = cc
bound_fits (b ∷ bs) f prefix space e = elim (cases_Bool (bytes_eq b.prefix prefix)) [
  | inl h ↦
      let found : Some b.space ≡ Some space = rw h at e in
      let same : b.space ≡ space = cc in
      (subst IsNamespace same f.0.space, λ some none. f.0.some (λ p. some (sym (eq_tells b.prefix prefix h) ∙ p)) (same ∙ none))
  | inr h ↦ bound_fits bs f.1 prefix space (rw h at e)
]

-- attributes

space_fits : (scope : Scope) → IsFitScope scope → (prefix space : List ℕ) → attribute_space scope prefix ≡ Some space
    → IsNamespace space × (prefix ≢ [] → space ≢ [])
space_fits scope f [] space e = let none : [] ≡ space = cc in (subst IsNamespace none no_namespace, λ some. absurd (some refl))
space_fits scope f (b ∷ bs) space e = bound_fits scope f (b ∷ bs) space e

-- `xmlns` without a prefix binds
abbrev bound_by : List ℕ → List ℕ → List ℕ → Option Binding
bound_by value prefix local =
    if bytes_eq prefix (codes "xmlns") then Some (record { prefix = local; space = value })
    else (if bytes_eq prefix [] && bytes_eq local (codes "xmlns") then Some (record { prefix = []; space = value }) else None)

declares : (a : Assignment) → a.name.prefix ≡ [] → a.name.local ≡ codes "xmlns" → is_none (binding_of a) ≡ false
declares a p l = λ i. is_none (bound_by a.value (p i) (l i))

attribute_fits : (scope : Scope) (a : Assignment) (t : Attribute) → IsFitScope scope → IsFitAssignment a → is_none (binding_of a) ≡ true
    → IsAttribute scope a t → IsFitAttribute t
attribute_fits scope a t f fit plain is =
    let space = space_fits scope f a.name.prefix t.name.space is.space_is in
    record {
      name = record { space = space.0; local = subst IsNamePart (sym is.local_is) fit.name.local_is };
      no_declaration = λ e. none_prefixed (ap (λ (n : Name). n.space) e) (sym is.local_is ∙ ap (λ (n : Name). n.local) e) space.1;
      value = subst IsCharacters (sym is.value_is) fit.value;
    }
  where
    none_prefixed : t.name.space ≡ [] → a.name.local ≡ codes "xmlns" → (a.name.prefix ≢ [] → t.name.space ≢ []) → ⊥
    none_prefixed none local some = some (λ p. let wrong : true ≡ false = sym plain ∙ declares a p local in cc) none

abbrev AreFit : Scope → List Assignment → Type 0
AreFit scope plain = (ts : List Attribute) → AreAttributes scope plain ts → AllByRecursion IsFitAttribute ts

one_fits : (scope : Scope) (a : Assignment) (plain : List Assignment) → ((t : Attribute) → IsAttribute scope a t → IsFitAttribute t)
    → AreFit scope plain → AreFit scope (a ∷ plain)
one_fits scope a plain first others [] h = absurd h
one_fits scope a plain first others (t ∷ ts) h = (first t h.0, others ts h.1)

attributes_fit : (scope : Scope) → IsFitScope scope → (assignments : List Assignment) → AllByRecursion IsFitAssignment assignments
    → AreFit scope (filter (λ a. is_none (binding_of a)) assignments)
attributes_fit scope f [] g [] h = tt
attributes_fit scope f [] g (t ∷ ts) h = absurd h
attributes_fit scope f (a ∷ as') g ts h = elim (cases_Bool (is_none (binding_of a))) [
  | inl e ↦ one_fits scope a (filter (λ b. is_none (binding_of b)) as') (λ t is. attribute_fits scope a t f g.0 e is)
      (attributes_fit scope f as' g.1) ts (rw e at h)
  | inr e ↦ attributes_fit scope f as' g.1 ts (rw e at h)
]

-- children

-- each namespace that is declared is one that a document can declare, or none
abbrev pub IsFitDeclared : Declared → Type 0
IsFitDeclared d = IsNamespace d.space

abbrev pub AreFitDeclared : List Declared → Type 0
AreFitDeclared declared = AllByRecursion IsFitDeclared declared

abbrev IsFitItem : ContentItem → Type 0
IsFitItem (Inner e declared) = IsFit e × AreFitDeclared declared
IsFitItem (Run text) = IsCharacters text

children_inside : (items : List ContentItem) → map out-Child (map child_of items) ≡ map item_child items
children_inside [] = refl
children_inside (Inner e d ∷ items) = λ i. out_element e i ∷ children_inside items i
children_inside (Run t ∷ items) = λ i. out_text t i ∷ children_inside items i

-- texts beside each other are joined

put_fits : (text : List ℕ) (items : List ContentItem) → IsCharacters text → AllByRecursion IsFitItem items
    → AllByRecursion IsFitItem (put_before text items)
put_fits text [] i f = (i, tt)
put_fits text (Inner e d ∷ items) i f = (i, f)
put_fits text (Run more ∷ items) i f = (characters_both text more i f.0, f.1)

joined_fits : (items : List ContentItem) → AllByRecursion IsFitItem items → AllByRecursion IsFitItem (join_runs items)
joined_fits [] f = tt
joined_fits (Inner e d ∷ items) f = (f.0, joined_fits items f.1)
joined_fits (Run t ∷ items) f = put_fits t (join_runs items) f.0 (joined_fits items f.1)

put_apart : (text : List ℕ) (items : List ContentItem) → AreApart (map item_child items) → AreApart (map item_child (put_before text items))
put_apart text [] a = tt
put_apart text (Inner e d ∷ items) a = a
put_apart text (Run more ∷ []) a = tt
put_apart text (Run more ∷ (Inner e d ∷ items)) a = a
put_apart text (Run more ∷ (Run another ∷ items)) a = absurd a

joined_apart : (items : List ContentItem) → AreApart (map item_child (join_runs items))
joined_apart [] = tt
joined_apart (Inner e d ∷ items) = joined_apart items
joined_apart (Run t ∷ items) = put_apart t (join_runs items) (joined_apart items)

put_inner : (text : List ℕ) (items : List ContentItem) → list_any is_inner (put_before text items) ≡ list_any is_inner items
put_inner text [] = refl
put_inner text (Inner e d ∷ items) = refl
put_inner text (Run more ∷ items) = refl

joined_inner : (items : List ContentItem) → list_any is_inner (join_runs items) ≡ list_any is_inner items
joined_inner [] = refl
joined_inner (Inner e d ∷ items) = refl
joined_inner (Run t ∷ items) = put_inner t (join_runs items) ∙ joined_inner items

-- of these some are children_among

module _ (beside : Bool) where
  abbrev child_items : List ContentItem → List ContentItem
  child_items items = filter (is_child beside) items

  left_fits : (items : List ContentItem) → AllByRecursion IsFitItem items → AllByRecursion IsFitItem (child_items items)
  left_fits [] f = tt
  left_fits (item ∷ items) f = elim (cases_Bool (is_child beside item)) [
    | inl e ↦ rw e (f.0, left_fits items f.1)
    | inr e ↦ rw e (left_fits items f.1)
  ]

  left_apart : (items : List ContentItem) → AreApart (map item_child items) → AreApart (map item_child (child_items items))
  left_apart [] a = tt
  left_apart (Inner e d ∷ items) a = left_apart items a
  left_apart (Run t ∷ []) a = elim (cases_Bool (is_child beside (Run t))) [ inl k ↦ rw k tt | inr k ↦ rw k tt ]
  left_apart (Run t ∷ (Inner e d ∷ items)) a =
      elim (cases_Bool (is_child beside (Run t))) [ inl k ↦ rw k (left_apart items a) | inr k ↦ rw k (left_apart items a) ]
  left_apart (Run t ∷ (Run u ∷ items)) a = absurd a

  left_inner : (items : List ContentItem) → list_any is_element (map item_child (child_items items)) ≡ list_any is_inner items
  left_inner [] = refl
  left_inner (Inner e d ∷ items) = refl
  left_inner (Run t ∷ items) =
      elim (cases_Bool (is_child beside (Run t))) [ inl k ↦ rw k (left_inner items) | inr k ↦ rw k (left_inner items) ]

some_kept : (beside : Bool) (text : List ℕ) → is_child beside (Run text) ≡ true → text ≢ []
some_kept true [] k e = cc
some_kept false [] k e = cc
some_kept beside (b ∷ bs) k e = cc

of_each : (bs : List ℕ) → IsWhite bs → list_all is_white bs ≡ true
of_each [] f = refl
of_each (b ∷ bs) f = and_from (is_white b) (list_all is_white bs) f.0 (of_each bs f.1)

left_texts : (beside : Bool) (items : List ContentItem) → AllByRecursion IsFitItem items
    → AllByRecursion HasCharacters (map item_child (filter (is_child beside) items))
left_texts beside [] f = tt
left_texts beside (Inner e d ∷ items) f = (tt, left_texts beside items f.1)
left_texts beside (Run t ∷ items) f = elim (cases_Bool (is_child beside (Run t))) [
  | inl k ↦ rw k ((some_kept beside t k, f.0), left_texts beside items f.1)
  | inr k ↦ rw k (left_texts beside items f.1)
]

left_not_blank : (items : List ContentItem) → AllByRecursion IsNotBlank (map item_child (filter (is_child true) items))
left_not_blank [] = tt
left_not_blank (Inner e d ∷ items) = (tt, left_not_blank items)
left_not_blank (Run t ∷ items) = elim (cases_Bool (list_all is_white t)) [
  | inl k ↦ rw k (left_not_blank items)
  | inr k ↦ rw k ((λ blank. let wrong : true ≡ false = sym (of_each t blank) ∙ k in cc), left_not_blank items)
]

children_fit : (items : List ContentItem) → AllByRecursion IsFitItem items → AreFitChildren (map item_child (children_among items))
children_fit items f = record {
  texts = left_texts (list_any is_inner items) (join_runs items) (joined_fits items f);
  apart = left_apart (list_any is_inner items) (join_runs items) (joined_apart items);
  beside = λ any.
      let inner : list_any is_inner items ≡ true =
      sym (left_inner (list_any is_inner items) (join_runs items) ∙ joined_inner items) ∙ any in
      subst (λ (b : Bool). AllByRecursion IsNotBlank (map item_child (filter (is_child b) (join_runs items)))) (sym inner)
      (left_not_blank (join_runs items));
}

inner_fit : (items : List ContentItem) → AllByRecursion IsFitItem items
    → AllByRecursion IsFitAlone (flat_map elements_of_child (map child_of items))
inner_fit [] f = tt
inner_fit (Inner e d ∷ items) f =
    both_all IsFitAlone _ _ (subst (AllByRecursion IsFitAlone) (sym (elements_in e)) f.0.0) (inner_fit items f.1)
inner_fit (Run t ∷ items) f = both_all IsFitAlone _ _ (subst (AllByRecursion IsFitAlone) (sym (elements_text t)) tt) (inner_fit items f.1)

-- declarations

here_fit : (bs : List Binding) → IsFitScope bs → AreFitDeclared (declared_here bs)
here_fit [] f = tt
here_fit (b ∷ bs) f = (f.0.space, here_fit bs f.1)

above_fit : (index : ℕ) (declared : List Declared) → AreFitDeclared declared → AreFitDeclared (map (from_above index) declared)
above_fit index [] f = tt
above_fit index (d ∷ declared) f = (f.0, above_fit index declared f.1)

below_fit : (index : ℕ) (items : List ContentItem) → AllByRecursion IsFitItem items → AreFitDeclared (declared_below index items)
below_fit index [] f = tt
below_fit index (Inner e declared ∷ items) f =
    both_all IsFitDeclared (map (from_above index) declared) (declared_below (index + 1) items) (above_fit index declared f.0.1)
    (below_fit (index + 1) items f.1)
below_fit index (Run t ∷ items) f = below_fit (index + 1) items f.1

declared_fit : (outer : Scope) (tag : Tag) (items : List ContentItem) (e : Element) (declared : List Declared) → IsFitTag tag
    → AllByRecursion IsFitItem items → IsElement outer tag items e declared → AreFitDeclared declared
declared_fit outer tag items e declared t i is =
    let here = here_fit (bindings tag) (bindings_fit tag.assignments t.assignments is.named.binds) in
    let among = left_fits (list_any is_inner items) (join_runs items) (joined_fits items i) in
    let below = below_fit 0 (children_among items) among in
    subst AreFitDeclared (sym is.declared_are)
    (both_all IsFitDeclared (declared_here (bindings tag)) (declared_below 0 (children_among items)) here below)

-- elements

element_fits : (outer : Scope) (tag : Tag) (items : List ContentItem) (e : Element) (declared : List Declared) → IsFitScope outer
    → IsFitTag tag
    → AllByRecursion IsFitItem items
    → IsElement outer tag items e declared → IsFit e
element_fits outer tag items e declared f t i is =
    let within = within_fits outer tag f t is.named.binds in
    let children : AreFitChildren (map out-Child (map child_of (children_among items))) = subst AreFitChildren
    (sym (children_inside (children_among items))) (children_fit items i) in
    let inner = inner_fit (children_among items) (left_fits (list_any is_inner items) (join_runs items) (joined_fits items i)) in
    fit_whole e
    (record {
      name = record {
        space = (bound_fits (scope_within outer tag) within tag.name.prefix e.name.space is.named.space_is).0;
        local = subst
            IsNamePart (sym is.named.local_is) t.name.local_is;
      };
      attributes = attributes_fit (scope_within outer tag) within tag.assignments t.assignments e.attributes is.named.attributes_are;
      names_differ = is.named.names_differ;
      children = subst (λ (cs : List Child). AreFitChildren (map out-Child cs)) (sym is.children_are) children;
    })
    (subst (λ (cs : List Child). AllByRecursion IsFitAlone (flat_map elements_of_child cs)) (sym is.children_are) inner)

item_fits : (outer : Scope) (tag : Tag) (items : List ContentItem) (e : Element) (declared : List Declared) → IsFitScope outer
    → IsFitTag tag
    → AllByRecursion IsFitItem items → IsElement outer tag items e declared → IsFitItem (Inner e declared)
item_fits outer tag items e declared f t i is =
    (element_fits outer tag items e declared f t i is, declared_fit outer tag items e declared t i is)

means_fit : (scope : Scope) (c : Pieces) (items : List ContentItem) → IsFitScope scope → AllByRecursion IsFitToken (tokens_of c)
    → AreItems scope c items → AllByRecursion IsFitItem items
means_fit scope Nothing items f t m = subst (AllByRecursion IsFitItem) (sym m) tt
means_fit scope (piece.Comment after) items f t m = means_fit scope after items f t.1 m
means_fit scope (piece.Characters blank text after) items f t m =
    subst (AllByRecursion IsFitItem) (sym m.1) (t.0, means_fit scope after m.0 f t.1 m.2)
means_fit scope (piece.Section text after) items f t m =
    subst (AllByRecursion IsFitItem) (sym m.1) (t.0, means_fit scope after m.0 f t.1 m.2)
means_fit scope (piece.Empty tag after) items f t m =
    subst (AllByRecursion IsFitItem) (sym m.3) (item_fits scope tag [] m.0 m.1 f t.0 tt m.4, means_fit scope after m.2 f t.1 m.5)
means_fit scope (piece.Start tag inside after) items f t m =
    let parts = all_both IsFitToken (tokens_of inside) (End tag.name ∷ tokens_of after) t.1 in
    let inner = means_fit (scope_within scope tag) inside m.0 (within_fits scope tag f t.0 m.6.named.binds) parts.0 m.5 in
    subst (AllByRecursion IsFitItem) (sym m.4) (
      item_fits scope tag m.0 m.1 m.2 f t.0 inner m.6,
      means_fit scope after m.3 f parts.1.1
          m.7,
    )

rooted_fits : (c : Pieces) (r : Reading) → AllByRecursion IsFitToken (tokens_of c) → BeginsWithRoot c r
    → IsFit r.root × AreFitDeclared r.declared
rooted_fits Nothing r t m = absurd m
rooted_fits (piece.Comment after) r t m = rooted_fits after r t.1 m
rooted_fits (piece.Characters blank text after) r t m = rooted_fits after r t.1 m.1
rooted_fits (piece.Section text after) r t m = absurd m
rooted_fits (piece.Empty tag after) r t m = item_fits root_scope tag [] r.root r.declared root_fits t.0 tt m.0
rooted_fits (piece.Start tag inside after) r t m =
    let parts = all_both IsFitToken (tokens_of inside) (End tag.name ∷ tokens_of after) t.1 in
    let inner = means_fit (scope_within root_scope tag) inside m.0 (within_fits root_scope tag root_fits t.0 m.2.named.binds) parts.0 m.1 in
    item_fits root_scope tag m.0 r.root r.declared root_fits t.0 inner m.2

-- what bytes spell is fit, and so is what they declare
pub spelled_fits : (bytes : List ℕ) (r : Reading) → Spells bytes r → IsFit r.root × AreFitDeclared r.declared
spelled_fits bytes r s =
    let tokens = tokens_fit (without_byte_order_mark bytes) s.tokens [] s.lexed in
    let here = subst (AllByRecursion IsFitToken) s.document.tokens_are tokens in
    rooted_fits s.document.pieces r (all_both IsFitToken (heading s.document.declared) (tokens_of s.document.pieces) here).1
    (root_begins s.document.pieces r s.document.rooted)
