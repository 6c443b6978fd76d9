-- Whether a tag is allowed, and what it opens.
use Rattle.std.proofs.Common.{◌≡◌, ◌≢◌, ◌+◌, List, [], ◌∷◌, length, map, refl, ap, sym, ◌∙◌, subst, ◌⊎◌, inl, inr}
use Rattle.std.specs.Prelude.{Some, None, codes, ◌↔◌}
use Rattle.ifmap_lemmas.specs.Deciding.{Decided, decided_both, decided_by, decided_each, decided_leads, decided_not, decided_same, same_or_not, value_or_none}
use Rattle.ifmap_elem.specs.declared.elements.Attribute.{Attribute}
use Rattle.ifmap_elem.specs.declared.elements.Name.{Name}
use Rattle.ifmap_elem.specs.declared.tokens.Assignment.{Assignment}
use Rattle.ifmap_elem.specs.declared.tokens.Qualified.{Qualified}
use Rattle.ifmap_elem.specs.declared.tokens.Tag.{Tag}
use Rattle.ifmap_elem.specs.Scopes.{Scope, Binding, AllDiffer, AreAttributes, IsAttribute, IsBinding, NamesElement, attribute_space, bindings, prefix_space, plain_assignments, scope_within, xml_space, xmlns_space}
use Rattle.ifmap_elem.specs.laws.OneReading.{one_list_of_attributes}
use Rattle.ifmap_reader.specs.declared.open_elements.OpenElement.{OpenElement}
use Rattle.ifmap_reader.specs.AllowedTags.{OpensElement}
use Rattle.ifmap_reader.specs.OpenElements.{CountsBindings, scope_of}
use Rattle.ifmap_reader.proofs.Goings.{NoName}
use Rattle.ifmap_elem.specs.laws.DecidedNames.{BothSame, both_or_not, name_or_not}

-- names

pub qualified_or_other : (q u : Qualified) → Decided (q ≡ u)
qualified_or_other q u =
    decided_by
    (λ (h : BothSame q.prefix u.prefix q.local u.local). λ i. record { prefix = h.0 i; local = h.1 i })
    (λ e. (ap (λ (p : Qualified). p.prefix) e, ap (λ (p : Qualified). p.local) e))
    (both_or_not q.prefix u.prefix q.local u.local)

differ_or_not : {X : Type 0} → ((x y : X) → Decided (x ≡ y)) → (xs : List X) → Decided (AllDiffer xs)
differ_or_not same [] = inl tt
differ_or_not same (x ∷ xs) = decided_both (decided_each (λ y. x ≢ y) (λ y. decided_not (same x y)) xs) (differ_or_not same xs)

-- bindings

abbrev Binds : Binding → Type 0
Binds b =
    ((b.prefix ≢ codes "xmlns") × (b.space ≢ xmlns_space))
    × (((b.prefix ≡ codes "xml") ↔ (b.space ≡ xml_space)) × (b.prefix ≢ [] → b.space ≢ []))

binding_or_not : (b : Binding) → Decided (IsBinding b)
binding_or_not b =
    decided_by
    (λ (h : Binds b). record { no_xmlns = h.0.0; no_xmlns_space = h.0.1; xml_alone = h.1.0; some_space = h.1.1 })
    (λ i. ((i.no_xmlns, i.no_xmlns_space), (i.xml_alone, i.some_space)))
    (decided_both
    (decided_both (decided_not (same_or_not b.prefix (codes "xmlns"))) (decided_not (same_or_not b.space xmlns_space)))
    (decided_both
    (decided_same (same_or_not b.prefix (codes "xml")) (same_or_not b.space xml_space))
    (decided_leads (decided_not (same_or_not b.prefix [])) (decided_not (same_or_not b.space [])))))

-- attributes

module _ (scope : Scope) where
  attribute_or_none : (a : Assignment) → Decided ((t : Attribute) × IsAttribute scope a t)
  attribute_or_none a = elim (value_or_none (attribute_space scope a.name.prefix)) [
    | inl s ↦
        let t : Attribute = record { name = record { space = s.0; local = a.name.local }; value = a.value } in
        inl (t, record { space_is = s.1; local_is = refl; value_is = refl })
    | inr none ↦ inr (λ t. let wrong : None ≡ Some t.0.name.space = sym none ∙ t.1.space_is in cc)
  ]

  abbrev SomeAttributes : List Assignment → Type 0
  SomeAttributes given = (ts : List Attribute) × AreAttributes scope given ts

  no_others : (a : Assignment) (given : List Assignment) → (SomeAttributes given → ⊥) → (ts : List Attribute)
      → AreAttributes scope (a ∷ given) ts → ⊥
  no_others a given none [] l = l
  no_others a given none (t ∷ ts) l = none (ts, l.1)

  no_first : (a : Assignment) (given : List Assignment) → ((t : Attribute) × IsAttribute scope a t → ⊥) → (ts : List Attribute)
      → AreAttributes scope (a ∷ given) ts → ⊥
  no_first a given none [] l = l
  no_first a given none (t ∷ ts) l = none (t, l.0)

  attributes_or_none : (given : List Assignment) → Decided (SomeAttributes given)
  attributes_or_none [] = inl ([], tt)
  attributes_or_none (a ∷ given) = elim (attribute_or_none a) [
    | inr none ↦ inr (λ s. no_first a given none s.0 s.1)
    | inl t ↦ elim (attributes_or_none given) [
      | inr none ↦ inr (λ s. no_others a given none s.0 s.1)
      | inl s ↦ inl (t.0 ∷ s.0, (t.1, s.1))
    ]
  ]

-- tags

abbrev Allows : Scope → Tag → Type 0
Allows outer tag = (name : Name) × (attributes : List Attribute) × NamesElement outer tag name attributes

abbrev pub OpensSome : List OpenElement → Tag → Type 0
OpensSome fs tag = (f : OpenElement) × OpensElement (scope_of fs) tag f × CountsBindings f.bindings f.declaring fs

element_by : (fs : List OpenElement) (tag : Tag) → Allows (scope_of fs) tag → OpensSome fs tag
element_by fs tag a = (
  record {
    prefix = tag.name.prefix;
    name = a.0;
    attributes = a.1;
    bindings = bindings tag;
    declaring = length fs + 1;
    children = [];
    text = [];
    below = [];
  },
  record {
    named = a.2;
    name_is = λ i. record { prefix = tag.name.prefix; local = sym a.2.local_is i };
    bindings_are = refl;
    no_children = refl;
    no_text = refl;
    none_below = refl;
  },
  inl refl,
)

allowed_or_none : (outer : Scope) (tag : Tag) → Allows outer tag ⊎ NoName outer tag
allowed_or_none outer tag = elim (decided_each IsBinding binding_or_not (bindings tag)) [
  | inr fails ↦ inr (λ name attributes n. fails n.binds)
  | inl binds ↦ elim (differ_or_not same_or_not (map (λ b. b.prefix) (bindings tag))) [
    | inr fails ↦ inr (λ name attributes n. fails n.binds_once)
    | inl once ↦ elim (value_or_none (prefix_space (scope_within outer tag) tag.name.prefix)) [
      | inr none ↦ inr (λ name attributes n. let wrong : None ≡ Some name.space = sym none ∙ n.space_is in cc)
      | inl s ↦ elim (attributes_or_none (scope_within outer tag) (plain_assignments tag)) [
        | inr none ↦ inr (λ name attributes n. none (attributes, n.attributes_are))
        | inl ts ↦ elim (differ_or_not name_or_not (map (λ t. t.name) ts.0)) [
          | inr fails ↦ inr (λ name attributes n.
              let same : attributes ≡ ts.0
              = one_list_of_attributes (scope_within outer tag) (plain_assignments tag) attributes ts.0 n.attributes_are ts.1 in
              fails (subst (λ (us : List Attribute). AllDiffer (map (λ t. t.name) us)) same n.names_differ))
          | inl differ ↦ inl (
            record { space = s.0; local = tag.name.local },
            ts.0,
            record {
              binds = binds;
              binds_once = once;
              space_is = s.1;
              local_is = refl;
              attributes_are = ts.1;
              names_differ = differ;
            },
          )
        ]
      ]
    ]
  ]
]

pub element_or_none : (fs : List OpenElement) (tag : Tag) → OpensSome fs tag ⊎ NoName (scope_of fs) tag
element_or_none fs tag = elim (allowed_or_none (scope_of fs) tag) [
  | inl a ↦ inl (element_by fs tag a)
  | inr none ↦ inr none
]
