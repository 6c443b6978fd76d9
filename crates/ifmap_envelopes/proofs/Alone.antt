-- An element is an envelope of one element at one path.
-- 1. Where white space alone stands before an element in both of two splits of one list, the splits are one.
-- 2. So an element that is alone is the only one, at its place.
-- 3. The body is the same in both: where one split has a header before it and the other has none, a header would be a body.
use Rattle.std.proofs.Common.{◌≡◌, ◌∙◌, ℕ, true, false, List, [], ◌∷◌, ◌++◌, codes, length, inl, inr, refl, ap, arith, subst, sym, append_assoc}
use Rattle.std.proofs.lemmas.Bool.{and_parts}
use Rattle.std.specs.List.{list_all}
use Rattle.ifmap_elem.specs.Chars.{is_white}
use Rattle.ifmap_elem.specs.declared.elements.Child.TheOpen.{Child-F}
use Rattle.ifmap_elem.specs.declared.elements.Element.{Element}
use Rattle.ifmap_elem.specs.declared.elements.Name.{Name}
use Rattle.ifmap_envelopes.specs.Envelopes.{IsOnlyElement, IsBodyAt, IsEnvelope, MayHoldHeader, envelope_name}
use Rattle.ifmap_elem.specs.WhiteSpace.{is_blank_part}
use Rattle.ifmap_forms.specs.Tables.{Part, element_parts}

abbrev pub part_of : Element → Part
part_of e = Child-F.Element e

abbrev pub text_of : List ℕ → Part
text_of text = Child-F.Text text

abbrev pub AreBlank : List Part → Type 0
AreBlank parts = list_all is_blank_part parts ≡ true

-- the splits are one
pub record AreOne (before other after rest : List Part) (e f : Element) : Type 0 where
  pub befores : before ≡ other
  pub elements : e ≡ f
  pub afters : after ≡ rest

pub no_element : (g : Element) (more : List Part) → AreBlank (part_of g ∷ more) → ⊥
no_element g more blank = let wrong : false ≡ true = blank in cc

pub after_text : (t : List ℕ) (more : List Part) → AreBlank (text_of t ∷ more) → AreBlank more
after_text t more blank = (and_parts (list_all is_white t) (list_all is_blank_part more) blank).1

pub one_split : (before after other rest : List Part) (e f : Element)
    → before ++ (part_of e ∷ after) ≡ other ++ (part_of f ∷ rest) → AreBlank before → AreBlank other → AreOne before other after rest e f
one_split [] after [] rest e f same blank blank' =
    let s : part_of e ∷ after ≡ part_of f ∷ rest = same in
    let heads : part_of e ≡ part_of f = cc in
    let elements : e ≡ f = cc in
    let afters : after ≡ rest = cc in
    record { befores = refl; elements = elements; afters = afters }
one_split [] after (Child-F.Element g ∷ more) rest e f same blank blank' = absurd (no_element g more blank')
one_split [] after (Child-F.Text t ∷ more) rest e f same blank blank' =
    let s : part_of e ∷ after ≡ text_of t ∷ (more ++ (part_of f ∷ rest)) = same in
    let heads : part_of e ≡ text_of t = cc in
    absurd (apart e t heads)
  where
    apart : (e : Element) (t : List ℕ) → part_of e ≡ text_of t → ⊥
    apart e t h = let wrong : part_of e ≡ text_of t = h in cc
one_split (Child-F.Element g ∷ more) after other rest e f same blank blank' = absurd (no_element g more blank)
one_split (Child-F.Text t ∷ more) after [] rest e f same blank blank' =
    let s : text_of t ∷ (more ++ (part_of e ∷ after)) ≡ part_of f ∷ rest = same in
    let heads : text_of t ≡ part_of f = cc in
    absurd (apart f t heads)
  where
    apart : (e : Element) (t : List ℕ) → text_of t ≡ part_of e → ⊥
    apart e t h = let wrong : text_of t ≡ part_of e = h in cc
one_split (Child-F.Text t ∷ more) after (Child-F.Element g ∷ others) rest e f same blank blank' = absurd (no_element g others blank')
one_split (Child-F.Text t ∷ more) after (Child-F.Text u ∷ others) rest e f same blank blank' =
    let s : text_of t ∷ (more ++ (part_of e ∷ after)) ≡ text_of u ∷ (others ++ (part_of f ∷ rest)) = same in
    let heads : text_of t ≡ text_of u = cc in
    let tails : more ++ (part_of e ∷ after) ≡ others ++ (part_of f ∷ rest) = cc in
    let one = one_split more after others rest e f tails (after_text t more blank) (after_text u others blank') in
    record { befores = (λ i. heads i ∷ one.befores i); elements = one.elements; afters = one.afters }

-- an element that is alone is the only one
pub one_alone : (parts : List Part) (i j : ℕ) (e f : Element) → IsOnlyElement parts i e → IsOnlyElement parts j f → (i ≡ j) × (e ≡ f)
one_alone parts i j e f a b =
    let one = one_split a.before a.after b.before b.after e f (sym a.parts_are ∙ b.parts_are) a.blank_before b.blank_before in
    (a.index_is ∙ (ap length one.befores ∙ sym b.index_is), one.elements)

-- a header is no body
names_differ : envelope_name (codes "Header") ≡ envelope_name (codes "Body") → ⊥
names_differ e =
    let locals : codes "Header" ≡ codes "Body" = ap (λ (n : Name). n.local) e in
    let lengths : 6 ≡ 4 = ap length locals in
    omega (arith, lengths)

-- a split of a list with a header in its front, as a split at the header
pub at_header : (front after : List Part) (index : ℕ) (header body : Element) (h : IsOnlyElement front index header)
    → front ++ (part_of body ∷ after) ≡ h.before ++ (part_of header ∷ (h.after ++ (part_of body ∷ after)))
at_header front after index header body h =
    ap (λ (xs : List Part). xs ++ (part_of body ∷ after)) h.parts_are
    ∙ append_assoc h.before (part_of header ∷ h.after) (part_of body ∷ after)

module _ (before other after rest : List Part) (body twin : Element)
    (same : before ++ (part_of body ∷ after) ≡ other ++ (part_of twin ∷ rest))
    (named : body.name ≡ envelope_name (codes "Body")) (twin_named : twin.name ≡ envelope_name (codes "Body")) where
  -- two splits at bodies, each after a header or none, are one
  pub one_body : MayHoldHeader before → MayHoldHeader other → AreOne before other after rest body twin
  one_body (inl blank) (inl blank') = one_split before after other rest body twin same blank blank'
  one_body (inl blank) (inr h) =
      let one = one_split before after h.3.before (h.3.after ++ (part_of twin ∷ rest)) body h.1
      (same ∙ at_header other rest h.0 h.1 twin h.3) blank h.3.blank_before in
      absurd (names_differ (sym h.2 ∙ (ap (λ (e : Element). e.name) (sym one.elements) ∙ named)))
  one_body (inr h) (inl blank') =
      let one = one_split h.3.before (h.3.after ++ (part_of body ∷ after)) other rest h.1 twin
      (sym (at_header before after h.0 h.1 body h.3) ∙ same) h.3.blank_before blank' in
      absurd (names_differ (sym h.2 ∙ (ap (λ (e : Element). e.name) one.elements ∙ twin_named)))
  one_body (inr h) (inr k) =
      let headers = one_split h.3.before (h.3.after ++ (part_of body ∷ after)) k.3.before (k.3.after ++ (part_of twin ∷ rest)) h.1 k.1
      (sym (at_header before after h.0 h.1 body h.3) ∙ (same ∙ at_header other rest k.0 k.1 twin k.3))
      h.3.blank_before k.3.blank_before in
      let bodies = one_split h.3.after after k.3.after rest body twin headers.afters h.3.blank_after k.3.blank_after in
      record {
        befores = h.3.parts_are ∙ ((λ i. headers.befores i ++ (part_of (headers.elements i) ∷ bodies.befores i)) ∙ sym k.3.parts_are);
        elements = bodies.elements;
        afters = bodies.afters;
      }

-- a body is the only one, at its place
pub one_body_at : (parts : List Part) (i j : ℕ) (body twin : Element) → IsBodyAt parts i body → IsBodyAt parts j twin
    → (i ≡ j) × (body ≡ twin)
one_body_at parts i j body twin a b =
    let one = one_body a.before b.before a.after b.after body twin (sym a.parts_are ∙ b.parts_are) a.named b.named a.header b.header in
    (a.index_is ∙ (ap length one.befores ∙ sym b.index_is), one.elements)

-- one path and one element
pub one_envelope : (root e f : Element) (path route : List ℕ) → IsEnvelope root path e → IsEnvelope root route f
    → (path ≡ route) × (e ≡ f)
one_envelope root e f path route a b =
    let bodies = one_body_at (element_parts root) a.place b.place a.body b.body a.body_at b.body_at in
    let inner = one_alone (element_parts a.body) a.index b.index e f a.alone
    (subst (λ (body : Element). IsOnlyElement (element_parts body) b.index f) (sym bodies.1) b.alone) in
    (a.path_is ∙ ((λ i. bodies.0 i ∷ (inner.0 i ∷ [])) ∙ sym b.path_is), inner.1)
