-- An element is an envelope or is none: what is looked at from the front tells it, as the code does.
use Rattle.std.proofs.Common.{◌≡◌, ℕ, ◌+◌, Bool, true, false, List, [], ◌∷◌, codes, drop, inl, inr, refl, ap, subst, sym}
use Rattle.std.specs.Prelude.{◌⊎◌}
use Rattle.ifmap_lemmas.specs.Deciding.{Decided}
use Rattle.std.proofs.lemmas.Bool.{cases_Bool}
use Rattle.ifmap_elem.specs.declared.elements.Element.{Element}
use Rattle.ifmap_forms.specs.Tables.{Part, element_parts}
use Rattle.ifmap_elem.specs.Fit.{is_element}
use Rattle.ifmap_envelopes.specs.Envelopes.{IsOnlyElement, IsBodyAt, IsEnvelope, blank_front, envelope_name, is_first, is_last_part}
use Rattle.ifmap_envelopes.proofs.Alone.{one_body_at}
use Rattle.ifmap_envelopes.proofs.EnvelopeLaws.{after_header, alone_there, body_after, body_first, header_stands_first, is_name_tells, no_body_after, no_body_first, none_alone, is_body, is_header}
use Rattle.ifmap_elem.specs.laws.DecidedNames.{name_or_not}

module _ (parts : List Part) where
  abbrev first : ℕ
  first = blank_front parts

  abbrev HasAlone : Type 0
  HasAlone = (index : ℕ) × (e : Element) × IsOnlyElement parts index e

  alone_or_none : Decided HasAlone
  alone_or_none = elim (cases_Bool (is_last_part is_element (drop first parts))) [
    | inl h ↦ let a = alone_there parts first refl h in inl (first, a.0, a.1)
    | inr h ↦ inr (λ a. none_alone parts first refl h a.0 a.1 a.2)
  ]

  abbrev HasBody : Type 0
  HasBody = (index : ℕ) × (body : Element) × IsBodyAt parts index body

  -- after a header and white space
  abbrev later : ℕ
  later = first + 1 + blank_front (drop (first + 1) parts)

  later_or_none : is_last_part is_body (drop first parts) ≡ false → is_first is_header (drop first parts) ≡ true → Decided HasBody
  later_or_none f g = elim (cases_Bool (is_last_part is_body (drop later parts))) [
    | inl h ↦
        let o = header_stands_first parts first refl g in
        let at = ap (λ (ps : List Part). first + 1 + blank_front ps) (after_header parts first refl o.0 o.1 o.2) in
        let b = body_after parts first refl o.0 o.1 o.2 later at h in
        inl (later, b.0, b.1)
    | inr h ↦ inr (λ b. no_body_after parts first refl f later refl h b.0 b.1 b.2)
  ]

  body_or_none : Decided HasBody
  body_or_none = elim (cases_Bool (is_last_part is_body (drop first parts))) [
    | inl h ↦ let b = body_first parts first refl h in inl (first, b.0, b.1)
    | inr f ↦ elim (cases_Bool (is_first is_header (drop first parts))) [
      | inl g ↦ later_or_none f g
      | inr g ↦ inr (λ b. no_body_first parts first refl f g b.0 b.1 b.2)
    ]
  ]

module _ (root : Element) where
  abbrev HasEnvelope : Type 0
  HasEnvelope = (path : List ℕ) × (inner : Element) × IsEnvelope root path inner

  -- where the body is found, and what it holds or not
  module _ (named : root.name ≡ envelope_name (codes "Envelope")) (b : HasBody (element_parts root)) where
    inner_or_none : Decided (HasAlone (element_parts b.1)) → Decided HasEnvelope
    inner_or_none (inl a) = inl (
      b.0 ∷ (a.0 ∷ []),
      a.1,
      record { named = named; place = b.0; body = b.1; body_at = b.2; index = a.0; alone = a.2; path_is = refl },
    )
    inner_or_none (inr none) = inr (λ h.
        let e = h.2 in
        let one = one_body_at (element_parts root) b.0 e.place b.1 e.body b.2 e.body_at in
        none (e.index, h.1, subst (λ (body : Element). IsOnlyElement (element_parts body) e.index h.1) (sym one.1) e.alone))

  named_or_none : root.name ≡ envelope_name (codes "Envelope") → Decided (HasBody (element_parts root)) → Decided HasEnvelope
  named_or_none named (inl b) = inner_or_none named b (alone_or_none (element_parts b.1))
  named_or_none named (inr none) = inr (λ h. let e = h.2 in none (e.place, e.body, e.body_at))

  pub envelope_or_none : Decided HasEnvelope
  envelope_or_none = elim (name_or_not root.name (envelope_name (codes "Envelope"))) [
    | inl named ↦ named_or_none named (body_or_none (element_parts root))
    | inr fails ↦ inr (λ h. let e = h.2 in fails e.named)
  ]
