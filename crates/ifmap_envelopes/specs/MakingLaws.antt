-- What is made as the envelope of an element is an envelope of it.
use Rattle.std.proofs.Common.{[], ◌∷◌, codes, inl, refl}
use Rattle.ifmap_elem.specs.declared.elements.Child as the
use Rattle.ifmap_elem.specs.declared.elements.Element.{Element}
use Rattle.ifmap_forms.specs.Tables.{parts_in}
use Rattle.ifmap_envelopes.specs.Envelopes.{IsOnlyElement, IsEnvelope, element_around, envelope_name, in_envelope}
use Rattle.ifmap_elem.specs.laws.ArrangedLaws.{out_element}

alone : (e : Element) → IsOnlyElement (parts_in (the.Element e ∷ [])) 0 e
alone e = record {
  before = [];
  after = [];
  parts_are = λ i. out_element e i ∷ [];
  blank_before = refl;
  blank_after = refl;
  index_is = refl;
}

pub made_envelope : (inner : Element) → IsEnvelope (in_envelope inner) (0 ∷ (0 ∷ [])) inner
made_envelope inner = record {
  named = refl;
  place = 0;
  body = element_around (envelope_name (codes "Body")) inner;
  body_at = record {
    before = [];
    after = [];
    parts_are = λ i. out_element (element_around (envelope_name (codes "Body")) inner) i ∷ [];
    header = inl refl;
    blank = refl;
    named = refl;
    index_is = refl;
  };
  index = 0;
  alone = alone inner;
  path_is = refl;
}
