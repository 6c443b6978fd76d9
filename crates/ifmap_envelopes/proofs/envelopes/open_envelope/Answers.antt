use Rattle.std.proofs.Common.{refl, subst, sym}
use Rattle.ifmap_elem.specs.declared.elements.Element.{Element}
use Rattle.ifmap_forms.specs.Tables.{element_parts}
use Rattle.ifmap_envelopes.specs.Envelopes.{IsOnlyElement}
use Rattle.ifmap_envelopes.proofs.Alone.{one_body_at}
use Rattle.ifmap_envelopes.proofs.envelopes.open_envelope.Goals as goal

pub returns-in_err-place-clause-none : goal.returns-in_err-place-clause-none
returns-in_err-place-clause-none c = λ none path e envelope.
    c.in_err-place.ensures.none refl envelope.place envelope.body envelope.body_at

pub returns-in_err-index-clause-none : goal.returns-in_err-index-clause-none
returns-in_err-index-clause-none c = λ none path e envelope.
    let bodies = one_body_at (element_parts c.args.root) c.in_ok-place.place envelope.place c.in_ok-place.body envelope.body
    c.in_ok-place.ensures.found envelope.body_at in
    c.in_err-index.ensures.none refl envelope.index e
    (subst (λ (body : Element). IsOnlyElement (element_parts body) envelope.index e) (sym bodies.1) envelope.alone)
