use Rattle.std.proofs.Common.{refl}
use Rattle.ifmap_envelopes.specs.Envelopes.{IsBodyAt}
use Rattle.ifmap_envelopes.proofs.EnvelopeLaws.{body_stands, found_held, none_held, none_sliced}
use Rattle.ifmap_envelopes.proofs.envelopes.take_body.Goals as goal

pub returns-in_err-index-clause-none : goal.returns-in_err-index-clause-none
returns-in_err-index-clause-none c = λ none. none_sliced IsBodyAt body_stands c.as_slice.ensures (c.in_err-index.ensures.none refl)

pub returns-in_err-body-clause-none : goal.returns-in_err-body-clause-none
returns-in_err-body-clause-none c = λ none.
    none_held IsBodyAt body_stands c.as_slice.ensures c.children.view_is c.in_ok-index.index c.in_ok-index.ensures.found
    (c.in_err-body.ensures.none refl)

pub returns-clause-found : goal.returns-clause-found
returns-clause-found c =
    found_held IsBodyAt body_stands c.as_slice.ensures c.children.view_is c.in_ok-index.index c.in_ok-index.ensures.found
    c.in_ok-body.body c.in_ok-body.ensures.found
