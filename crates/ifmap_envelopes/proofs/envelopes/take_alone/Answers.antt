use Rattle.std.proofs.Common.{refl}
use Rattle.ifmap_envelopes.specs.Envelopes.{IsOnlyElement}
use Rattle.ifmap_envelopes.proofs.EnvelopeLaws.{alone_stands, found_held, none_held, none_sliced}
use Rattle.ifmap_envelopes.proofs.envelopes.take_alone.Goals as goal

pub returns-in_err-index-clause-none : goal.returns-in_err-index-clause-none
returns-in_err-index-clause-none c = λ none. none_sliced IsOnlyElement alone_stands c.as_slice.ensures (c.in_err-index.ensures.none refl)

pub returns-in_err-element-clause-none : goal.returns-in_err-element-clause-none
returns-in_err-element-clause-none c = λ none.
    none_held IsOnlyElement alone_stands c.as_slice.ensures c.children.view_is c.in_ok-index.index c.in_ok-index.ensures.found
    (c.in_err-element.ensures.none refl)

pub returns-clause-found : goal.returns-clause-found
returns-clause-found c =
    found_held IsOnlyElement alone_stands c.as_slice.ensures c.children.view_is c.in_ok-index.index c.in_ok-index.ensures.found
    c.in_ok-element.element c.in_ok-element.ensures.found
