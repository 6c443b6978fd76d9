use Rattle.std.proofs.Common.{◌≡◌, ap}
use Rattle.ifmap_core.proofs.answering.answer.Goals as goal
use Rattle.ifmap_subscribes.specs.ifmap_machine.Events.{Event}
use Rattle.ifmap_subscribes.specs.ifmap_requests.declared.requests.Request.TheVariants.{NewSession}

pub returns-in-Request-NewSession-clause-leads : goal.returns-in-Request-NewSession-clause-leads
returns-in-Request-NewSession-clause-leads g c =
    let ask = ap (λ (e : Event). e.ask) c.event.view_is in
    let random = ap (λ (e : Event). e.random) c.event.view_is in
    let request : c.in-Request-NewSession.field-0 ≡ NewSession c.in-Request-NewSession.limit =
    rw c.in-Request-NewSession.is at c.in-Request-NewSession.field-0-is in
    rw (← ask, c.in-Request-NewSession.is, request, ← c.requires.client, ← random) c.new_session.ensures.leads
