-- The request that is made is fit and within its bounds, and asks what is due.
use Rattle.std.proofs.Common.{◌%◌, ap, subst, sym, arith}
use Rattle.rand_pcg.specs.Lcg.{Lcg}
use Rattle.ifmap_requests.specs.declared.requests.Request.{Request}
use Rattle.ifmap_requests.specs.Fit.{IsFitRequest}
use Rattle.ifmap_writing.specs.Bounds.{IsBounded}
use Rattle.ifmap_drill.specs.Requests.{session_of}
use Rattle.ifmap_drill.specs.Tasks.{task_at}
use Rattle.ifmap_drill.proofs.FitRequests.{request_bounded, request_fit}
use Rattle.ifmap_drill.proofs.LinkElements.{link_element_is_metadata}
use Rattle.ifmap_drill.proofs.Making.{event_made, request_made, rest_made}
use Rattle.ifmap_drill.proofs.SoundDrills.{session_characters}
use Rattle.ifmap_drill.proofs.events.make_event.Goals as goal

pub event_through-requires-clause-fit : goal.event_through-requires-clause-fit
event_through-requires-clause-fit c =
    let made =
    request_made c.args.i c.args.ids.now c.args.draws.now c.task_at.result c.in_ok-session.session c.in_ok-request.request
    c.request_by.new.draws c.task_at.ensures c.in_ok-session.ensures c.in_ok-request.ensures in
    subst IsFitRequest (sym (ap (λ (p : Request × Lcg). p.0) made))
    (request_fit c.mac_addresses_are_identifiers.ensures
    (link_element_is_metadata c.stamped_metadata_are_whole.ensures.made) (task_at c.args.i)
    (c.args.i % 10) (session_of (c.args.i % 10) c.args.ids.now) c.args.draws.now (omega arith)
    (session_characters (c.args.i % 10) c.args.ids.now c.requires.fit))

pub event_through-requires-clause-bounded : goal.event_through-requires-clause-bounded
event_through-requires-clause-bounded c =
    let made =
    request_made c.args.i c.args.ids.now c.args.draws.now c.task_at.result c.in_ok-session.session c.in_ok-request.request
    c.request_by.new.draws c.task_at.ensures c.in_ok-session.ensures c.in_ok-request.ensures in
    subst IsBounded (sym (ap (λ (p : Request × Lcg). p.0) made))
    (request_bounded (task_at c.args.i) (c.args.i % 10) (session_of (c.args.i % 10) c.args.ids.now) c.args.draws.now)

pub returns-clause-event : goal.returns-clause-event
returns-clause-event c =
    event_made c.args.i c.args.ids.now c.args.draws.now c.in_ok-request.request c.request_by.new.draws
    (request_made c.args.i c.args.ids.now c.args.draws.now c.task_at.result c.in_ok-session.session c.in_ok-request.request
    c.request_by.new.draws c.task_at.ensures c.in_ok-session.ensures c.in_ok-request.ensures)
    c.event_through.result c.event_through.ensures

pub returns-clause-rest : goal.returns-clause-rest
returns-clause-rest c =
    rest_made c.args.i c.args.ids.now c.args.draws.now c.in_ok-request.request c.request_by.new.draws
    (request_made c.args.i c.args.ids.now c.args.draws.now c.task_at.result c.in_ok-session.session c.in_ok-request.request
    c.request_by.new.draws c.task_at.ensures c.in_ok-session.ensures c.in_ok-request.ensures)
    c.event_through.result
