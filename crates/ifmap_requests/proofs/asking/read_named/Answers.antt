use Rattle.std.proofs.Common.{◌∙◌, sym, rules}
use Rattle.ifmap_forms.specs.Scopes.{scopes_by}
use Rattle.ifmap_requests.proofs.NameLaws.{at_end_session, at_new_session, at_no_request, at_poll, at_purge, at_renewal, at_search}
use Rattle.ifmap_requests.proofs.NameLaws.{at_subscribe}
use Rattle.ifmap_requests.proofs.asking.read_named.Goals as goal

pub returns-in-Some-NewSession : goal.returns-in-Some-NewSession
returns-in-Some-NewSession c =
    let scopes = scopes_by c.args.place.now.declared.now c.args.place.now.path.now in
    at_new_session scopes c.args.element.now c.requires.space
    (sym c.as_str.ensures ∙ rw c.in-Some-NewSession.field-0-is at c.in-Some-NewSession.ensures.found) c.read_new_session.result
    (c.read_new_session.ensures scopes)

pub returns-in-Some-RenewSession : goal.returns-in-Some-RenewSession
returns-in-Some-RenewSession c =
    let scopes = scopes_by c.args.place.now.declared.now c.args.place.now.path.now in
    at_renewal scopes c.args.element.now c.requires.space
    (sym c.as_str.ensures ∙ rw c.in-Some-RenewSession.field-0-is at c.in-Some-RenewSession.ensures.found) c.read_renewal.result
    (c.read_renewal.ensures scopes)

pub returns-in-Some-EndSession : goal.returns-in-Some-EndSession
returns-in-Some-EndSession c =
    let scopes = scopes_by c.args.place.now.declared.now c.args.place.now.path.now in
    at_end_session scopes c.args.element.now c.requires.space
    (sym c.as_str.ensures ∙ rw c.in-Some-EndSession.field-0-is at c.in-Some-EndSession.ensures.found) c.read_end_session.result
    (c.read_end_session.ensures scopes)

pub returns-in-Some-Poll : goal.returns-in-Some-Poll
returns-in-Some-Poll c =
    let scopes = scopes_by c.args.place.now.declared.now c.args.place.now.path.now in
    at_poll scopes c.args.element.now c.requires.space
    (sym c.as_str.ensures ∙ rw c.in-Some-Poll.field-0-is at c.in-Some-Poll.ensures.found) c.read_poll.result (c.read_poll.ensures scopes)

pub returns-in-Some-Search : goal.returns-in-Some-Search
returns-in-Some-Search c =
    let scopes = scopes_by c.args.place.now.declared.now c.args.place.now.path.now in
    at_search scopes c.args.element.now c.requires.space
    (sym c.as_str.ensures
    ∙ rw c.in-Some-Search.field-0-is at c.in-Some-Search.ensures.found) c.read_asked_search.result c.read_asked_search.ensures

pub returns-in-Some-Subscribe : goal.returns-in-Some-Subscribe
returns-in-Some-Subscribe c =
    let scopes = scopes_by c.args.place.now.declared.now c.args.place.now.path.now in
    at_subscribe scopes c.args.element.now c.requires.space
    (sym c.as_str.ensures
    ∙ rw c.in-Some-Subscribe.field-0-is at c.in-Some-Subscribe.ensures.found) c.read_subscribe.result c.read_subscribe.ensures

pub returns-in-Some-PurgePublisher : goal.returns-in-Some-PurgePublisher
returns-in-Some-PurgePublisher c =
    let scopes = scopes_by c.args.place.now.declared.now c.args.place.now.path.now in
    at_purge scopes c.args.element.now c.requires.space
    (sym c.as_str.ensures ∙ rw c.in-Some-PurgePublisher.field-0-is at c.in-Some-PurgePublisher.ensures.found) c.read_purge.result
    (c.read_purge.ensures scopes)

pub returns-in-None : goal.returns-in-None
returns-in-None c =
    let scopes = scopes_by c.args.place.now.declared.now c.args.place.now.path.now in
    at_no_request scopes c.args.element.now c.requires.space
    (λ a same. c.request_named.ensures.none (search rules) a (c.as_str.ensures ∙ same))
