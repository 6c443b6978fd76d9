use Rattle.ifmap_server.proofs.AskedRequests.{code_answered, none_answered, request_answered}
use Rattle.ifmap_server.proofs.replaying.answer_frame.Goals as goal

pub answer_request-requires : goal.answer_request-requires
answer_request-requires g c = c.bodies_mean_fit_requests.ensures c.args.body.now c.in-Ok.request c.in-Ok.ensures

pub returns-in-Ok-clause-answered : goal.returns-in-Ok-clause-answered
returns-in-Ok-clause-answered g c =
    request_answered c.args.core.now c.args.header c.args.body.now c.answer_request.new.core c.requires c.in-Ok.request c.in-Ok.ensures
    c.answer_request.result c.answer_request.ensures.state c.answer_request.ensures.text

pub returns-in-Err-Named-clause-answered : goal.returns-in-Err-Named-clause-answered
returns-in-Err-Named-clause-answered g c =
    code_answered c.args.core.now c.args.header c.args.body.now c.in-Err-Named.code c.in_ok-refusal-in-Err-Named.field-0
    (rw c.in-Err-Named.field-0-is at c.in-Err-Named.ensures) c.in_ok-refusal-in-Err-Named.ensures

pub returns-in-Err-Unreadable-clause-answered : goal.returns-in-Err-Unreadable-clause-answered
returns-in-Err-Unreadable-clause-answered g c =
    none_answered c.args.core.now c.args.header c.args.body.now c.in_ok-unreadable_answer-in-Err-Unreadable.field-0
    (rw c.in-Err-Unreadable.field-0-is at c.in-Err-Unreadable.ensures) c.in_ok-unreadable_answer-in-Err-Unreadable.ensures
