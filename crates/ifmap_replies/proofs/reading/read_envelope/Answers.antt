use Rattle.std.proofs.Common.{refl}
use Rattle.ifmap_replies.specs.Means.{IsReplyOf}
use Rattle.ifmap_replies.proofs.ReadingLaws.{refused_answer, reply_read, reply_refused}
use Rattle.ifmap_replies.proofs.reading.read_envelope.Goals as goal

pub returns-in_default : goal.returns-in_default
returns-in_default c = λ answer m. c.in_default.ensures.none refl m.path m.response m.envelope

pub returns-in_err-read_response : goal.returns-in_err-read_response
returns-in_err-read_response c =
    let inner = c.in-Some.inner in
    let error = c.in_err-read_response.field-0.0 in
    refused_answer (IsReplyOf c.args.root) c.from_residual.result error c.from_residual.ensures.1
    (reply_refused c.args.root _ inner.element c.in-Some.ensures.found c.elements_have_one_reply.ensures.none error
    c.in_err-read_response.ensures)

pub returns : goal.returns
returns c =
    reply_read c.args.root _ c.in-Some.inner.element c.in-Some.ensures.found c.in_ok-read_response.field-0 c.in_ok-read_response.ensures
