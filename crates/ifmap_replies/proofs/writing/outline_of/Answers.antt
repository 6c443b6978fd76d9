use Rattle.std.proofs.Common.{ap, ◌∙◌}
use Rattle.std.proofs.lemmas.Result.{IfOk-weaker}
use Rattle.ifmap_envelopes.specs.Envelopes.{element_around}
use Rattle.ifmap_replies.proofs.writing.outline_of.Goals as goal

pub returns : goal.returns
returns c =
    IfOk-weaker c.wrap_outline-3.result _ _
    (λ o h. h ∙ ap (element_around c.args.names.now.envelope) (c.in_ok-body.ensures ∙ ap (element_around c.args.names.now.body)
    (c.in_ok-response.ensures ∙ ap (element_around c.args.names.now.response) c.in_ok-result.ensures))) c.wrap_outline-3.ensures
