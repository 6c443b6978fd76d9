use Rattle.std.proofs.Common.{ap, ◌∙◌}
use Rattle.std.proofs.lemmas.Result.{IfOk-weaker}
use Rattle.ifmap_replies.specs.Results.{result_element}
use Rattle.ifmap_replies.specs.Wrapping.{wrap_element}
use Rattle.ifmap_replies.proofs.writing.element_of.Goals as goal

pub returns : goal.returns
returns c =
    IfOk-weaker c.element.result _ _
    (λ e h. h ∙ c.in_ok-outline.ensures ∙ ap (λ n. wrap_element n (result_element c.args.reply.now)) c.in_ok-names.ensures)
    c.element.ensures
