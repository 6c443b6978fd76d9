use Rattle.std.proofs.Common.{subst}
use Rattle.ifmap_elem.specs.declared.elements.Element.{Element}
use Rattle.ifmap_replies.specs.Answers.{IsMeantReply}
use Rattle.ifmap_replies.specs.Means.{IsReplyOf}
use Rattle.ifmap_replies.proofs.reading.reply_of.Goals as goal

pub returns : goal.returns
returns c =
    subst (λ (e : Element). IsMeantReply (IsReplyOf e) c.read_envelope.result) c.in_ok-element.ensures c.read_envelope.ensures
