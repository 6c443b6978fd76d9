use Rattle.ifmap_forms.specs.SingleLaws.{identifier_single}
use Rattle.ifmap_replies.proofs.Single.{no_reply_with_defect, one_reply}
use Rattle.ifmap_replies.proofs.laws.elements_have_one_reply.Goals as goal

pub returns-clause-one : goal.returns-clause-one
returns-clause-one c =
    one_reply (identifier_single c.elements_have_one_answer.ensures.answer) c.envelopes_hold_one_element.ensures

pub returns-clause-none : goal.returns-clause-none
returns-clause-none c =
    no_reply_with_defect (identifier_single c.elements_have_one_answer.ensures.answer) c.envelopes_hold_one_element.ensures
