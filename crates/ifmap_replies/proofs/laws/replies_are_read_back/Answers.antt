use Rattle.ifmap_replies.proofs.BackLaws.{element_back}
use Rattle.ifmap_replies.proofs.PrintedBack.{bytes_back}
use Rattle.ifmap_replies.proofs.WholeLaws.{reply_good}
use Rattle.ifmap_replies.proofs.laws.replies_are_read_back.Goals as goal

pub returns-clause-elements : goal.returns-clause-elements
returns-clause-elements c =
    element_back c.identifiers_are_read_back.ensures.again c.bytes_tell_identifiers_apart.ensures

pub returns-clause-bytes : goal.returns-clause-bytes
returns-clause-bytes c = λ answer fit.
    bytes_back c.canonical_bytes_spell_the_element.ensures.spelled answer
    (reply_good c.identifiers_are_read_back.ensures.fit c.identifiers_are_read_back.ensures.arranged
    c.identifiers_are_read_back.ensures.levels answer fit)
    (element_back c.identifiers_are_read_back.ensures.again c.bytes_tell_identifiers_apart.ensures answer fit)
