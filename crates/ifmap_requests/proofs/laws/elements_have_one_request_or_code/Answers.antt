use Rattle.ifmap_requests.proofs.Done.{request_done}
use Rattle.ifmap_forms.specs.SingleLaws.{identifier_single}
use Rattle.ifmap_forms.specs.IdentifierLaws.{identifier_done}
use Rattle.ifmap_requests.proofs.Single.{request_single}
use Rattle.ifmap_requests.proofs.laws.elements_have_one_request_or_code.Goals as goal

pub returns-clause-one : goal.returns-clause-one
returns-clause-one c =
    request_single (identifier_single c.elements_have_one_answer.ensures.answer) c.text_is_one_filter.ensures

pub returns-clause-some : goal.returns-clause-some
returns-clause-some c =
    request_done (identifier_done c.elements_have_one_answer.ensures.some) c.text_is_filter_or_stops.ensures.decided
    c.text_is_filter_or_stops.ensures.apart
