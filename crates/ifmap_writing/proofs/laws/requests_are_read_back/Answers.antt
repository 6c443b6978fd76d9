use Rattle.ifmap_writing.specs.RequestElements.{request_bytes}
use Rattle.ifmap_writing.proofs.BoundLaws.{meant_bounded}
use Rattle.ifmap_writing.proofs.MeaningLaws.{answers_meaning, written_means}
use Rattle.ifmap_writing.proofs.laws.requests_are_read_back.Goals as goal

pub returns-clause-fit : goal.returns-clause-fit
returns-clause-fit c =
    let identifiers = c.identifiers_are_read_back.ensures in
    written_means identifiers.again identifiers.fit identifiers.arranged identifiers.levels c.metadata_are_made_of_their_element.ensures
    c.printed_filter_is_parsed_back.ensures.written c.listed_spaces_serve_each_filter.ensures.each
    c.written_bytes_spell_the_element.ensures

pub returns-clause-bounded : goal.returns-clause-bounded
returns-clause-bounded c = meant_bounded

pub returns-clause-written : goal.returns-clause-written
returns-clause-written c = λ bytes request means.
    returns-clause-fit c request (c.bodies_mean_fit_requests.ensures bytes request means) (meant_bounded bytes request means)

pub returns-clause-answered : goal.returns-clause-answered
returns-clause-answered c = λ bytes request means result answer.
    answers_meaning c.bodies_have_one_meaning.ensures (request_bytes request) request
    (returns-clause-written c bytes request means) result answer
