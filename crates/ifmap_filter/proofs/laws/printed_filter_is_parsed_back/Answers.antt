use Rattle.ifmap_filter.proofs.PrintedBack.{answered_back, nests_no_deeper, printed_back}
use Rattle.ifmap_filter.proofs.laws.printed_filter_is_parsed_back.Goals as goal

pub returns-clause-written : goal.returns-clause-written
returns-clause-written c = printed_back

pub returns-clause-nesting : goal.returns-clause-nesting
returns-clause-nesting c = nests_no_deeper

pub returns-clause-answered : goal.returns-clause-answered
returns-clause-answered c = answered_back
