use Rattle.ifmap_filter.proofs.Deciding.{filter_or_stop, stops_where_no_filter}
use Rattle.ifmap_filter.proofs.laws.text_is_filter_or_stops.Goals as goal

pub returns-clause-decided : goal.returns-clause-decided
returns-clause-decided c = filter_or_stop

pub returns-clause-apart : goal.returns-clause-apart
returns-clause-apart c = stops_where_no_filter
