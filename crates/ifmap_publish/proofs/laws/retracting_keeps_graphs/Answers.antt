use Rattle.std.proofs.Common.{not}
use Rattle.ifmap_lemmas.specs.Filters.{all_filter}
use Rattle.ifmap_meta.specs.Whole.{IsWhole}
use Rattle.ifmap_publish.specs.Retract.{is_of}
use Rattle.ifmap_publish.proofs.Graphs.{graph_filter}
use Rattle.ifmap_publish.proofs.laws.retracting_keeps_graphs.Goals as goal

pub returns-clause-graph : goal.returns-clause-graph
returns-clause-graph c who rows graph = graph_filter (λ a. not (is_of who a.stored)) rows graph

pub returns-clause-whole : goal.returns-clause-whole
returns-clause-whole c who rows whole = all_filter (λ r. IsWhole r.stored) (λ a. not (is_of who a.stored)) rows whole
