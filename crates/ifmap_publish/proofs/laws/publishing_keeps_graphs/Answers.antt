use Rattle.ifmap_publish.proofs.Graphs.{graph_applied, whole_applied}
use Rattle.ifmap_publish.proofs.laws.publishing_keeps_graphs.Goals as goal

pub returns-clause-graph : goal.returns-clause-graph
returns-clause-graph c rows by ops fit graph = graph_applied rows by ops fit graph

pub returns-clause-whole : goal.returns-clause-whole
returns-clause-whole c rows by ops name fit whole = whole_applied by name rows ops fit whole
