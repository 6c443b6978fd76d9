use Rattle.ifmap_graph.proofs.graph.tell_apart.Goals as goal

pub returns : goal.returns
returns c = λ e. c.equals.ensures.value.0 (c.equals.ensures.canonical.1 e)
