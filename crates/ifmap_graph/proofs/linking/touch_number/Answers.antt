use Rattle.ifmap_graph.proofs.linking.touch_number.Goals as goal

pub returns-clause-ready : goal.returns-clause-ready
returns-clause-ready c = c.add_link.ensures.ready c.begin_draft.new.ways.items c.begin_draft.ensures.ready
