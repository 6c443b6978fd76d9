use Rattle.std.proofs.Common.{◌≡◌, ap, ◌∙◌}
use Rattle.std.proofs.lemmas.List.{get_or_default}
use Rattle.ifmap_view.specs.declared.views.LinkSeen.{LinkSeen}
use Rattle.ifmap_graph.specs.Sides.{Sides}
use Rattle.ifmap_graph.specs.Turning.{no_list, sides_at}
use Rattle.ifmap_graph.proofs.Readying.{set_touches, set_ready}
use Rattle.ifmap_graph.proofs.linking.add_link.Goals as goal
use Rattle.ifmap_graph.proofs.linking.add_link.Goals.{After-index_mut}

-- what is written to is the list of the number
here : (c : After-index_mut) → c.index_mut.result.now ≡ sides_at c.args.links.now.items c.args.place
here c = c.index_mut.ensures.value ∙ get_or_default c.args.links.now.items c.args.place c.index_mut.result.now no_list c.requires.place

pub returns-clause-ready : goal.returns-clause-ready
returns-clause-ready c =
    set_ready c.args.links.now.items c.args.place c.push_draft.new.self c.requires.place
    (c.push_draft.ensures.now ∙ ap (λ (s : Sides LinkSeen). s.now) (here (goal.at.returns-clause-ready c).After-index_mut))
    c.requires.drafted c.push_draft.ensures.drafted

pub returns-clause-touched : goal.returns-clause-touched
returns-clause-touched c =
    set_touches c.args.links.now.items c.args.place c.push_draft.new.self c.requires.place
    (c.push_draft.ensures.now ∙ ap (λ (s : Sides LinkSeen). s.now) (here (goal.at.returns-clause-touched c).After-index_mut))
