use Rattle.std.proofs.Common.{◌<◌, List, length, slice_get, ap, sym, ◌∙◌, subst}
use Rattle.ifmap_view.specs.declared.views.LinkSeen.{LinkSeen}
use Rattle.ifmap_graph.specs.Inside.{links_at}
use Rattle.ifmap_graph.specs.Sides.{list_now}
use Rattle.ifmap_graph.proofs.graph.GraphView.link_at.Goals as goal

pub link_in-requires : goal.link_in-requires
link_in-requires g c =
    subst (λ (l : List LinkSeen). c.args.i < length l)
    (sym (c.links_now.ensures ∙ ap (λ l. links_at list_now l c.args.number) c.deref.ensures.value))
    (rw (← c.self.view_is) at c.requires)

pub returns-clause-link : goal.returns-clause-link
returns-clause-link g c =
    rw (← c.self.view_is)
    (ap (λ l. slice_get l c.args.i) (sym (c.links_now.ensures ∙ ap (λ l. links_at list_now l c.args.number) c.deref.ensures.value))
    ∙ c.link_in.ensures)
