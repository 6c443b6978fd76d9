use Rattle.std.proofs.Common.{◌<◌, List, length, slice_get, ap, sym, ◌∙◌, subst}
use Rattle.ifmap_view.specs.declared.views.LinkSeen.{LinkSeen}
use Rattle.ifmap_graph.specs.Inside.{links_at}
use Rattle.ifmap_graph.specs.Sides.{list_next}
use Rattle.ifmap_graph.proofs.graph.Graph.next_link.Goals as goal

pub link_in-requires : goal.link_in-requires
link_in-requires c =
    subst (λ (l : List LinkSeen). c.args.i < length l)
    (sym (c.links_next.ensures ∙ ap (λ l. links_at list_next l c.args.number) c.deref.ensures.value))
    (rw (← c.self.view_is) at c.requires)

pub returns : goal.returns
returns c =
    rw (← c.self.view_is)
    (ap (λ l. slice_get l c.args.i) (sym (c.links_next.ensures ∙ ap (λ l. links_at list_next l c.args.number) c.deref.ensures.value))
    ∙ c.link_in.ensures)
