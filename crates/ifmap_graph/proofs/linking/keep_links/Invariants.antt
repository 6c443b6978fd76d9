use Rattle.std.proofs.Common.{◌≡◌, ◌++◌, take}
use Rattle.std.specs.List.{filter}
use Rattle.slab.specs.Slab.{get}
use Rattle.ifmap_view.specs.declared.views.LinkSeen.{LinkSeen}
use Rattle.ifmap_graph.specs.Joined.{is_not_empty}
use Rattle.ifmap_graph.specs.Shelved.{list_at}
use Rattle.ifmap_graph.specs.Sides.{list_next}
use Rattle.ifmap_graph.proofs.linking.keep_links.Given as goal

abbrev pub invariant-loop-seen : goal.invariant-loop-seen
invariant-loop-seen l =
    l.list.items ≡ l.initial.list.items ++ filter (λ (x : LinkSeen). is_not_empty (list_at list_next (get l.slots x.at)))
    (take l.seen-index l.links)
