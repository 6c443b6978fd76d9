use Rattle.std.proofs.Common.{ap, ◌∙◌}
use Rattle.slab.specs.Slab.{get}
use Rattle.ifmap_graph.specs.Counted.{links_among}
use Rattle.ifmap_graph.specs.Shelved.{list_at}
use Rattle.ifmap_graph.specs.Sides.{list_now}
use Rattle.ifmap_graph.proofs.Counts.{links_counted}
use Rattle.ifmap_graph.proofs.shelves.Shelves.links.Goals as goal
use Rattle.ifmap_lemmas.specs.Filters.{all_pass}

pub returns : goal.returns
returns c =
    c.count_entries.ensures
    ∙ ap (links_among (λ at. list_at list_now (get c.args.self.now.slots at)))
    (c.range.ensures.between _ ∙ all_pass c.args.self.now.places.entries)
    ∙ links_counted (λ at. list_at list_now (get c.args.self.now.slots at)) c.args.self.now.places.entries c.requires.rising
