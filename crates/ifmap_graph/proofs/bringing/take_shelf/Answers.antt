use Rattle.std.proofs.Common.{ap, ◌∙◌, sym}
use Rattle.slab.specs.Slab.{get}
use Rattle.ifmap_graph.specs.Shelved.{list_at}
use Rattle.ifmap_graph.specs.Sides.{list_now}
use Rattle.ifmap_graph.proofs.Finding.{entry_stores}
use Rattle.ifmap_graph.proofs.Lessening.{less_removed}
use Rattle.ifmap_graph.proofs.bringing.take_shelf.Goals as goal

pub returns-then-came-clause-less : goal.returns-then-came-clause-less
returns-then-came-clause-less c =
    let e = c.requires.empty c.if-came.true
    in less_removed c.args.names.now c.remove_shelf.new.names c.args.shelves.now c.remove_shelf.new.shelves c.args.item.now
    c.requires.inside.1.placed
    (c.remove_shelf.ensures.inside c.requires.inside.0 c.requires.inside.1).placed
    (sym (entry_stores (λ n. list_at list_now (get c.args.shelves.now.slots n)) c.args.item.now c.args.shelves.now.places.entries e.0
    c.requires.inside.1.placed.rising e.2)
    ∙ ap (list_at list_now) e.3 ∙ ap list_now e.4)
    c.remove_shelf.ensures.inside c.remove_shelf.ensures.now c.remove_shelf.ensures.before c.remove_shelf.ensures.others
    c.remove_shelf.ensures.named
    c.remove_shelf.ensures.own
