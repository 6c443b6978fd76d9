use Rattle.std.proofs.Common.{◌∙◌, arith}
use Rattle.std.proofs.lemmas.List.{nil_from_length}
use Rattle.std.specs.Vec.Iter.{into_iter_items}
use Rattle.ifmap_subscribes.proofs.RenamingStarts.{can_go_on, releases_all, releases_more, releases_none}
use Rattle.ifmap_subscribes.proofs.renamings.release_all.Goals as goal

pub loop-renaming-init : goal.loop-renaming-init
loop-renaming-init c =
    releases_none c.args.renamings (into_iter_items c.into_iter-renaming-iterator.result) c.args.graph.now
    (c.into_iter-renaming-iterator.ensures.into_iter_gives.0 ∙ c.renamings.view_is)

pub release_where-requires : goal.release_where-requires
release_where-requires c =
    can_go_on c.args.renamings c.args.graph.now c.loop-renaming.graph (into_iter_items c.loop-renaming.renaming-iterator) c.in-Some.renaming
    (into_iter_items c.next.new.self) c.loop-renaming.invariant c.in-Some.ensures.steps.0 c.requires

pub loop-renaming-preserved : goal.loop-renaming-preserved
loop-renaming-preserved c =
    releases_more c.args.renamings c.args.graph.now c.loop-renaming.graph (into_iter_items c.loop-renaming.renaming-iterator)
    c.in-Some.renaming (into_iter_items c.next.new.self) c.loop-renaming.invariant c.in-Some.ensures.steps.0 c.release_where.new.graph
    c.release_where.ensures.steady c.release_where.ensures.lets_go

pub loop-renaming-preserved-in-Some : goal.loop-renaming-preserved-in-Some
loop-renaming-preserved-in-Some c =
    releases_more c.args.renamings c.args.graph.now c.loop-renaming.graph (into_iter_items c.loop-renaming.renaming-iterator)
    c.in-Some.renaming (into_iter_items c.next.new.self) c.loop-renaming.invariant c.in-Some.ensures.steps.0 c.release_where.new.graph
    c.release_where.ensures.steady c.release_where.ensures.lets_go

pub returns-clause-steady : goal.returns-clause-steady
returns-clause-steady c =
    releases_all c.args.renamings c.args.graph.now c.loop-renaming.graph (into_iter_items c.loop-renaming.renaming-iterator)
    c.loop-renaming.invariant (nil_from_length (into_iter_items c.loop-renaming.renaming-iterator)
    (omega (arith, c.loop-renaming.renaming-iterator.rest.ok.0, c.in-None.ensures.steps.0)))

pub returns-clause-lets_go : goal.returns-clause-lets_go
returns-clause-lets_go c = c.loop-renaming.invariant.released
