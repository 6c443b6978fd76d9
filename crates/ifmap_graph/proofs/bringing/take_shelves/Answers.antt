use Rattle.std.proofs.Common.{false, get_or, arith}
use Rattle.std.proofs.lemmas.List.{drop_more}
use Rattle.ifmap_graph.specs.Out.{items_changed}
use Rattle.ifmap_graph.proofs.Accepting.{here_changed}
use Rattle.ifmap_graph.proofs.Flags.{taken_all, takes_empty, takes_idle, takes_on, begins_taking}
use Rattle.ifmap_graph.proofs.bringing.take_shelves.Goals as goal

pub loop-i-init : goal.loop-i-init
loop-i-init c = begins_taking (items_changed c.args.changes.now) c.args.fresh.now c.args.names.now c.args.shelves.now c.requires.apart

pub take_shelf-requires-clause-inside : goal.take_shelf-requires-clause-inside
take_shelf-requires-clause-inside c = (c.requires.inside.0, c.loop-i.invariant.less.inside c.requires.inside.0 c.requires.inside.1)

pub take_shelf-requires-clause-empty : goal.take_shelf-requires-clause-empty
take_shelf-requires-clause-empty c =
    takes_empty (items_changed c.args.changes.now) c.args.fresh.now c.args.names.now c.args.shelves.now c.loop-i.names c.loop-i.shelves
    c.loop-i.i
    (get_or c.args.changes.now c.loop-i.i c.index-changes-i.result).item (get_or c.args.fresh.now c.loop-i.i false)
    (here_changed c.args.changes.now c.loop-i.i c.index-changes-i.result
    (omega (arith, c.loop-i-test.true, c.requires.long)))
    (drop_more c.args.fresh.now c.loop-i.i false (omega (arith, c.loop-i-test.true))) c.loop-i.invariant c.requires.inside.0
    c.requires.inside.1 c.requires.bare
    c.requires.brought.0 c.requires.brought.1 c.requires.brought.2

pub take_shelf-requires-clause-idle : goal.take_shelf-requires-clause-idle
take_shelf-requires-clause-idle c =
    takes_idle (items_changed c.args.changes.now) c.args.fresh.now c.args.names.now c.args.shelves.now c.loop-i.names c.loop-i.shelves
    c.loop-i.i
    (get_or c.args.changes.now c.loop-i.i c.index-changes-i.result).item (get_or c.args.fresh.now c.loop-i.i false)
    (here_changed c.args.changes.now c.loop-i.i c.index-changes-i.result
    (omega (arith, c.loop-i-test.true, c.requires.long)))
    (drop_more c.args.fresh.now c.loop-i.i false (omega (arith, c.loop-i-test.true))) c.loop-i.invariant c.requires.brought.0
    c.requires.brought.2

pub loop-i-preserved : goal.loop-i-preserved
loop-i-preserved c =
    takes_on (items_changed c.args.changes.now) c.args.fresh.now c.args.names.now c.args.shelves.now c.loop-i.names c.loop-i.shelves
    c.loop-i.i
    (get_or c.args.changes.now c.loop-i.i c.index-changes-i.result).item (get_or c.args.fresh.now c.loop-i.i false)
    (here_changed c.args.changes.now c.loop-i.i c.index-changes-i.result
    (omega (arith, c.loop-i-test.true, c.requires.long)))
    (drop_more c.args.fresh.now c.loop-i.i false (omega (arith, c.loop-i-test.true))) c.loop-i.invariant c.take_shelf.new.names
    c.take_shelf.new.shelves
    c.take_shelf.ensures.less c.take_shelf.ensures.taken

pub returns-clause-taken : goal.returns-clause-taken
returns-clause-taken c =
    taken_all (items_changed c.args.changes.now) c.args.fresh.now c.args.names.now c.args.shelves.now c.loop-i.names c.loop-i.shelves
    c.loop-i.i
    (omega (arith, c.loop-i-test.false)) c.loop-i.invariant
