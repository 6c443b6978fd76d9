use Rattle.std.proofs.Common.{refl}
use Rattle.ifmap_changes.proofs.Settling.{are_back}
use Rattle.ifmap_changes.proofs.changes.undo_made.Goals as goal
use Rattle.ifmap_graph.specs.Seen.{links_now, rows_now}

pub take_back_all-requires : goal.take_back_all-requires
take_back_all-requires c = (c.requires.back.0.standing.items, c.requires.back.1.standing)

pub undo-requires-clause-back : goal.undo-requires-clause-back
undo-requires-clause-back c =
    (rows_now c.requires.back.0.graph, links_now c.requires.back.0.graph, c.requires.back.1.graph)

pub returns : goal.returns
returns c = record {
  back = λ before parts can.
      let back = c.undo.ensures.back (rows_now before.graph) (links_now before.graph) can.graph in
      are_back c.bytes_tell_identifiers_apart.ensures c.args.made before c.args.parts.now
      (record c.args.parts.now { graph = c.undo.new.self; standing = c.take_back_all.new.standing }) c.is_view.ensures c.requires.steady
      parts can c.undo.ensures.done.still back.0 back.1 c.undo.ensures.done.numbers c.undo.ensures.done.own
      c.undo.ensures.done.lean
      (c.take_back_all.ensures before.standing.items can.standing) refl;
}
