use Rattle.std.proofs.Common.{rules, map}
use Rattle.ifmap_elem.specs.Outlines.{outline_child, outline_element}
use Rattle.ifmap_elem.specs.declared.elements.Child as the
use Rattle.ifmap_replies.proofs.PieceLaws.{piece_put_after}
use Rattle.ifmap_replies.proofs.RunLaws.{one_run}
use Rattle.ifmap_replies.proofs.runs.entry_pieces.Goals as goal

pub loop-first-preserved : goal.loop-first-preserved
loop-first-preserved c =
    one_run _ (map outline_child c.loop-first.pieces.items) (map outline_child c.push.new.self.items) c.loop-first.rest.now
    c.in-Some.others.now c.in-Some.first.now
    (outline_element c.in_ok-run.run') c.run_length-length.result (search rules) c.run_length-length.ensures.value c.in_ok-run.ensures
    (piece_put_after c.loop-first.pieces.items c.push.new.self.items c.into_piece.result (the.Element (outline_element c.in_ok-run.run'))
    c.into_piece.ensures c.in_ok-push.ensures.items) c.loop-first.invariant
