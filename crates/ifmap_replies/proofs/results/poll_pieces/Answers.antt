use Rattle.std.proofs.Common.{◌∙◌, ap}
use Rattle.ifmap_elem.specs.declared.elements.Child as the
use Rattle.ifmap_replies.specs.Results.{poll_element}
use Rattle.ifmap_replies.proofs.PieceLaws.{put_next}
use Rattle.ifmap_replies.proofs.results.poll_pieces.Goals as goal

pub loop-item-preserved : goal.loop-item-preserved
loop-item-preserved c =
    put_next poll_element c.args.items.now c.loop-item.item-index c.item-item.result c.loop-item.pieces.items c.push.new.self.items
    c.into_piece.result c.loop-item-test.true c.item-item.is (c.into_piece.ensures ∙ ap (λ e. the.Element e) c.in_ok-told.ensures)
    c.in_ok-push.ensures.items c.loop-item.invariant
