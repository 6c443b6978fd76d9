use Rattle.std.proofs.Common.{◌∙◌, ap}
use Rattle.ifmap_elem.specs.declared.elements.Child as the
use Rattle.ifmap_replies.proofs.PieceLaws.{piece_put_after}
use Rattle.ifmap_replies.proofs.runs.push_element.Goals as goal

pub returns : goal.returns
returns c =
    piece_put_after c.args.pieces.now.items c.push.new.self.items c.of_element.result (the.Element c.args.entry.now.element)
    (c.of_element.ensures ∙ ap (λ e. the.Element e) c.element.ensures) c.in_ok-push.ensures.items
