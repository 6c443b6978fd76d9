use Rattle.std.proofs.Common.{◌≡◌, take}
use Rattle.ifmap_forms.specs.ifmap_filter.Holding.{text_among}
use Rattle.ifmap_replies.proofs.notes.text_among.Given as goal

abbrev pub invariant-loop-child : goal.invariant-loop-child
invariant-loop-child l = l.text ≡ text_among (take l.child-index l.children)
