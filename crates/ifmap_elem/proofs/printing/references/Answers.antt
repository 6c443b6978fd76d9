use Rattle.std.proofs.Common.{◌∙◌, arith}
use Rattle.std.proofs.lemmas.List.{take_all}
use Rattle.ifmap_elem.proofs.printing.references.Goals as goal

pub returns : goal.returns
returns c = c.loop-text.invariant ∙ take_all c.loop-text.text-index c.args.texts.now (omega (arith, c.loop-text-test.false))
