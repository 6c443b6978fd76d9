use Rattle.std.proofs.Common.{◌+◌, ◌*◌, min, ap, ◌∙◌, refl, get_or}
use Rattle.ifmap_lexer.proofs.NumberLaws.{reads_next}
use Rattle.ifmap_lexer.proofs.references.number_in_base.Goals as goal

pub loop-digit-preserved : goal.loop-digit-preserved
loop-digit-preserved c =
    let i = c.loop-digit.digit-index in
    reads_next c.args.base c.args.digits.now i c.loop-digit.number c.min-number.result (get_or c.args.digits.now i 0) c.requires.least
    c.loop-digit.invariant c.loop-digit-test.true refl
    c.in_ok-value.ensures.value.0
    (c.min-number.ensures ∙ ap (λ v. min (c.loop-digit.number * c.args.base + v) 0x11_0000) c.in_ok-value.ensures.value.1)
