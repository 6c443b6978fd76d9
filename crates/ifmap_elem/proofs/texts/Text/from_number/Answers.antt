use Rattle.std.proofs.Common.{◌∙◌, sym}
use Rattle.std.proofs.lemmas.Result.{IfOk-weaker}
use Rattle.ifmap_lemmas.specs.Numerals.{numeral_is_decimal}
use Rattle.ifmap_elem.proofs.texts.Text.from_number.Goals as goal

pub returns : goal.returns
returns c =
    IfOk-weaker c.from_str.result _ _
    (λ text h. h ∙ c.format.ensures.text ∙ sym (numeral_is_decimal c.args.number c.ranges.number.fits)) c.from_str.ensures
