use Rattle.std.proofs.Common.{Err}
use Rattle.ifmap_forms.proofs.NumberLaws.{out_of_range, digits_parse}
use Rattle.ifmap_forms.proofs.numbers.value_of_digits.Goals as goal

pub returns-in-Err : goal.returns-in-Err
returns-in-Err c =
    out_of_range c.args.text.now c.requires
    (digits_parse c.args.text.now c.requires (Err c.in-Err.field-0) c.in-Err.ensures.value.0)
