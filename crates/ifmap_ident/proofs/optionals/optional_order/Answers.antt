use Rattle.ifmap_ident.proofs.OptionalLaws.{optionals_lead}
use Rattle.ifmap_ident.proofs.optionals.optional_order.Goals as goal

pub returns-in-false-false : goal.returns-in-false-false
returns-in-false-false c =
    optionals_lead c.text_order.result c.args.one.now c.args.other.now
    (λ e. let t = c.in-false-false.ensures.1 e in cc) (λ e. let t = c.in-false-false.ensures'.1 e in cc) c.text_order.ensures
