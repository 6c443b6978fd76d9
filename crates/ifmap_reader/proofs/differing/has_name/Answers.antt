use Rattle.std.proofs.Common.{refl}
use Rattle.ifmap_reader.proofs.NameLaws.{not_lacking}
use Rattle.ifmap_reader.proofs.differing.has_name.Goals as goal

pub returns-then-equals-clause-found : goal.returns-then-equals-clause-found
returns-then-equals-clause-found c = λ h lacks.
    not_lacking c.args.name.now c.args.attributes.now c.loop-attribute.attribute-index c.attribute-item.result c.loop-attribute-test.true
    c.attribute-item.is
    (c.if-equals.ensures.0 refl) lacks
