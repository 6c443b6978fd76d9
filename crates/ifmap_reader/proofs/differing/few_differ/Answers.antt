use Rattle.std.proofs.Common.{◌+◌, List, get_or, refl, subst}
use Rattle.ifmap_elem.specs.declared.elements.Attribute.{Attribute}
use Rattle.ifmap_reader.proofs.NameLaws.{Lacks, after_is, onwards_next, onwards_not, onwards_all}
use Rattle.ifmap_reader.proofs.differing.few_differ.Goals as goal

pub returns-then-has_name : goal.returns-then-has_name
returns-then-has_name c = (
  λ h. cc,
  λ all. absurd (onwards_not c.args.attributes.now c.loop-i.i c.index-attributes-i.result c.loop-i-test.true
      (subst (λ (us : List Attribute). Lacks (get_or c.args.attributes.now c.loop-i.i c.index-attributes-i.result).name us → ⊥)
      (after_is c.args.attributes.now (c.loop-i.i + 1)) (c.if-has_name.ensures.found refl))
      c.loop-i.invariant all),
)

pub loop-i-preserved : goal.loop-i-preserved
loop-i-preserved c =
    onwards_next c.args.attributes.now c.loop-i.i c.index-attributes-i.result c.loop-i-test.true
    (subst (λ (us : List Attribute). Lacks (get_or c.args.attributes.now c.loop-i.i c.index-attributes-i.result).name us)
    (after_is c.args.attributes.now (c.loop-i.i + 1)) (c.if-has_name.ensures.none refl))
    c.loop-i.invariant

pub returns : goal.returns
returns c = (λ h. onwards_all c.args.attributes.now c.loop-i.i c.loop-i-test.false c.loop-i.invariant, λ all. refl)
