use Rattle.std.proofs.Common.{refl, Bor}
use Rattle.std.specs.BTreeSet.{contains}
use Rattle.ifmap_elem.specs.Arranged.{name_order}
use Rattle.ifmap_elem.specs.declared.elements.Name.{Name}
use Rattle.ifmap_reader.proofs.NameSets.{name_added, name_twice}
use Rattle.ifmap_reader.proofs.differing.many_differ.Goals as goal

pub returns-then-not-branch : goal.returns-then-not-branch
returns-then-not-branch c = (
  λ h. cc,
  λ all. absurd (name_twice c.args.attributes.now c.loop-attribute.attribute-index c.attribute-item.result c.loop-attribute-test.true
      c.attribute-item.is
      (λ (n : Bor Name). contains (λ (x y : Bor Name). name_order x.now y.now) c.loop-attribute.names n) c.loop-attribute.invariant
      (record { ref_ptr = c.args.attributes.ref_ptr; now = c.attribute-item.result.name }) refl
      c.in_ok-insert.field-0 c.in_ok-insert.ensures.added c.if-not-branch.true all),
)

pub loop-attribute-preserved : goal.loop-attribute-preserved
loop-attribute-preserved c =
    name_added c.args.attributes.now c.loop-attribute.attribute-index c.attribute-item.result c.loop-attribute-test.true c.attribute-item.is
    (λ (n : Bor Name). contains (λ (x y : Bor Name). name_order x.now y.now) c.loop-attribute.names n) c.loop-attribute.invariant
    (record { ref_ptr = c.args.attributes.ref_ptr; now = c.attribute-item.result.name }) refl
    c.in_ok-insert.field-0 c.in_ok-insert.ensures.added c.if-not-branch.false _ c.in_ok-insert.ensures.updates.0
