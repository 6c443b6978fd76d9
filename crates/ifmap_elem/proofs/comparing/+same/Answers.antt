use Rattle.std.proofs.Common.{arith}
use Rattle.ifmap_elem.specs.laws.ArrangedLaws.{same_children_of, other_at}
use Rattle.ifmap_elem.proofs.comparing.+same.Goals as goal

pub same_child-returns-in-Element-Element : goal.same_child-returns-in-Element-Element
same_child-returns-in-Element-Element t c =
    same_children_of c.args.one.now c.args.other.now c.in-Element-Element.one c.in-Element-Element.other c.same_element.result
    c.in-Element-Element.is-0 c.in-Element-Element.is-1 c.same_element.ensures

pub same_children-returns-then-not-same_child : goal.same_children-returns-then-not-same_child
same_children-returns-then-not-same_child t c = (
  λ f. cc,
  λ same. absurd (other_at c.args.one.now c.args.other.now c.loop-i.i c.index-one-i.result c.index-other-i.result
      (omega arith) (omega arith) c.index-one-i.is c.index-other-i.is (λ e. let h = c.same_child.ensures.1 e in cc) same),
)
