use Rattle.std.proofs.Common.{arith}
use Rattle.ifmap_elem.specs.Arranged.{arrange_child}
use Rattle.ifmap_lemmas.specs.InPlace.{one_more}
use Rattle.ifmap_meta.proofs.arranging.+arranging.Goals as goal

pub arrange_children-loop-i-preserved : goal.arrange_children-loop-i-preserved
arrange_children-loop-i-preserved t c = record {
  all = one_more arrange_child _ _ _ _ _ (omega (arith, c.loop-i-test.true, c.loop-i.invariant.end)) c.loop-i.invariant.all
      c.index_mut.ensures.value c.arrange_child.ensures;
  end = c.loop-i.invariant.end;
}
