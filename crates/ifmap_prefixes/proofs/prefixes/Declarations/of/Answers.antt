use Rattle.ifmap_prefixes.specs.Rows.{index_at}
use Rattle.ifmap_prefixes.proofs.Adding.{row_added}
use Rattle.ifmap_prefixes.proofs.prefixes.Declarations.of.Goals as goal

pub loop-index-preserved : goal.loop-index-preserved
loop-index-preserved c =
    row_added c.args.rows.now c.loop-index.index c.index-rows-index.result c.loop-index-test.true c.index-rows-index.is
    (index_at c.loop-index.last) (index_at c.put_declaration.new.last) c.loop-index.invariant c.in_ok-put_declaration.ensures
