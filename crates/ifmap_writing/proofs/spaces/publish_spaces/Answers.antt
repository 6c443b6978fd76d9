use Rattle.ifmap_writing.specs.RequestSpaces.{publish_filters}
use Rattle.ifmap_writing.proofs.SpaceLaws.{more_added}
use Rattle.ifmap_writing.proofs.spaces.publish_spaces.Goals as goal

pub loop-op-preserved : goal.loop-op-preserved
loop-op-preserved c =
    more_added publish_filters c.args.ops.now c.loop-op.op-index c.op-item.result c.loop-op.spaces _
    c.loop-op-test.true c.op-item.is c.loop-op.invariant c.in_ok-spaces.ensures
