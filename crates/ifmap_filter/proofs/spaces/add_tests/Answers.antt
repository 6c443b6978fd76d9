use Rattle.ifmap_filter.specs.Spaces.{test_spaces}
use Rattle.ifmap_filter.proofs.SpaceLaws.{run_more}
use Rattle.ifmap_filter.proofs.spaces.add_tests.Goals as goal

pub loop-test-preserved : goal.loop-test-preserved
loop-test-preserved c =
    run_more test_spaces c.args.tests.now c.loop-test.test-index c.test-item.result c.args.spaces.now.items c.loop-test.spaces.items
    c.add_test.new.spaces.items c.loop-test-test.true c.test-item.is c.loop-test.invariant c.in_ok-add_test.ensures
