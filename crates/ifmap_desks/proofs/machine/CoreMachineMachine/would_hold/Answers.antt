use Rattle.ifmap_lemmas.specs.Tests.{same_test}
use Rattle.ifmap_core.specs.EmptyPolls.{WouldHold}
use Rattle.ifmap_desks.specs.Holding.{would_hold}
use Rattle.ifmap_desks.proofs.machine.CoreMachineMachine.would_hold.Goals as goal

pub returns : goal.returns
returns c =
    same_test c.would_hold.result (would_hold c.args.self.now.core c.args.event.now.event)
    (WouldHold c.args.self.now.core c.args.event.now.event) c.would_hold.ensures.exact
    (c.holding_is_exact.ensures c.args.self.now.core c.args.event.now.event)
