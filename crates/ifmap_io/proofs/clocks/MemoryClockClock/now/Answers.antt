use Rattle.std.proofs.Common.{arith}
use Rattle.ifmap_io.proofs.clocks.MemoryClockClock.now.Goals as goal

pub returns-clause-reached : goal.returns-clause-reached
returns-clause-reached c = (c.load-pauses.result, grind arith)
