use Rattle.std.specs.BTreeMap.{btree_map_len}
use Rattle.ifmap_tellings.proofs.Queuing.{TellsOn}
use Rattle.ifmap_tellings.proofs.tellings.tell_sessions.Given as goal

abbrev pub invariant-loop-serial : goal.invariant-loop-serial
invariant-loop-serial l = TellsOn l.fn.tellings l.fn.sessions l.sessions l.left

abbrev pub decreases-loop-serial : goal.decreases-loop-serial
decreases-loop-serial l = btree_map_len l.left
