use Rattle.std.proofs.Common.{◌≡◌, take}
use Rattle.std.specs.List.{filter, sum_by}
use Rattle.ifmap_session.specs.Seats.{counted_size}
use Rattle.ifmap_session.specs.Sessions.{is_named}
use Rattle.ifmap_session.proofs.queues.size_of_named.Given as goal

abbrev pub invariant-loop-item : goal.invariant-loop-item
invariant-loop-item l = l.size ≡ sum_by counted_size (filter (is_named l.name) (take l.item-index l.queue))
