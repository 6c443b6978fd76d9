use Rattle.std.proofs.Common.{◌≡◌, ◌≤◌, ℕ}
use Rattle.ifmap_core.proofs.Applying.{EndsSoFar}
use Rattle.ifmap_core.proofs.completions.end_expired.Given as goal
use Rattle.ifmap_session.specs.Sessions.{IsLive, spare_of}

abbrev pub invariant-loop-serial : goal.invariant-loop-serial
invariant-loop-serial l = record {
  state_now : EndsSoFar l.ended l.initial.sessions.live l.sessions.live l.serial-index;
  counter : l.sessions.counter ≡ l.initial.sessions.counter;
  room : l.initial.sessions.room ≤ l.sessions.room;
  spare : (n : ℕ) → IsLive n l.sessions.live → spare_of n l.sessions.spare ≡ spare_of n l.initial.sessions.spare;
}
