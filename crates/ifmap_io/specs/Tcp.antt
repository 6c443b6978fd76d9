-- A link over the system's sockets as contracts see it.
use Rattle.std.specs.Prelude.{ℕ}

-- its counts of reading and of writing
pub record Counts : Type 0 where
  pub read_faults : ℕ
  pub write_faults : ℕ
