-- What contracts see of a source and a sink at one moment.
use Rattle.std.specs.Prelude.{ℕ, ◌≤◌, List, Option}
use Rattle.ifmap_io.specs.Causes.{Rose}

-- what the source has left and what the sink holds, each where it is told, and how often each has failed
pub record SourceAndSink : Type 0 where
  pub left : Option (List ℕ)
  pub read_faults : ℕ
  pub held : Option (List ℕ)
  pub write_faults : ℕ

abbrev pub source_and_sink : Option (List ℕ) → ℕ → Option (List ℕ) → ℕ → SourceAndSink
source_and_sink left read_faults held write_faults =
    record { left = left; read_faults = read_faults; held = held; write_faults = write_faults }

-- no count of faults has fallen
pub record IsLaterMoment (before after : SourceAndSink) : Type 0 where
  pub read : before.read_faults ≤ after.read_faults
  pub write : before.write_faults ≤ after.write_faults

-- a read has failed, and a write has
abbrev pub ReadFailed : SourceAndSink → SourceAndSink → Type 0
ReadFailed before after = Rose before.read_faults after.read_faults

abbrev pub WriteFailed : SourceAndSink → SourceAndSink → Type 0
WriteFailed before after = Rose before.write_faults after.write_faults
