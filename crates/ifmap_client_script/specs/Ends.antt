-- What contracts see of a source, a sink and two wires at one moment.
use Rattle.std.specs.Prelude.{◌≤◌, ◌⊎◌, ℕ, List, Option}
use Rattle.ifmap_io.specs.Causes.{Rose}
use Rattle.ifmap_http.specs.Wires.{WireSeen}
use Rattle.ifmap_client_script.specs.Exchanges.{WireFailed}

-- what the sink holds, where it is told, how often it has failed, and the two wires
pub record Ports : Type 0 where
  pub held : Option (List ℕ)
  pub write_faults : ℕ
  pub first : WireSeen
  pub second : WireSeen

abbrev pub ports : Option (List ℕ) → ℕ → WireSeen → WireSeen → Ports
ports held write_faults first second = record { held = held; write_faults = write_faults; first = first; second = second }

-- what the source has left, where it is told, how often it has failed, and what is written to
pub record SourceAndPorts : Type 0 where
  pub left : Option (List ℕ)
  pub read_faults : ℕ
  pub ports : Ports

abbrev pub source_and_ports : Option (List ℕ) → ℕ → Ports → SourceAndPorts
source_and_ports left read_faults ports = record { left = left; read_faults = read_faults; ports = ports }

-- no count of a wire's link has fallen
pub record IsLaterWire (before after : WireSeen) : Type 0 where
  pub read : before.read_faults ≤ after.read_faults
  pub write : before.write_faults ≤ after.write_faults

pub record ArePortsLater (before after : Ports) : Type 0 where
  pub write : before.write_faults ≤ after.write_faults
  pub first : IsLaterWire before.first after.first
  pub second : IsLaterWire before.second after.second

-- no count of faults has fallen
pub record IsLaterInRun (before after : SourceAndPorts) : Type 0 where
  pub read : before.read_faults ≤ after.read_faults
  pub ports : ArePortsLater before.ports after.ports

-- a read of the script has failed
abbrev pub ScriptReadFailed : SourceAndPorts → SourceAndPorts → Type 0
ScriptReadFailed before after = Rose before.read_faults after.read_faults

-- a write of what is printed has failed
abbrev pub PrintFailed : Ports → Ports → Type 0
PrintFailed before after = Rose before.write_faults after.write_faults

-- a read or a write of a link has failed
abbrev pub LinkFailed : Ports → Ports → Type 0
LinkFailed before after = WireFailed before.first after.first ⊎ WireFailed before.second after.second
