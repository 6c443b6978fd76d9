-- The objects in memory that stand for the outside, as contracts see them.
-- Of each, `fails` lists the calls that are to fail, by their number from 0 over all calls that can fail,
-- and `calls` is how many of these were made.
use Rattle.std.specs.Prelude.{ℕ, ◌+◌, ◌*◌, min, List, Some, map, Contains, Result, IsErr, is_err, if◌then◌else◌, ◌↔◌}
use Rattle.ifmap_io.specs.Doors.{Doorway}
use Rattle.ifmap_io.specs.Links.{Seen}
use Rattle.ifmap_io.specs.Causes.{count_after_one}

-- a source: the bytes that it has left, and its faults
pub record Feed : Type 0 where
  pub left : List ℕ
  pub fails : List ℕ
  pub calls : ℕ
  pub faults : ℕ

-- a sink: the bytes that it holds, and its faults
pub record Store : Type 0 where
  pub held : List ℕ
  pub fails : List ℕ
  pub calls : ℕ
  pub faults : ℕ

-- a link: the bytes that it has left and those that it holds, with its faults of reading and of writing
pub record Cable : Type 0 where
  pub left : List ℕ
  pub held : List ℕ
  pub fails : List ℕ
  pub calls : ℕ
  pub read_faults : ℕ
  pub write_faults : ℕ

-- a door: the links that it has left, those that came back, its room, and its faults
pub record Porch : Type 0 where
  pub left : List Cable
  pub back : List Cable
  pub room : ℕ
  pub fails : List ℕ
  pub calls : ℕ
  pub faults : ℕ

-- a clock: its first moment, by how many seconds it goes on at a pause, and its last moment
pub record Dial : Type 0 where
  pub first : ℕ
  pub step : ℕ
  pub last : ℕ

-- the moment of a clock after so many pauses: it stays at its last moment
abbrev pub moment_after : Dial → ℕ → ℕ
moment_after dial pauses = min (dial.first + pauses * dial.step) dial.last

-- a link in memory as every link is seen
abbrev pub cable_seen : Cable → Seen
cable_seen cable =
    record { left = Some cable.left; held = Some cable.held; read_faults = cable.read_faults; write_faults = cable.write_faults }

-- a door in memory as every door is seen
abbrev pub porch_seen : Porch → Doorway
porch_seen porch = record { left = map cable_seen porch.left; back = map cable_seen porch.back; room = porch.room }

-- a count of faults after a call
abbrev pub faults_after : {T E : Type 0} → Result T E → ℕ → ℕ
faults_after result faults = if is_err result then count_after_one faults else faults

-- the call of this number failed exactly where it is listed
abbrev pub FailsAsListed : {T E : Type 0} → List ℕ → ℕ → Result T E → Type 0
FailsAsListed fails calls result = IsErr result ↔ Contains fails calls
