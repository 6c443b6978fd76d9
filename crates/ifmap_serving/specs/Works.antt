-- Work at a door.
use Rattle.std.specs.Prelude.{◌≡◌, ℕ, ◌-◌, ◌≤◌, ◌⊎◌, List, [], ◌++◌, Option, None, Some, IfSome, IsNone, flat_map, length, map, take}
use Rattle.ifmap_io.specs.Causes.{Rose}
use Rattle.ifmap_io.specs.Doors.{Doorway}
use Rattle.ifmap_io.specs.Statuses.{done_status, link_fault_status}
use Rattle.ifmap_desks.specs.ifmap_dialogue.Desks.{DeskTakesTurns}
use Rattle.ifmap_serving.specs.Connections.{Connection, FollowOn, Worker}

-- a door: its links, where they are told, and how often `accept` has failed
pub record DoorSeen : Type 0 where
  pub links : Option Doorway
  pub faults : ℕ

-- a door by its two meanings
abbrev pub door_seen : {D : Type 0} → (D → Option Doorway) → (D → ℕ) → D → DoorSeen
door_seen links faults door = record { links = links door; faults = faults door }

-- the links of the connections left the door in this order, and came back in this order as long as there was room
pub record PassThrough {H : Type 0} (connections : List (Connection H)) (door after : Doorway) : Type 0 where
  pub left : door.left ≡ map (λ (c : Connection H). c.came) connections ++ after.left
  pub back : after.back ≡ door.back ++ take door.room (map (λ (c : Connection H). c.back) connections)
  pub room : after.room ≡ door.room - length connections

-- the same of a door that tells; one that tells nothing goes on telling nothing
abbrev pub DoorPassesThrough : {H : Type 0} → List (Connection H) → Option Doorway → Option Doorway → Type 0
DoorPassesThrough connections None new = IsNone new
DoorPassesThrough connections (Some door) None = ⊥
DoorPassesThrough connections (Some door) (Some after) = PassThrough connections door after

-- connections of a door were served one after another: what they asked, in their order, is what the desk was told
pub record Works {H : Type 0} (gives : ℕ → Type 0) (before after : Worker H) (door left : DoorSeen) : Type 0 where
  pub connections : List (Connection H)
  pub served : FollowOn gives before connections after
  pub tells : DeskTakesTurns before.desk after.desk (flat_map (λ (c : Connection H). c.turns) connections)
  pub led : DoorPassesThrough connections door.links left.links
  pub later : door.faults ≤ left.faults

-- work ended as done where no link was left, and with a fault of a link where `accept` failed
abbrev pub IsWorkStatus : DoorSeen → DoorSeen → ℕ → Type 0
IsWorkStatus door left status =
    ((status ≡ done_status) × IfSome left.links (λ doorway. doorway.left ≡ []))
    ⊎ ((status ≡ link_fault_status) × Rose door.faults left.faults)
