-- Stands, before and after they are served.
use Rattle.std.specs.Prelude.{◌≡◌, ℕ, ◌-◌, ◌^◌, ◌<◌, ◌==◌, List, [], Some, IfSome, IsSome, count_by, flat_map, length, map, slice_index_or, if◌then◌else◌}
use Rattle.std.specs.List.{list_any}
use Rattle.rand_chacha.specs.ChaCha.{ChaCha, of_seed}
use Rattle.ifmap_desks.specs.ifmap_dialogue.Desks.{greatest_weight, is_spent}
use Rattle.ifmap_desks.specs.Calls.{plain_call}
use Rattle.ifmap_desks.specs.Recalls.{Recalls}
use Rattle.ifmap_desks.specs.declared.events.FitEvent.{FitEvent}
use Rattle.ifmap_desks.specs.declared.machine.CoreMachine.{CoreMachine}
use Rattle.ifmap_hall.specs.declared.hall.Hall.{Hall}
use Rattle.ifmap_hall.specs.declared.view.HallView.{HallView}
use Rattle.ifmap_hall.specs.Passes.{IsOf, view_of}
use Rattle.ifmap_hall.specs.Views.{IsSoundView}
use Rattle.ifmap_io.specs.Statuses.{done_status, link_fault_status}
use Rattle.ifmap_desks.specs.ifmap_machine.declared.events.Answer.{Answer}
use Rattle.ifmap_desks.specs.ifmap_machine.State.{opening_state, session_seconds}
use Rattle.ifmap_serving.specs.declared.stands.Stand.{Stand}
use Rattle.ifmap_serving.specs.Connections.{Connection, Worker}
use Rattle.ifmap_serving.specs.Works.{DoorSeen, IsWorkStatus, Works}

-- the hall of a server
abbrev pub ServerHall : Type 0
ServerHall = Hall CoreMachine FitEvent Answer

-- what the entries that the server keeps beside its base may weigh at most, in bytes
abbrev pub most_kept : ℕ
most_kept = 500_000_000

-- a pass of a hall of these limits that began with an empty core. Its base is the run of some entries from there, since the entries that
-- it has seen are all since the opening state, and as many of them are in the base
pub record IsServerView (v : HallView CoreMachine FitEvent Answer) : Type 0 where
  pub opening : v.terms.opening.value ≡ record { core = opening_state session_seconds }
  pub limit : v.terms.limit ≡ most_kept
  pub heaviest : v.terms.heaviest ≡ greatest_weight
  pub sound : IsSoundView v

-- the same of a pass that has asked nothing
pub record OpensServer (v : HallView CoreMachine FitEvent Answer) : Type 0 where
  pub view : IsServerView v
  pub idle : v.turns ≡ 0
  pub asked_none : v.mine ≡ []
  pub silent : v.said ≡ []

-- the key's stream of this number, from its start
abbrev pub words_at : List ℕ → ℕ → ChaCha
words_at key number = record (of_seed key) { stream = number }

-- a worker worked at a door, over a desk in the hall and from these words on. The desk had told nothing at first, and has told in the
-- end all that the pass has said, which is what the machine answered at the places of the pass's own entries. The pass took as many
-- turns as the connections have; where no number was left for one of them, the pass has seen 2^64 - 1 entries; and the status is that
-- of how the work ended
pub record WorksBy (gives : ℕ → Type 0) (hall : ServerHall) (words : ChaCha) (v : HallView CoreMachine FitEvent Answer) (door left :
    DoorSeen)
    (status : ℕ) : Type 0 where
  pub first : Worker ServerHall
  pub last : Worker ServerHall
  pub hall_is : first.desk.home ≡ hall
  pub silent : first.desk.said ≡ Some []
  pub said : last.desk.said ≡ Some (map plain_call v.said)
  pub words_are : first.words ≡ words
  pub recalls : ∥ Recalls v ∥₁
  pub works : Works gives first last door left
  pub turns : v.turns ≡ length (flat_map (λ (c : Connection ServerHall). c.turns) works.connections)
  pub spent : 0 < count_by is_spent (flat_map (λ (c : Connection ServerHall). c.turns) works.connections)
      → length v.history.log ≡ 2 ^ 64 - 1
  pub ends : IsWorkStatus door left status

module _ {D G : Type 0} where
  -- the stand has a pass of the hall, which has asked nothing
  pub record HasUnusedPass (hall : ServerHall) (stand : Stand D G) : Type 0 where
    pub some : IsSome stand.pass
    pub pass : IfSome stand.pass (λ p. IsOf hall p × OpensServer (view_of p))

  -- each stand has its place and such a pass, and is otherwise as it was
  pub record IsReadied (hall : ServerHall) (place : ℕ) (before after : Stand D G) : Type 0 where
    pub place_is : after.place ≡ place
    pub ready : HasUnusedPass hall after
    pub door : after.door ≡ before.door
    pub gate : after.gate ≡ before.gate

  abbrev pub AreReady : ServerHall → List (Stand D G) → List (Stand D G) → Type 0
  AreReady hall before after =
      (i : ℕ) (d : Stand D G) → i < length before → IsReadied hall i (slice_index_or before i d) (slice_index_or after i d)

  -- no door was touched, and no gate
  pub record IsUnserved (before after : Stand D G) : Type 0 where
    pub door : after.door ≡ before.door
    pub gate : after.gate ≡ before.gate

  abbrev pub AreUnserved : List (Stand D G) → List (Stand D G) → Type 0
  AreUnserved before after =
      (i : ℕ) (d : Stand D G) → i < length before → IsUnserved (slice_index_or before i d) (slice_index_or after i d)

  module _ (gives : ℕ → Type 0) (see : D → DoorSeen) (key : List ℕ) (hall : ServerHall) where
    -- the stand has this place, and a worker worked there by its pass, with the words of the stream of the place
    pub record IsStandServed (place : ℕ) (before after : Stand D G) : Type 0 where
      pub place_is : after.place ≡ place
      pub some : IsSome after.pass
      pub pass : IfSome after.pass (λ p. IsOf hall p × IsServerView (view_of p)
          × WorksBy gives hall (words_at key place) (view_of p) (see before.door) (see after.door) after.status)

  -- all stands were served over one hall
  pub record AreServed (gives : ℕ → Type 0) (see : D → DoorSeen) (key : List ℕ) (before after : List (Stand D G)) : Type 0 where
    pub hall : ServerHall
    pub stands : (i : ℕ) (d : Stand D G) → i < length before
        → IsStandServed gives see key hall i (slice_index_or before i d) (slice_index_or after i d)

  -- that of a fault of a link where a stand has that status, and else that of a run that is done
  abbrev pub status_of_stands : List (Stand D G) → ℕ
  status_of_stands stands =
      if list_any (λ (s : Stand D G). s.status == link_fault_status) stands then link_fault_status else done_status
