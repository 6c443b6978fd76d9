-- How a turn ends, and how it ends the replay.
use Rattle.std.proofs.Common.{◌≡◌, ◌≢◌, ℕ, List, [], ◌++◌, Option, Some, IfSome, Err, refl, subst, arith}
use Rattle.std.proofs.KnownBytes.{Keeps-refl}
use Rattle.std.specs.Io.KnownBytes.{Appends, Keeps}
use Rattle.ifmap_io.specs.Causes.{Rose}
use Rattle.ifmap_server.specs.declared.errors.ReplayError.{ReplayError}
use Rattle.ifmap_server.specs.declared.errors.ReplayError.TheVariants.{FrameFault, NoMemory, ReadFault, WriteFault}
use Rattle.ifmap_server.specs.Awaited.{IsAwaited}
use Rattle.ifmap_server.specs.Output.{AppendsPrefix, fault_line}
use Rattle.ifmap_server.specs.Replayed.{ReplayPromises}
use Rattle.ifmap_server.specs.Ends.{IsLaterMoment, SourceAndSink, source_and_sink}
use Rattle.ifmap_server.specs.Taking.{TakesBytes}
use Rattle.ifmap_server.specs.Turns.{BeginsNone, Replaying, IsReplayTurn}
use Rattle.ifmap_server.proofs.Pieces.{keeps_prefix}
use Rattle.ifmap_server.proofs.Progress.{Progress, fault_part, fault_told, part, answers_taken, answers_part}
use Rattle.ifmap_io.specs.Rises.{rose_since}

-- no frame was taken: the turn ends as the taking did
pub turn_takes_nothing : {X T : Type 0} (e : ReplayError) (left : X → Option (List ℕ)) (faults : X → ℕ) (source_old source_new : X)
    (held : Option (List ℕ)) (writes : ℕ) (old new : Replaying)
    → TakesBytes {T = T} left faults (source_old, old.pending) (source_new, new.pending) (Err e)
    → (e ≡ FrameFault → IfSome (left source_new) (λ rest. (new.pending ++ rest ≢ []) × BeginsNone old.offset (new.pending ++ rest)))
    → (e ≡ ReadFault → IsAwaited old.offset new.pending) → e ≢ WriteFault → new.offset ≡ old.offset
    → IsReplayTurn (Err e) (source_and_sink (left source_old) (faults source_old) held writes)
    (source_and_sink (left source_new) (faults source_new) held writes) old new
turn_takes_nothing FrameFault left faults source_old source_new held writes old new takes fault read not same =
    (record { taken = new.pending; takes = takes.taken; fault = fault refl; kept = Keeps-refl held }, same)
turn_takes_nothing ReadFault left faults source_old source_new held writes old new takes fault read not same =
    record { taken = new.pending; takes = takes.taken; awaited = read refl; kept = Keeps-refl held; cause = takes.rose }
turn_takes_nothing WriteFault left faults source_old source_new held writes old new takes fault read not same = absurd (not refl)
turn_takes_nothing NoMemory left faults source_old source_new held writes old new takes fault read not same = Keeps-refl held

module _ (before mid after : SourceAndSink) (now new : Replaying) (p : Progress before mid now) where
  -- any error but that of a frame ends the replay
  pub error_ends : (e : ReplayError) → e ≢ FrameFault → IsReplayTurn (Err e) mid after now new → ReplayPromises (Err e) before after
  error_ends FrameFault not t = absurd (not refl)
  error_ends ReadFault not t =
      (answers_taken before mid after now p t, rose_since before.read_faults mid.read_faults after.read_faults p.later.read t.cause)
  error_ends WriteFault not t =
      (answers_part before mid after now p t, rose_since before.write_faults mid.write_faults after.write_faults p.later.write t.cause)
  error_ends NoMemory not t = part before mid after now p t

  -- a frame is at fault, and its offset is told
  pub fault_ends : (last : SourceAndSink) (e : ReplayError) → IsReplayTurn (Err FrameFault) mid after now new → IsLaterMoment mid after
      → (e ≡ FrameFault → Appends after.held last.held (fault_line (Some new.offset)))
      → (e ≡ WriteFault → AppendsPrefix after.held last.held (fault_line (Some new.offset)))
      → (e ≡ NoMemory → Keeps after.held last.held) → e ≢ ReadFault
      → (e ≡ WriteFault → Rose after.write_faults last.write_faults) → ReplayPromises (Err e) before last
  fault_ends last FrameFault t later told part_told kept not rose =
      fault_told before mid after now p last t.0
      (subst (λ (n : ℕ). Appends after.held last.held (fault_line (Some n))) t.1 (told refl))
  fault_ends last ReadFault t later told part_told kept not rose = absurd (not refl)
  fault_ends last WriteFault t later told part_told kept not rose =
      let first = p.later.write in
      let second = later.write in (
        fault_part before mid after now p last t.0
            (subst (λ (n : ℕ). AppendsPrefix after.held last.held (fault_line (Some n))) t.1 (part_told refl)),
        rose_since before.write_faults after.write_faults last.write_faults (omega arith) (rose refl),
      )
  fault_ends last NoMemory t later told part_told kept not rose =
      fault_part before mid after now p last t.0 (keeps_prefix after.held last.held (fault_line (Some now.offset)) (kept refl))
