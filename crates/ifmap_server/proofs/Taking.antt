-- Bytes that are taken in steps.
use Rattle.std.proofs.Common.{ℕ, ◌≤◌, List, Option, Result, Ok, Err, ◌≡◌, arith, subst}
use Rattle.ifmap_input.specs.Inputs.{TakesFromSource}
use Rattle.ifmap_input.specs.InputLaws.{takes_more}
use Rattle.ifmap_io.specs.Rises.{rose_since}
use Rattle.ifmap_server.specs.declared.errors.ReplayError.{ReplayError}
use Rattle.ifmap_server.specs.declared.errors.ReplayError.TheVariants.{FrameFault, NoMemory, ReadFault, WriteFault}
use Rattle.ifmap_server.specs.Taking.{TakesBytes, UnlessMemoryLacks}

module _ {X : Type 0} (left : X → Option (List ℕ)) (faults : X → ℕ) where
  -- where bytes were taken in one step and no read failed, this may be answered
  pub takes_ok : {T : Type 0} (old new : X × List ℕ) (x : T) → TakesFromSource (left old.0) (left new.0) old.1 new.1
      → faults old.0 ≤ faults new.0 → TakesBytes left faults old new (Ok x)
  takes_ok old new x takes later = record { taken = takes; rose = tt; later = later }

  -- so may that no frame is there
  pub takes_fault : {T : Type 0} (old new : X × List ℕ) → TakesFromSource (left old.0) (left new.0) old.1 new.1
      → faults old.0 ≤ faults new.0 → TakesBytes {T = T} left faults old new (Err FrameFault)
  takes_fault old new takes later = record { taken = takes; rose = tt; later = later }

  -- what failed after bytes were taken failed with them
  pub fails_after : {T U : Type 0} (old mid new : X × List ℕ) (e : ReplayError) → TakesFromSource (left old.0) (left mid.0) old.1 mid.1
      → faults old.0 ≤ faults mid.0 → TakesBytes {T = T} left faults mid new (Err e) → TakesBytes {T = U} left faults old new (Err e)
  fails_after old mid new FrameFault takes later b =
      let after = b.later in
      record { taken = takes_more _ _ _ _ _ _ takes b.taken; rose = tt; later = omega (arith, later, after) }
  fails_after old mid new ReadFault takes later b =
      let after = b.later in
      record {
        taken = takes_more _ _ _ _ _ _ takes b.taken;
        rose = rose_since _ _ _ later b.rose;
        later = omega (arith, later, after);
      }
  fails_after old mid new WriteFault takes later b =
      let after = b.later in
      record { taken = takes_more _ _ _ _ _ _ takes b.taken; rose = tt; later = omega (arith, later, after) }
  fails_after old mid new NoMemory takes later b =
      let after = b.later in
      record { taken = tt; rose = tt; later = omega (arith, later, after) }

  -- what is taken after bytes were taken is taken with them
  pub takes_after : {T : Type 0} (old mid new : X × List ℕ) (x : T) → TakesFromSource (left old.0) (left mid.0) old.1 mid.1
      → faults old.0 ≤ faults mid.0 → TakesBytes left faults mid new (Ok x)
      → TakesFromSource (left old.0) (left new.0) old.1 new.1 × (faults old.0 ≤ faults new.0)
  takes_after old mid new x takes later b =
      let after = b.later in
      (takes_more _ _ _ _ _ _ takes b.taken, omega (arith, later, after))

-- where a read failed, what is pending grew by what was taken
module _ {X T : Type 0} (left : X → Option (List ℕ)) (faults : X → ℕ) (old new : X × List ℕ) (result : Result T ReplayError) where
  pub read_took : result ≡ Err ReadFault → TakesBytes left faults old new result
      → TakesFromSource (left old.0) (left new.0) old.1 new.1
  read_took is b =
      subst (λ (r : Result T ReplayError). UnlessMemoryLacks r (TakesFromSource (left old.0) (left new.0) old.1 new.1)) is b.taken
