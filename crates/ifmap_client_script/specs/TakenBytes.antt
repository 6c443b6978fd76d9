-- What was taken from a source and is not used yet. No clause of `run_script` cites this file.
use Rattle.std.specs.Prelude.{◌≡◌, ◌≢◌, ◌⊎◌, ℕ, ◌-◌, ◌<◌, Bool, true, false, List, [], ◌∷◌, ◌++◌, length, slice_index, Option, Some, None, Result, Ok, Err}
use Rattle.std.specs.Io.KnownBytes.{Consumes, IsAtEnd}
use Rattle.ifmap_elem.specs.Chars.{line_feed}
use Rattle.ifmap_input.specs.FirstPlaces.{IsFirstPlace}
use Rattle.ifmap_client_script.specs.declared.outcomes.ScriptFailure.{ScriptFailure}
use Rattle.ifmap_client_script.specs.declared.outcomes.ScriptFailure.TheVariants as failure
use Rattle.ifmap_client_script.specs.Scripts.{AwaitsLine, HasNoNewline, IsWithinLineLimits}

-- the bytes, and whether the source has told its end
pub record TakenBytes : Type 0 where
  pub bytes : List ℕ
  pub ended : Bool

-- nothing was taken
abbrev pub nothing_taken : TakenBytes
nothing_taken = record { bytes = []; ended = false }

-- what is pending, and these bytes after it
abbrev pub with_bytes : TakenBytes → List ℕ → TakenBytes
with_bytes pending got = record { bytes = pending.bytes ++ got; ended = pending.ended }

-- what is pending at the end of a source: a last line gets its newline
abbrev pub with_last_newline : List ℕ → List ℕ
with_last_newline [] = []
with_last_newline (b ∷ bytes) = (b ∷ bytes) ++ line_feed ∷ []

-- once a source has told its end, a newline is the last of what is pending
abbrev pub IsClosed : TakenBytes → Type 0
IsClosed pending =
    pending.ended ≡ true → pending.bytes ≢ [] → slice_index pending.bytes (length pending.bytes - 1) ≡ line_feed

-- what was pending grew by what was taken from the source, of which nothing is taken once it has told its end; there a last line
-- got its newline
pub record Fetches (left_old left_new : Option (List ℕ)) (old new : TakenBytes) : Type 0 where
  pub got : List ℕ
  pub consumed : Consumes left_old left_new got
  pub idle : old.ended ≡ true → (got ≡ []) × (left_new ≡ left_old)
  pub grown :
      (new ≡ with_bytes old got)
      ⊎ ((new ≡ record { bytes = with_last_newline (old.bytes ++ got); ended = true }) × (old.ended ≡ false) × IsAtEnd left_new
      × HasNoNewline (old.bytes ++ got))

-- something was taken from the source, of which nothing is taken once it has told its end
pub record Loses (left_old left_new : Option (List ℕ)) (old : TakenBytes) : Type 0 where
  pub got : List ℕ
  pub consumed : Consumes left_old left_new got
  pub idle : old.ended ≡ true → left_new ≡ left_old

-- the first newline stands at this place
abbrev pub IsLineEnd : (bytes : List ℕ) (place : ℕ) → Type 0
IsLineEnd = IsFirstPlace line_feed

-- a line begins here that is longer than one can be, whatever comes after
pub record IsLineTooLong (offset : ℕ) (bytes : List ℕ) : Type 0 where
  pub some : bytes ≢ []
  pub size : ℕ
  pub size_is : IsLineEnd bytes size ⊎ ((size ≡ length bytes) × HasNoNewline bytes)
  pub long : IsWithinLineLimits offset size → ⊥

-- more is to be taken for the line that begins here
pub record NeedsMore (offset : ℕ) (pending : TakenBytes) : Type 0 where
  pub open_yet : pending.ended ≡ false
  pub due : AwaitsLine offset pending.bytes

-- no more is to be taken for it
abbrev pub IsGathered : ℕ → TakenBytes → Type 0
IsGathered offset pending = (pending.ended ≡ true) ⊎ (AwaitsLine offset pending.bytes → ⊥)

-- what taking for a line gives
abbrev pub Gathers : (left_old left_new : Option (List ℕ)) (offset : ℕ) (old new : TakenBytes) → Result (Unit {0}) ScriptFailure → Type 0
Gathers left_old left_new offset old new (Ok _) = Fetches left_old left_new old new × IsGathered offset new
Gathers left_old left_new offset old new (Err failure.ReadFault) =
    Fetches left_old left_new old new × AwaitsLine offset new.bytes
Gathers left_old left_new offset old new (Err failure.NoMemory) = Loses left_old left_new old
Gathers left_old left_new offset old new (Err failure.BadLine) = ⊥
Gathers left_old left_new offset old new (Err failure.WriteFault) = ⊥
Gathers left_old left_new offset old new (Err failure.LinkFault) = ⊥
Gathers left_old left_new offset old new (Err failure.LinkEnded) = ⊥
Gathers left_old left_new offset old new (Err failure.BadReply) = ⊥

-- what looking for a line gives, for which no more is to be taken
abbrev pub LooksForLine : ℕ → TakenBytes → Result (Option ℕ) ScriptFailure → Type 0
LooksForLine offset pending (Ok (Some place)) = IsLineEnd pending.bytes place × IsWithinLineLimits offset place
LooksForLine offset pending (Ok None) = pending ≡ record { bytes = []; ended = true }
LooksForLine offset pending (Err failure.BadLine) = IsLineTooLong offset pending.bytes
LooksForLine offset pending (Err failure.ReadFault) = ⊥
LooksForLine offset pending (Err failure.NoMemory) = ⊥
LooksForLine offset pending (Err failure.WriteFault) = ⊥
LooksForLine offset pending (Err failure.LinkFault) = ⊥
LooksForLine offset pending (Err failure.LinkEnded) = ⊥
LooksForLine offset pending (Err failure.BadReply) = ⊥

-- what waiting for a line gives
abbrev pub WaitsForLine : (left_old left_new : Option (List ℕ)) (offset : ℕ) (old new : TakenBytes)
    → Result (Option ℕ) ScriptFailure → Type 0
WaitsForLine left_old left_new offset old new (Ok (Some place)) =
    Fetches left_old left_new old new × IsLineEnd new.bytes place × IsWithinLineLimits offset place
WaitsForLine left_old left_new offset old new (Ok None) =
    Fetches left_old left_new old new × (new ≡ record { bytes = []; ended = true })
WaitsForLine left_old left_new offset old new (Err failure.BadLine) = Fetches left_old left_new old new × IsLineTooLong offset new.bytes
WaitsForLine left_old left_new offset old new (Err failure.ReadFault) = Fetches left_old left_new old new × AwaitsLine offset new.bytes
WaitsForLine left_old left_new offset old new (Err failure.NoMemory) = Loses left_old left_new old
WaitsForLine left_old left_new offset old new (Err failure.WriteFault) = ⊥
WaitsForLine left_old left_new offset old new (Err failure.LinkFault) = ⊥
WaitsForLine left_old left_new offset old new (Err failure.LinkEnded) = ⊥
WaitsForLine left_old left_new offset old new (Err failure.BadReply) = ⊥

-- what taking more gives
abbrev pub Fills : (left_old left_new : Option (List ℕ)) (old new : TakenBytes) → Result (Unit {0}) ScriptFailure → Type 0
Fills left_old left_new old new (Ok _) =
    Fetches left_old left_new old new × ((new.ended ≡ true) ⊎ (length old.bytes < length new.bytes))
Fills left_old left_new old new (Err failure.ReadFault) = Consumes left_old left_new [] × (new ≡ old)
Fills left_old left_new old new (Err failure.NoMemory) = (got : List ℕ) × Consumes left_old left_new got
Fills left_old left_new old new (Err failure.BadLine) = ⊥
Fills left_old left_new old new (Err failure.WriteFault) = ⊥
Fills left_old left_new old new (Err failure.LinkFault) = ⊥
Fills left_old left_new old new (Err failure.LinkEnded) = ⊥
Fills left_old left_new old new (Err failure.BadReply) = ⊥
