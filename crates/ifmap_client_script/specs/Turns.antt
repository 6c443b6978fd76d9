-- One turn of a script: a line is taken and carried out, or the script ends. No clause of `run_script` cites this file.
use Rattle.std.specs.Prelude.{◌≡◌, ◌⊎◌, ℕ, ◌+◌, List, [], ◌∷◌, true, drop, length, take, Option, Some, None, Result, Ok, Err}
use Rattle.ifmap_client.specs.Lines.{IsLine}
use Rattle.ifmap_client.specs.declared.lines.Line.{Line}
use Rattle.ifmap_client.specs.declared.lines.Line.TheVariants as the_line
use Rattle.ifmap_requests.specs.declared.requests.Request.{Request}
use Rattle.ifmap_client_script.specs.declared.exchanges.Caller.{Caller}
use Rattle.ifmap_client_script.specs.declared.outcomes.ScriptFailure.{ScriptFailure}
use Rattle.ifmap_client_script.specs.declared.outcomes.ScriptFailure.TheVariants as failure
use Rattle.ifmap_client_script.specs.declared.scripts.NextLine.{NextLine}
use Rattle.ifmap_client_script.specs.declared.scripts.ScriptTurn.{ScriptTurn}
use Rattle.ifmap_client_script.specs.declared.scripts.ScriptTurn.TheVariants as turn
use Rattle.ifmap_client_script.specs.Deeds.{CanDo, Deed, IsDeedFor, Known, after_deed, nothing_known, request_in}
use Rattle.ifmap_client_script.specs.Ends.{SourceAndPorts, LinkFailed, Ports, ScriptReadFailed, PrintFailed}
use Rattle.ifmap_client_script.specs.Exchanges.{HasAny, HasNoReply, HasPart, IsFrontOfPost}
use Rattle.ifmap_client_script.specs.Holding.{Holding, known_of}
use Rattle.ifmap_client_script.specs.TakenBytes.{Fetches, IsLineEnd, Loses, TakenBytes, nothing_taken}
use Rattle.ifmap_client_script.specs.Promises.{Cutting, Did, IsWholePost, PostsUnanswered, Wrote}
use Rattle.ifmap_client_script.specs.Scripts.{AwaitsLine, BeginsLine, IsBadLine, IsWithinLineLimits}

-- ---- a line

module _ (caller : Caller) (line : Line) (before after : Ports) (old : Known) where
  -- it was carried out
  pub record CarriesLine (new : Known) : Type 0 where
    pub deed : Deed
    pub does : IsDeedFor old line deed
    pub known : new ≡ after_deed deed old
    pub did : Did caller before after old (deed ∷ [])

  -- it was carried out, but what is written for it was cut
  pub record PartlyWritten : Type 0 where
    pub deed : Deed
    pub does : IsDeedFor old line deed
    pub wrote : Wrote caller before after old [] deed

  -- its request was posted, but no reply came
  pub record GetsNoReply (IsCut : Cutting) (Has : List ℕ → Type 0) : Type 0 where
    pub request : Request
    pub sent : Request
    pub line_is : line ≡ the_line.Request request
    pub named : request_in old.session request ≡ Some sent
    pub posted : PostsUnanswered caller before after IsCut Has old [] sent

-- what was done for a line
abbrev pub CarriesOut : Caller → Line → (before after : Ports) → (old new : Known) → Result (Unit {0}) ScriptFailure → Type 0
CarriesOut caller line before after old new (Ok _) = CarriesLine caller line before after old new
CarriesOut caller line before after old new (Err failure.BadLine) = (CanDo old line → ⊥) × (after ≡ before)
CarriesOut caller line before after old new (Err failure.ReadFault) = ⊥
CarriesOut caller line before after old new (Err failure.WriteFault) = PartlyWritten caller line before after old × PrintFailed before after
CarriesOut caller line before after old new (Err failure.LinkFault) =
    GetsNoReply caller line before after old IsFrontOfPost HasAny × LinkFailed before after
CarriesOut caller line before after old new (Err failure.LinkEnded) = GetsNoReply caller line before after old IsWholePost HasPart
CarriesOut caller line before after old new (Err failure.BadReply) = GetsNoReply caller line before after old IsWholePost HasNoReply
CarriesOut caller line before after old new (Err failure.NoMemory) =
    (after ≡ before) ⊎ (GetsNoReply caller line before after old IsFrontOfPost HasAny ⊎ PartlyWritten caller line before after old)

-- ---- a turn

-- a script: what the client knows, what is pending, and the offset and the number of the next line
pub record Scripting : Type 0 where
  pub client : Holding
  pub pending : TakenBytes
  pub offset : ℕ
  pub line : ℕ

-- nothing is known, and nothing was taken
pub record IsBeginning (script : Scripting) : Type 0 where
  pub known : known_of script.client ≡ nothing_known
  pub pending : script.pending ≡ nothing_taken
  pub offset : script.offset ≡ 0
  pub line : script.line ≡ 1

-- the first line of these bytes, of which the first stands at an offset
pub record IsNextLine (offset : ℕ) (bytes : List ℕ) (next : NextLine) : Type 0 where
  pub end : IsLineEnd bytes next.place
  pub within : IsWithinLineLimits offset next.place
  pub means : IsLine (take next.place bytes) next.line

-- what the line of bytes is that ends at this place
abbrev pub ReadsAt : List ℕ → ℕ → Result (Option NextLine) ScriptFailure → Type 0
ReadsAt bytes place (Ok (Some next)) = (next.place ≡ place) × IsLine (take place bytes) next.line
ReadsAt bytes place (Ok None) = ⊥
ReadsAt bytes place (Err failure.BadLine) = (line : Line) → IsLine (take place bytes) line → ⊥
ReadsAt bytes place (Err failure.ReadFault) = ⊥
ReadsAt bytes place (Err failure.NoMemory) = Unit {0}
ReadsAt bytes place (Err failure.WriteFault) = ⊥
ReadsAt bytes place (Err failure.LinkFault) = ⊥
ReadsAt bytes place (Err failure.LinkEnded) = ⊥
ReadsAt bytes place (Err failure.BadReply) = ⊥

-- what reading the next line gives
abbrev pub ReadsNext : (left_old left_new : Option (List ℕ)) (offset : ℕ) (old new : TakenBytes) → Result (Option NextLine) ScriptFailure
    → Type 0
ReadsNext left_old left_new offset old new (Ok (Some next)) = Fetches left_old left_new old new × IsNextLine offset new.bytes next
ReadsNext left_old left_new offset old new (Ok None) =
    Fetches left_old left_new old new × (new ≡ record { bytes = []; ended = true })
ReadsNext left_old left_new offset old new (Err failure.BadLine) =
    Fetches left_old left_new old new × ((known : Known) → IsBadLine offset known new.bytes)
ReadsNext left_old left_new offset old new (Err failure.ReadFault) = Fetches left_old left_new old new × AwaitsLine offset new.bytes
ReadsNext left_old left_new offset old new (Err failure.NoMemory) = Loses left_old left_new old
ReadsNext left_old left_new offset old new (Err failure.WriteFault) = ⊥
ReadsNext left_old left_new offset old new (Err failure.LinkFault) = ⊥
ReadsNext left_old left_new offset old new (Err failure.LinkEnded) = ⊥
ReadsNext left_old left_new offset old new (Err failure.BadReply) = ⊥

-- the script goes on after the line
pub record GoesPastLine (next : NextLine) (old new : Scripting) : Type 0 where
  pub pending : new.pending ≡ record { bytes = drop (next.place + 1) old.pending.bytes; ended = old.pending.ended }
  pub offset : new.offset ≡ old.offset + next.place + 1
  pub line : new.line ≡ old.line + 1

-- what was done for the next line
abbrev pub DoesNext : Caller → NextLine → (before after : Ports) → (old new : Scripting) → Result ScriptTurn ScriptFailure → Type 0
DoesNext caller next before after old new (Ok turn.Carried) =
    CarriesLine caller next.line before after (known_of old.client) (known_of new.client) × GoesPastLine next old new
DoesNext caller next before after old new (Ok turn.Ended) = ⊥
DoesNext caller next before after old new (Err e) =
    CarriesOut caller next.line before after (known_of old.client) (known_of new.client) (Err e) × (new.line ≡ old.line)

module _ (before after : SourceAndPorts) (old : Scripting) where
  -- a line was taken
  pub record TakesLine (line : Line) : Type 0 where
    pub pending : TakenBytes
    pub fetched : Fetches before.left after.left old.pending pending
    pub text : List ℕ
    pub rest : List ℕ
    pub begins : BeginsLine old.offset pending.bytes text rest
    pub means : IsLine text line

module _ (caller : Caller) (before after : SourceAndPorts) (old : Scripting) where
  -- a line was taken and carried out
  pub record TurnsOn (new : Scripting) : Type 0 where
    pub line : Line
    pub takes : TakesLine before after old line
    pub carried : CarriesLine caller line before.ports after.ports (known_of old.client) (known_of new.client)
    pub pending : new.pending ≡ record { bytes = takes.rest; ended = takes.pending.ended }
    pub offset : new.offset ≡ old.offset + length takes.text + 1
    pub line_is : new.line ≡ old.line + 1

  -- nothing is pending, and the source has told its end
  pub record IsOver : Type 0 where
    pub fetched : Fetches before.left after.left old.pending (record { bytes = []; ended = true })
    pub kept : after.ports ≡ before.ports

  -- no line that can be carried out begins
  pub record IsAtFault : Type 0 where
    pub pending : TakenBytes
    pub fetched : Fetches before.left after.left old.pending pending
    pub fault : IsBadLine old.offset (known_of old.client) pending.bytes
    pub kept : after.ports ≡ before.ports

  -- a read failed that was due
  pub record IsDue : Type 0 where
    pub pending : TakenBytes
    pub fetched : Fetches before.left after.left old.pending pending
    pub awaited : AwaitsLine old.offset pending.bytes
    pub kept : after.ports ≡ before.ports

  -- what is written for a line was cut
  pub record IsCutShort : Type 0 where
    pub line : Line
    pub takes : TakesLine before after old line
    pub cut : PartlyWritten caller line before.ports after.ports (known_of old.client)

  -- no reply came to the request of a line
  pub record IsLeft (IsCut : Cutting) (Has : List ℕ → Type 0) : Type 0 where
    pub line : Line
    pub takes : TakesLine before after old line
    pub unanswered : GetsNoReply caller line before.ports after.ports (known_of old.client) IsCut Has

  -- something was taken, and nothing was done
  pub record IsIdle : Type 0 where
    pub lost : Loses before.left after.left old.pending
    pub kept : after.ports ≡ before.ports

-- what a turn did
abbrev pub IsScriptTurn : Caller → (before after : SourceAndPorts) → (old new : Scripting) → Result ScriptTurn ScriptFailure → Type 0
IsScriptTurn caller before after old new (Ok turn.Carried) = TurnsOn caller before after old new
IsScriptTurn caller before after old new (Ok turn.Ended) = IsOver caller before after old
IsScriptTurn caller before after old new (Err failure.BadLine) = IsAtFault caller before after old
IsScriptTurn caller before after old new (Err failure.ReadFault) = IsDue caller before after old × ScriptReadFailed before after
IsScriptTurn caller before after old new (Err failure.WriteFault) =
    IsCutShort caller before after old × PrintFailed before.ports after.ports
IsScriptTurn caller before after old new (Err failure.LinkFault) =
    IsLeft caller before after old IsFrontOfPost HasAny × LinkFailed before.ports after.ports
IsScriptTurn caller before after old new (Err failure.LinkEnded) = IsLeft caller before after old IsWholePost HasPart
IsScriptTurn caller before after old new (Err failure.BadReply) = IsLeft caller before after old IsWholePost HasNoReply
IsScriptTurn caller before after old new (Err failure.NoMemory) =
    IsIdle caller before after old ⊎ (IsLeft caller before after old IsFrontOfPost HasAny ⊎ IsCutShort caller before after old)
