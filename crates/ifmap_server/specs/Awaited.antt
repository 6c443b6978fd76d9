-- A frame of which more bytes are due, and the line that it begins with.
use Rattle.std.specs.Prelude.{◌≡◌, ◌≢◌, ℕ, ◌<◌, List, [], ◌++◌, length, slice_index, ◌⊎◌}
use Rattle.ifmap_elem.specs.Chars.{line_feed}
use Rattle.ifmap_input.specs.FirstPlaces.{IsFirstPlace}
use Rattle.ifmap_server.specs.Frames.{Frame, longest_header}
use Rattle.ifmap_server.specs.Script.{BeginsFrame}

-- the first newline stands at this place, where that of a header can
pub record IsHeaderLineEnd (bytes : List ℕ) (place : ℕ) : Type 0 where
  pub early : place < longest_header
  pub first : IsFirstPlace line_feed bytes place

-- no newline stands where that of a header can
abbrev pub HasNoLine : List ℕ → Type 0
HasNoLine bytes = (k : ℕ) → k < longest_header → k < length bytes → slice_index bytes k ≢ line_feed

-- a header's line is due: no newline has come, and that of a header still can
pub record AwaitsHeaderLine (bytes : List ℕ) : Type 0 where
  pub early : length bytes < longest_header
  pub none : HasNoLine bytes

-- the rest of a body is due: with some more bytes, these are one frame
pub record AwaitsBody (offset : ℕ) (bytes : List ℕ) : Type 0 where
  pub frame : Frame
  pub more : List ℕ
  pub some : more ≢ []
  pub begins : BeginsFrame offset (bytes ++ more) frame []

-- a read is due: of a line that is not whole yet, or of the body of a frame that is not at fault
abbrev pub IsAwaited : ℕ → List ℕ → Type 0
IsAwaited offset bytes = AwaitsHeaderLine bytes ⊎ AwaitsBody offset bytes
