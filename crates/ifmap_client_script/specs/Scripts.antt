-- What the bytes of a script are as lines, and how far they are carried out.
use Rattle.std.specs.Prelude.{◌≡◌, ◌≢◌, ◌⊎◌, ℕ, ◌+◌, ◌≤◌, List, [], ◌∷◌, ◌++◌, length, Option}
use Rattle.std.specs.Io.KnownBytes.{IsAtEnd}
use Rattle.ifmap_elem.specs.Chars.{line_feed}
use Rattle.ifmap_input.specs.FirstPlaces.{HasNone}
use Rattle.ifmap_input.specs.Scripts.{longest_script}
use Rattle.ifmap_client.specs.Lines.{IsLine, line_limit}
use Rattle.ifmap_client.specs.declared.lines.Line.{Line}
use Rattle.ifmap_client_script.specs.Deeds.{CanDo, Deed, IsDeedFor, Known, after_deed}

-- no newline is among the bytes
abbrev pub HasNoNewline : List ℕ → Type 0
HasNoNewline = HasNone line_feed

-- a line of that many bytes, of which the first stands at an offset, is within its limits
pub record IsWithinLineLimits (offset size : ℕ) : Type 0 where
  pub short : size ≤ line_limit
  pub ends : offset + size ≤ longest_script

-- these bytes, of which the first stands at an offset, begin with a line of this text and go on with a rest
pub record BeginsLine (offset : ℕ) (bytes text rest : List ℕ) : Type 0 where
  pub bytes_are : bytes ≡ text ++ line_feed ∷ rest
  pub plain : HasNoNewline text
  pub ends : offset + length text ≤ longest_script

-- the lines of these bytes, from what a client knows on, are carried out by these deeds, up to a rest
abbrev pub Carries : ℕ → Known → List ℕ → List Deed → List ℕ → Type 0
Carries offset known bytes [] rest = bytes ≡ rest
Carries offset known bytes (deed ∷ deeds) rest =
    (text : List ℕ) × (after : List ℕ) × (line : Line) × BeginsLine offset bytes text after × IsLine text line × IsDeedFor known line deed
    × Carries (offset + length text + 1) (after_deed deed known) after deeds rest

-- no line that can be carried out begins here, whatever comes after
abbrev pub IsBadLine : ℕ → Known → List ℕ → Type 0
IsBadLine offset known bytes =
    (bytes ≢ []) × ((more text rest : List ℕ) (line : Line) → BeginsLine offset (bytes ++ more) text rest → IsLine text line
    → CanDo known line → ⊥)

-- a line is due: nothing is there, or no newline has come, and that of a line still can
pub record AwaitsLine (offset : ℕ) (bytes : List ℕ) : Type 0 where
  pub plain : HasNoNewline bytes
  pub within : bytes ≢ [] → IsWithinLineLimits offset (length bytes)

-- what was taken from a source is this script: a last line that lacks its newline is as if it had it
abbrev pub IsTakenScript : Option (List ℕ) → List ℕ → List ℕ → Type 0
IsTakenScript left taken script =
    (script ≡ taken)
    ⊎ (IsAtEnd left × (script ≡ taken ++ line_feed ∷ [])
    × ((front last : List ℕ) × (taken ≡ front ++ last) × (last ≢ []) × HasNoNewline last))
