-- The lines of a client's script, and what each means.
use Rattle.std.specs.Prelude.{◌≡◌, ◌≤◌, ◌++◌, ℕ, List, [], codes, length, Option, Some, None, Result, Ok, Err}
use Rattle.std.specs.Str.{IsUtf8}
use Rattle.ifmap_elem.specs.Nesting.{nesting}
use Rattle.ifmap_elem.specs.Spells.{Spells}
use Rattle.ifmap_elem.specs.declared.readings.Reading.{Reading}
use Rattle.ifmap_requests.specs.Means.{IsRequest}
use Rattle.ifmap_requests.specs.declared.requests.Request.{Request}
use Rattle.ifmap_client.specs.declared.lines.Line.{Line}
use Rattle.ifmap_client.specs.declared.lines.Line.TheVariants as the_line

-- how many bytes a line can have
abbrev pub line_limit : ℕ
line_limit = 1000000

-- how many levels a request on a line can have: its envelope puts two more round it
abbrev pub line_levels : ℕ
line_levels = 62

-- the bytes spell an element that is this request
pub record SpellsRequest (bytes : List ℕ) (request : Request) : Type 0 where
  pub reading : Reading
  pub spelled : Spells bytes reading
  pub shallow : nesting reading.root ≤ line_levels
  pub means : IsRequest reading [] request

-- the bytes are the word and a name, which is text
pub record NamesSet (bytes name : List ℕ) : Type 0 where
  pub bytes_are : bytes ≡ codes "set " ++ name
  pub text : IsUtf8 name

-- what the bytes of a line mean
abbrev pub IsForm : List ℕ → Line → Type 0
IsForm bytes the_line.Blank = bytes ≡ []
IsForm bytes (the_line.Request request) = SpellsRequest bytes request
IsForm bytes (the_line.Set name) = NamesSet bytes name

-- a line of at most that many bytes means this
abbrev pub IsLine : List ℕ → Line → Type 0
IsLine bytes line = (length bytes ≤ line_limit) × IsForm bytes line

-- the answer to a line: what it means, or that it is of no form
abbrev pub IsLineAnswer : {E : Type 0} → List ℕ → Result (Option Line) E → Type 0
IsLineAnswer bytes (Ok (Some line)) = IsLine bytes line
IsLineAnswer bytes (Ok None) = (line : Line) → IsLine bytes line → ⊥
IsLineAnswer bytes (Err e) = Unit {0}

-- the answer to bytes: the request that they spell, or that they spell none
abbrev pub IsRequestAnswer : {E : Type 0} → List ℕ → Result (Option Request) E → Type 0
IsRequestAnswer bytes (Ok (Some request)) = SpellsRequest bytes request
IsRequestAnswer bytes (Ok None) = (request : Request) → SpellsRequest bytes request → ⊥
IsRequestAnswer bytes (Err e) = Unit {0}

-- the answer to what was read: the request that its root is, or that it is none
abbrev pub IsReadRequest : {E : Type 0} → Reading → Result (Option Request) E → Type 0
IsReadRequest reading (Ok (Some request)) = IsRequest reading [] request
IsReadRequest reading (Ok None) = (request : Request) → IsRequest reading [] request → ⊥
IsReadRequest reading (Err e) = Unit {0}

-- a line means one thing
abbrev pub OneLine : Type 0
OneLine = (bytes : List ℕ) (one other : Line) → IsLine bytes one → IsLine bytes other → one ≡ other
