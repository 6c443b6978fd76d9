-- When which answer of a reading comes.
use Rattle.std.specs.Prelude.{◌≡◌, ℕ, ◌<◌, ◌≤◌, List, IfOk, IfErr, Result, Ok, Err}
use Rattle.ifmap_elem.specs.declared.elements.Element.{Element}
use Rattle.ifmap_elem.specs.declared.readings.Reading.{Reading}
use Rattle.ifmap_elem.specs.Canonical.{canonical_bytes, canonical_reading}
use Rattle.ifmap_elem.specs.Fit.{IsFit}
use Rattle.ifmap_elem.specs.Nesting.{nesting}
use Rattle.ifmap_elem.specs.Places.{Deep, Stop}
use Rattle.ifmap_elem.specs.Spells.{Spells}
use Rattle.ifmap_reader.specs.declared.errors.ReadError.{ReadError}
use Rattle.ifmap_reader.specs.declared.errors.ReadError.TheVariants.{Unreadable, TooDeep, NoMemory}
use Rattle.ifmap_reader.specs.declared.errors.TokenRefusal.{TokenRefusal}
use Rattle.ifmap_reader.specs.declared.errors.TokenRefusal.TheVariants as refusals
use Rattle.ifmap_reader.specs.declared.progress.DocumentProgress.{DocumentProgress}
use Rattle.ifmap_reader.specs.declared.progress.DocumentProgress.TheVariants.{Start, Open, Done}

-- no element is spelled, this is where the bytes stop to be the beginning of a document, and no tag opens a level too many
pub record IsUnreadable (bytes : List ℕ) (depth at : ℕ) : Type 0 where
  pub none : (r : Reading) → Spells bytes r → ⊥
  pub stop : Stop bytes at
  pub shallow : (place : ℕ) → Deep bytes depth place → ⊥

-- what is spelled nests too deep, and this is the first tag that does
pub record IsTooDeep (bytes : List ℕ) (depth at : ℕ) : Type 0 where
  pub deeper : (r : Reading) → Spells bytes r → depth < nesting r.root
  pub deep : Deep bytes depth at

-- the answer to the bytes, where at most that many levels are allowed
abbrev pub IsRead : List ℕ → ℕ → Result Reading ReadError → Type 0
IsRead bytes depth (Ok r) = Spells bytes r × (nesting r.root ≤ depth) × ((place : ℕ) → Deep bytes depth place → ⊥)
IsRead bytes depth (Err (Unreadable at)) = IsUnreadable bytes depth at
IsRead bytes depth (Err (TooDeep at)) = IsTooDeep bytes depth at
IsRead bytes depth (Err NoMemory) = Unit {0}

-- the bytes are the canonical bytes of an element that fits and nests at most that deep
pub record AreCanonical (bytes : List ℕ) (depth : ℕ) (e : Element) : Type 0 where
  pub fit : IsFit e
  pub shallow : nesting e ≤ depth
  pub bytes_are : bytes ≡ canonical_bytes e

-- what is read is the element with its attributes in order and the declarations of its printing, unless there is want of memory
abbrev pub GivesBack : Element → Result Reading ReadError → Type 0
GivesBack e result = IfOk result (λ r. r ≡ canonical_reading e) × IfErr result (λ error. error ≡ NoMemory)

abbrev pub refusal_error : TokenRefusal → ℕ → ReadError
refusal_error refusals.NotAllowed at = Unreadable at
refusal_error refusals.TooDeep at = TooDeep at
refusal_error refusals.NoMemory at = NoMemory

abbrev pub read_at_end : DocumentProgress → ℕ → Result Reading ReadError
read_at_end Start at = Err (Unreadable at)
read_at_end (Open open_elements) at = Err (Unreadable at)
read_at_end (Done r) at = Ok r.value

-- at most one number passes
abbrev pub AtMostOne : (ℕ → Type 0) → Type 0
AtMostOne Passes = (one other : ℕ) → Passes one → Passes other → one ≡ other
