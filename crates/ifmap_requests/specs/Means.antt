-- What elements and bodies mean, and why they mean nothing.
use Rattle.std.specs.Prelude.{ℕ, List, Result, Ok, Err}
use Rattle.ifmap_elem.specs.InScope.{NamesElementAt}
use Rattle.ifmap_elem.specs.declared.elements.Element.{Element}
use Rattle.ifmap_elem.specs.declared.readings.Reading.{Reading}
use Rattle.ifmap_ident.specs.declared.codes.Code.{Code}
use Rattle.ifmap_forms.specs.declared.errors.FormError.{FormError}
use Rattle.ifmap_forms.specs.declared.errors.FormError.TheVariants as form
use Rattle.ifmap_requests.specs.declared.errors.Refusal.{Refusal}
use Rattle.ifmap_requests.specs.declared.errors.Refusal.TheVariants as refusal
use Rattle.ifmap_requests.specs.declared.requests.Request.{Request}
use Rattle.ifmap_envelopes.specs.Envelopes.{IsEnvelope, SpellsEnvelope, SpellsNone}
use Rattle.ifmap_forms.specs.Scopes.{Scopes, scopes_by}
use Rattle.ifmap_requests.specs.RequestForms.{request_check}

-- how many levels a request can have
abbrev pub request_levels : ℕ
request_levels = 64

-- the scopes from the element at a path on
abbrev pub scopes_from : Reading → List ℕ → Scopes
scopes_from reading path = scopes_by reading.declared path

-- the path names an element of the reading, for which the check finds this
pub record IsFoundAtPath (reading : Reading) (path : List ℕ) (found : Result Request Code) : Type 0 where
  pub element : Element
  pub named : NamesElementAt reading.root path element
  pub checked : request_check (scopes_from reading path) element found

-- the element there means the request
abbrev pub IsRequest : Reading → List ℕ → Request → Type 0
IsRequest reading path request = IsFoundAtPath reading path (Ok request)

-- the first defect of the element there has this code
abbrev pub IsDefect : Reading → List ℕ → Code → Type 0
IsDefect reading path code = IsFoundAtPath reading path (Err code)

-- the answer to an element
abbrev pub IsFormAnswer : Reading → List ℕ → Result Request FormError → Type 0
IsFormAnswer reading path (Ok request) = IsRequest reading path request
IsFormAnswer reading path (Err (form.Named code)) = IsDefect reading path code
IsFormAnswer reading path (Err form.NoMemory) = Unit {0}

-- the body is an envelope of an element for which the check finds this
pub record BodyFinds (bytes : List ℕ) (found : Result Request Code) : Type 0 where
  pub reading : Reading
  pub path : List ℕ
  pub inner : Element
  pub envelope : SpellsEnvelope request_levels bytes reading path inner
  pub checked : request_check (scopes_from reading path) inner found

-- what a body means: a request, the code of its first defect, or that it is unreadable
abbrev pub Means : List ℕ → Result Request Refusal → Type 0
Means bytes (Ok request) = BodyFinds bytes (Ok request)
Means bytes (Err (refusal.Named code)) = BodyFinds bytes (Err code)
Means bytes (Err refusal.Unreadable) = SpellsNone request_levels bytes
Means bytes (Err refusal.NoMemory) = ⊥

-- the answer to a body
abbrev pub IsBodyAnswer : List ℕ → Result Request Refusal → Type 0
IsBodyAnswer bytes (Ok request) = Means bytes (Ok request)
IsBodyAnswer bytes (Err (refusal.Named code)) = Means bytes (Err (refusal.Named code))
IsBodyAnswer bytes (Err refusal.Unreadable) = Means bytes (Err refusal.Unreadable)
IsBodyAnswer bytes (Err refusal.NoMemory) = Unit {0}

-- the reading is an envelope of an element for which the check finds this
pub record ReadingFinds (reading : Reading) (found : Result Request Code) : Type 0 where
  pub path : List ℕ
  pub inner : Element
  pub envelope : IsEnvelope reading.root path inner
  pub checked : request_check (scopes_from reading path) inner found

-- the answer to what was read
abbrev pub IsReadingAnswer : Reading → Result Request Refusal → Type 0
IsReadingAnswer reading (Ok request) = ReadingFinds reading (Ok request)
IsReadingAnswer reading (Err (refusal.Named code)) = ReadingFinds reading (Err code)
IsReadingAnswer reading (Err refusal.Unreadable) = (path : List ℕ) (inner : Element) → IsEnvelope reading.root path inner → ⊥
IsReadingAnswer reading (Err refusal.NoMemory) = Unit {0}
