-- What holds of every request.
use Rattle.std.specs.Prelude.{◌≡◌, ℕ, List, Result, Ok}
use Rattle.ifmap_elem.specs.Fit.{IsFit}
use Rattle.ifmap_elem.specs.declared.elements.Element.{Element}
use Rattle.ifmap_ident.specs.declared.codes.Code.{Code}
use Rattle.ifmap_requests.specs.declared.errors.Refusal.{Refusal}
use Rattle.ifmap_requests.specs.declared.requests.Request.{Request}
use Rattle.ifmap_requests.specs.Fit.{IsFitRequest}
use Rattle.ifmap_requests.specs.Means.{Means}
use Rattle.ifmap_requests.specs.RequestForms.{request_check}
use Rattle.ifmap_forms.specs.Scopes.{Scopes}
use Rattle.ifmap_elem.specs.Spells.{Spells}
use Rattle.ifmap_elem.specs.declared.readings.Reading.{Reading}

-- an element has one request or one code, in given scopes
abbrev pub OneRequest : Type 0
OneRequest =
    (scopes : Scopes) (e : Element) (one other : Result Request Code) → request_check scopes e one → request_check scopes e other
    → one ≡ other

-- an element that a document can have has a request or a code
abbrev pub RequestOrCode : Type 0
RequestOrCode = (scopes : Scopes) (e : Element) → IsFit e → (found : Result Request Code) × request_check scopes e found

-- a body means one thing at most, and it means something
abbrev pub OneMeaning : Type 0
OneMeaning = (bytes : List ℕ) (one other : Result Request Refusal) → Means bytes one → Means bytes other → one ≡ other

abbrev pub SomeMeaning : Type 0
SomeMeaning = (bytes : List ℕ) → (meaning : Result Request Refusal) × Means bytes meaning

-- every request that a body means is fit
abbrev pub FitMeaning : Type 0
FitMeaning = (bytes : List ℕ) (request : Request) → Means bytes (Ok request) → IsFitRequest request

abbrev pub OneReading : Type 0
OneReading = (bytes : List ℕ) (one other : Reading) → Spells bytes one → Spells bytes other → one ≡ other
