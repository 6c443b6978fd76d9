-- What holds of requests that are written.
use Rattle.std.specs.Prelude.{◌≡◌, ℕ, List, MatchResult, Result, Ok}
use Rattle.ifmap_requests.specs.declared.errors.Refusal.{Refusal}
use Rattle.ifmap_requests.specs.declared.errors.Refusal.TheVariants.{NoMemory}
use Rattle.ifmap_requests.specs.declared.requests.Request.{Request}
use Rattle.ifmap_requests.specs.Fit.{IsFitRequest}
use Rattle.ifmap_requests.specs.Means.{IsBodyAnswer, Means}
use Rattle.ifmap_writing.specs.Bounds.{IsBounded}
use Rattle.ifmap_writing.specs.RequestElements.{request_bytes}

-- what is written of a request that a body means is a body that means it
abbrev pub WrittenIsReadBack : Type 0
WrittenIsReadBack = (bytes : List ℕ) (request : Request) → Means bytes (Ok request) → Means (request_bytes request) (Ok request)

-- what a reader answers to it is that request, unless there is want of memory
abbrev pub WrittenIsAnswered : Type 0
WrittenIsAnswered =
    (bytes : List ℕ) (request : Request) → Means bytes (Ok request) → (result : Result Request Refusal)
    → IsBodyAnswer (request_bytes request) result → MatchResult result (λ read. read ≡ request) (λ error. error ≡ NoMemory)

-- what is written of a request that is fit and within its bounds is a body that means it
abbrev pub FitIsReadBack : Type 0
FitIsReadBack = (request : Request) → IsFitRequest request → IsBounded request → Means (request_bytes request) (Ok request)

-- a request that a body means is within its bounds
abbrev pub MeantIsBounded : Type 0
MeantIsBounded = (bytes : List ℕ) (request : Request) → Means bytes (Ok request) → IsBounded request
