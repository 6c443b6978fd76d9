-- The event that is made, by the request that it asks.
use Rattle.std.proofs.Common.{◌≡◌, ◌%◌, ◌∙◌, ℕ, List, ap}
use Rattle.std.specs.Prelude.{IfOk, OnOk, Result, Ok, Err}
use Rattle.rand_pcg.specs.Lcg.{Lcg}
use Rattle.ifmap_core.specs.ifmap_machine.Events.{Event}
use Rattle.ifmap_requests.specs.declared.requests.Request.{Request}
use Rattle.ifmap_drill.specs.declared.tasks.Task.{Task}
use Rattle.ifmap_drill.specs.Events.{event_at}
use Rattle.ifmap_drill.specs.Requests.{request_at, request_by, session_of}
use Rattle.ifmap_drill.specs.Tasks.{task_at}

module _ (i : ℕ) (ids : List (List ℕ)) (draws : Lcg) where
  pub request_made : (task : Task) (session : List ℕ) (request : Request) (rest : Lcg) → task ≡ task_at i
      → session ≡ session_of (i % 10) ids → (request, rest) ≡ request_by task (i % 10) session draws
      → (request, rest) ≡ request_at i ids draws
  request_made task session request rest task_is session_is made =
      made ∙ ap (λ (t : Task). request_by t (i % 10) session draws) task_is
      ∙ ap (λ (s : List ℕ). request_by (task_at i) (i % 10) s draws) session_is

  module _ (request : Request) (rest : Lcg) (made : (request, rest) ≡ request_at i ids draws) where
    pub event_made : {E : Type 0} (result : Result Event E) → IfOk result (λ event. event ≡ event_at i request)
        → IfOk result (λ event. event ≡ event_at i (request_at i ids draws).0)
    event_made (Ok event) is = is ∙ ap (λ (p : Request × Lcg). event_at i p.0) made
    event_made (Err e) is = tt

    pub rest_made : {T E : Type 0} (result : Result T E) → OnOk result (rest ≡ (request_at i ids draws).1)
    rest_made (Ok x) = ap (λ (p : Request × Lcg). p.1) made
    rest_made (Err e) = tt
