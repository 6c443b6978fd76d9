-- What is answered to a frame, by what its body means.
use Rattle.std.proofs.Common.{◌≡◌, ℕ, List, length, Ok, Err, OnOk, IfOk, refl, ap, ◌∙◌, false}
use Rattle.std.specs.Prelude.{Result}
use Rattle.ifmap_ident.specs.declared.codes.Code.{Code}
use Rattle.ifmap_core.specs.ifmap_machine.declared.events.Ask.TheVariants as ask
use Rattle.ifmap_core.specs.ifmap_machine.State.{State}
use Rattle.ifmap_core.specs.ifmap_machine.Step.{refusal}
use Rattle.ifmap_requests.specs.declared.errors.Refusal.TheVariants.{Named, Unreadable}
use Rattle.ifmap_requests.specs.declared.requests.Request.{Request}
use Rattle.ifmap_requests.specs.Means.{Means}
use Rattle.ifmap_server.specs.declared.errors.ReplayError.{ReplayError}
use Rattle.ifmap_server.specs.declared.headers.Header.{Header}
use Rattle.ifmap_server.specs.Output.{EventByRequest, answer_text, step_frame, step_request, unreadable_text}
use Rattle.ifmap_server.specs.Turns.{IsAnswered, asking_of, frame_of}

module _ (old : State) (header : Header) (body : List ℕ) where
  -- what is asked where the body has this length
  abbrev asking_at : ℕ → EventByRequest
  asking_at size request = record {
    moment = header.moment;
    client = header.client;
    random = header.random;
    again = false;
    bytes = size;
    ask = ask.Request request;
  }

  module _ (new : State) (size : header.size ≡ length body) (request : Request) (means : Means body (Ok request)) where
    asked : step_request old (asking_of header) request ≡ step_frame old (frame_of header body (Ok request))
    asked = ap (λ (n : ℕ). step_request old (asking_at n) request) size

    pub request_answered : (result : Result (List ℕ) ReplayError)
        → OnOk result (new ≡ (step_request old (asking_of header) request).0)
        → IfOk result (λ text. text ≡ (step_request old (asking_of header) request).1)
        → IfOk result (λ text. IsAnswered old new header body text)
    request_answered (Ok text) state wrote = record {
      meaning = Ok request;
      means = means;
      state = state ∙ ap (λ (x : State × List ℕ). x.0) asked;
      wrote = wrote ∙ ap (λ (x : State × List ℕ). x.1) asked;
    }
    request_answered (Err error) state wrote = tt

  pub code_answered : (code : Code) (text : List ℕ) → Means body (Err (Named code)) → text ≡ answer_text (refusal code)
      → IsAnswered old old header body text
  code_answered code text means wrote = record { meaning = Err (Named code); means = means; state = refl; wrote = wrote }

  pub none_answered : (text : List ℕ) → Means body (Err Unreadable) → text ≡ unreadable_text → IsAnswered old old header body text
  none_answered text means wrote = record { meaning = Err Unreadable; means = means; state = refl; wrote = wrote }
