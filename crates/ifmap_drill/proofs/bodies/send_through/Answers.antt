-- What is read of the bytes that are written of a request is that request.
use Rattle.std.proofs.Common.{◌≡◌, ℕ, List, length, subst, rules}
use Rattle.std.specs.Prelude.{Ok}
use Rattle.ifmap_requests.specs.Means.{IsBodyAnswer}
use Rattle.ifmap_writing.specs.RequestElements.{request_bytes}
use Rattle.ifmap_drill.proofs.bodies.send_through.Goals as goal

pub returns-in-Ok-read_request : goal.returns-in-Ok-read_request
returns-in-Ok-read_request c =
    let written : c.as_slice.result.now ≡ request_bytes c.args.request.now = search rules in
    let size : c.in-Ok.bytes ≡ length (request_bytes c.args.request.now) = search rules in
    let means = c.requests_are_read_back.ensures.fit c.args.request.now c.requires.fit c.requires.bounded in
    let read = subst (λ (bytes : List ℕ). IsBodyAnswer bytes (Ok c.in-Ok-read_request.request)) written c.in-Ok-read_request.ensures in
    let request =
    c.requests_are_read_back.ensures.answered (request_bytes c.args.request.now) c.args.request.now means
    (Ok c.in-Ok-read_request.request) read in
    λ i. record { request = request i; bytes = size i }
