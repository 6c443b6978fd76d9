use Rattle.std.proofs.Common.{ℕ, List, Ok, Err, arith, refl, subst}
use Rattle.ifmap_machine.specs.ifmap_requests.Means.{Means}
use Rattle.ifmap_machine.specs.ifmap_requests.declared.errors.Refusal.TheVariants.{Named, Unreadable}
use Rattle.ifmap_dialogue.proofs.Coming.{as_post, refused_post, unreadable_post, wanting_post}
use Rattle.ifmap_dialogue.proofs.consulting.consult.Goals as goal

pub ask_request-requires : goal.ask_request-requires
ask_request-requires g c =
    let means = subst (λ (b : List ℕ). Means b (Ok c.in-Ok.request)) c.as_slice.ensures c.in-Ok.ensures in
    record {
      fit = c.bodies_mean_fit_requests.ensures c.args.body.now c.in-Ok.request means;
      short = omega (arith, c.len.ensures, c.requires.short);
    }

pub returns-in-Ok : goal.returns-in-Ok
returns-in-Ok g c =
    as_post _ _ _ _ c.args.body.now _ c.ask_request.ensures c.len.ensures
    (subst (λ (b : List ℕ). Means b (Ok c.in-Ok.request)) c.as_slice.ensures c.in-Ok.ensures)

pub returns-in-Err-Named : goal.returns-in-Err-Named
returns-in-Err-Named g c =
    let means = rw c.in-Err-Named.field-0-is at c.in-Err-Named.ensures in
    refused_post _ _ _ c.in-Err-Named.code c.refuse.result
    (subst (λ (b : List ℕ). Means b (Err (Named c.in-Err-Named.code))) c.as_slice.ensures means) refl c.refuse.ensures

pub returns-in-Err-Unreadable : goal.returns-in-Err-Unreadable
returns-in-Err-Unreadable g c =
    let means = rw c.in-Err-Unreadable.field-0-is at c.in-Err-Unreadable.ensures in
    unreadable_post _ _ _ (subst (λ (b : List ℕ). Means b (Err Unreadable)) c.as_slice.ensures means) refl

pub returns : goal.returns
returns g c = wanting_post _ _ _ refl
