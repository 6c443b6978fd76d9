use Rattle.ifmap_input.specs.InputLaws.{takes_more}
use Rattle.ifmap_http.specs.Heads.{AwaitsPost}
use Rattle.ifmap_http.proofs.Awaiting.{awaits_pending, awaits_at_end}
use Rattle.ifmap_http.proofs.Failing.{unless_post}
use Rattle.ifmap_http.proofs.heads.await_more.Goals as goal

pub returns-in-Some-clause-is : goal.returns-in-Some-clause-is
returns-in-Some-clause-is g c =
    awaits_pending AwaitsPost c.in-Some.awaited _ _ (g.S.Source.left c.head.source) c.pending_bytes.ensures c.in-Some.ensures.some

pub returns-in-Some-clause-fault : goal.returns-in-Some-clause-fault
returns-in-Some-clause-fault g c = λ e. absurd (c.in-Some.ensures.never e)

pub returns-in-Ok-false-clause-taken : goal.returns-in-Ok-false-clause-taken
returns-in-Ok-false-clause-taken g c =
    unless_post c.end_post.result _ (takes_more _ _ _ _ _ _ c.head.invariant.takes c.in-Ok-false.ensures.taken)

pub returns-in-Ok-false-clause-is : goal.returns-in-Ok-false-clause-is
returns-in-Ok-false-clause-is g c =
    awaits_at_end AwaitsPost c.end_post.result _ _ (g.S.Source.left c.fill.new.source) c.pending_bytes-in-Ok-false.ensures
    _ c.in-Ok-false.field-0 (cc) c.in-Ok-false.ensures.end c.end_post.ensures.is

pub returns-in-Ok-false-clause-fault : goal.returns-in-Ok-false-clause-fault
returns-in-Ok-false-clause-fault g c = λ e. absurd (c.end_post.ensures.never e)
