use Rattle.ifmap_http.specs.Heads.{AwaitsPost}
use Rattle.ifmap_http.proofs.Awaiting.{awaits_pending}
use Rattle.ifmap_http.proofs.heads.await_post.Goals as goal

pub returns-in-Some-clause-is : goal.returns-in-Some-clause-is
returns-in-Some-clause-is g c =
    awaits_pending AwaitsPost c.in-Some.awaited _ _ (g.S.Source.left c.args.source.now) c.pending_bytes.ensures c.in-Some.ensures.some
