use Rattle.ifmap_http.proofs.Reading.{head_is_some}
use Rattle.ifmap_http.proofs.heads.look_at_post.Goals as goal

pub returns-then-not-is_worth_parsing-clause-first : goal.returns-then-not-is_worth_parsing-clause-first
returns-then-not-is_worth_parsing-clause-first c zero head rest is =
    head_is_some c.args.bytes.now head rest is.reads.1 (c.if-not-is_worth_parsing.ensures.first zero)
