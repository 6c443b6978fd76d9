use Rattle.std.proofs.Common.{rules, not}
use Rattle.std.proofs.lemmas.Fn.{filter_same}
use Rattle.ifmap_session.specs.Sessions.{is_named}
use Rattle.ifmap_session.proofs.queues.retain_others.Goals as goal

pub returns-clause-items : goal.returns-clause-items
returns-clause-items c = filter_same _ (λ item. not (is_named c.args.name.now item)) _
    (λ a b f k. search rules) _ _ c.retain.ensures.filtered
