use Rattle.std.proofs.Common.{sym, ◌∙◌, ap}
use Rattle.ifmap_core.proofs.Subscribed.{holds_leads, holds_later_or_kept, told_is}
use Rattle.ifmap_core.proofs.subscribing.subscribe_in.Goals as goal
use Rattle.ifmap_core.specs.Answering.{GivesCompletion}
use Rattle.ifmap_subscribes.specs.ifmap_graph.Seen.{rows_now}
use Rattle.ifmap_subscribes.specs.ifmap_machine.Subscribing.{subscribe_ops}

pub ready_ops-requires : goal.ready_ops-requires
ready_ops-requires g c = record {
  first = record { steady = c.requires.can.steady; ready = c.requires.can.ready; live = c.requires.live };
  fit = c.requires.fit;
}

pub returns-in-Ok-clause-leads : goal.returns-in-Ok-clause-leads
returns-in-Ok-clause-leads g c = λ s e.
    let a = c.args.asking.now in
    let old = c.args.parts.now in
    let pending = c.args.pending.now in
    holds_leads
    (λ wanted. GivesCompletion c.accept_ops.result a c.accept_ops.new.parts c.accept_ops.new.pending wanted) a old c.ready_ops.new.parts
    pending c.args.ops.now.serial c.in-Ok.readying _ c.in-Ok.ensures.holds
    (ap (subscribe_ops (rows_now old.graph) c.args.ops.now.serial c.args.ops.now.ops.now)
    (sym (told_is a old pending c.args.ops.now.serial s e))
    ∙ c.in-Ok.ensures.ops)
    c.accept_ops.ensures.leads s e

pub returns-in-Ok-clause-change : goal.returns-in-Ok-clause-change
returns-in-Ok-clause-change g c =
    holds_later_or_kept c.accept_ops.result c.args.parts.now c.ready_ops.new.parts c.accept_ops.new.parts c.in-Ok.ensures.holds
    c.accept_ops.ensures.change
