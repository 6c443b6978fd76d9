use Rattle.std.proofs.Common.{inl, arith}
use Rattle.ifmap_subscribes.proofs.Spending.{within_span}
use Rattle.ifmap_subscribes.proofs.starting.begin_at.Goals as goal

pub returns-in_err-searched-clause-steps : goal.returns-in_err-searched-clause-steps
returns-in_err-searched-clause-steps g c = inl (omega arith)

pub returns-in_err-subscription-clause-steps : goal.returns-in_err-subscription-clause-steps
returns-in_err-subscription-clause-steps g c =
    within_span c.args.graph.now 4 c.in_ok-searched.searched c.args.wanted.now.search.now c.args.steps.now c.subscribe.new.steps
    c.is_view.ensures c.in_ok-searched.ensures c.subscribe.ensures.steps

pub returns-in-Kept-clause-steps : goal.returns-in-Kept-clause-steps
returns-in-Kept-clause-steps g c =
    within_span c.args.graph.now 4 c.in_ok-searched.searched c.args.wanted.now.search.now c.args.steps.now c.subscribe.new.steps
    c.is_view.ensures c.in_ok-searched.ensures c.subscribe.ensures.steps

pub returns-in-TooBig-clause-steps : goal.returns-in-TooBig-clause-steps
returns-in-TooBig-clause-steps g c =
    within_span c.args.graph.now 4 c.in_ok-searched.searched c.args.wanted.now.search.now c.args.steps.now c.subscribe.new.steps
    c.is_view.ensures c.in_ok-searched.ensures c.subscribe.ensures.steps
