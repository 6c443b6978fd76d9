use Rattle.std.proofs.Common.{◌≡◌, ◌<◌, inr, refl}
use Rattle.ifmap_subscribes.specs.ifmap_changes.Between.{seen_now}
use Rattle.ifmap_core.proofs.InSession.{refuses_another, finds_much_own, finds_own, finds_own_within, no_finds, refuses_nobody}
use Rattle.ifmap_core.proofs.answering.run_search.Goals as goal
use Rattle.ifmap_subscribes.specs.ifmap_fresh.Fresh.{fresh_size}
use Rattle.ifmap_subscribes.specs.ifmap_graph.Seen.{rows_now}
use Rattle.ifmap_subscribes.specs.ifmap_machine.Step.{search}

pub returns-in-Ok-clause-leads : goal.returns-in-Ok-clause-leads
returns-in-Ok-clause-leads g c =
    finds_own c.requires.can c.args.wish.now.id.now c.in-Own.serial c.in-Own.ensures c.args.wish.now.asked.now c.in-Ok.found.entries
    c.in-Ok.ensures.answer.0 c.in-Ok.ensures.answer.2

pub returns-in-Err-TooBig-clause-leads : goal.returns-in-Err-TooBig-clause-leads
returns-in-Err-TooBig-clause-leads g c =
    let rows = rows_now c.args.parts.now.graph in
    let much : (c.in-Err-TooBig.size ≡ fresh_size rows c.args.wish.now.asked.now)
    × (c.args.wish.now.asked.now.max_size < fresh_size rows c.args.wish.now.asked.now) =
    rw c.in-Err-TooBig.field-0-is at c.in-Err-TooBig.ensures.answer in
    finds_much_own c.requires.can c.args.wish.now.id.now c.in-Own.serial c.in-Own.ensures c.args.wish.now.asked.now c.in-Err-TooBig.size
    much.0 much.1 c.refuse_size.result c.refuse_size.ensures

pub returns-in-Another-clause-leads : goal.returns-in-Another-clause-leads
returns-in-Another-clause-leads g c =
    refuses_another c.requires.can c.args.wish.now.id.now (λ state. search state c.args.wish.now.asked.now) c.in-Another.ensures
    c.refuse.result c.refuse.ensures

pub returns-in-Nobody-clause-leads : goal.returns-in-Nobody-clause-leads
returns-in-Nobody-clause-leads g c =
    refuses_nobody c.requires.can c.args.wish.now.id.now (λ state. search state c.args.wish.now.asked.now) c.in-Nobody.ensures
    c.refuse-in-Nobody.result c.refuse-in-Nobody.ensures

pub returns-in-Ok-clause-steps : goal.returns-in-Ok-clause-steps
returns-in-Ok-clause-steps g c =
    finds_own_within c.requires.can c.args.wish.now.id.now c.in-Own.serial c.in-Own.ensures c.args.steps.now c.fresh.new.steps
    c.args.wish.now.asked.now (inr (seen_now c.args.parts.now.graph, refl, c.is_view.ensures, c.fresh.ensures.steps))

pub returns-in-Err-TooBig-clause-steps : goal.returns-in-Err-TooBig-clause-steps
returns-in-Err-TooBig-clause-steps g c =
    finds_own_within c.requires.can c.args.wish.now.id.now c.in-Own.serial c.in-Own.ensures c.args.steps.now c.fresh.new.steps
    c.args.wish.now.asked.now (inr (seen_now c.args.parts.now.graph, refl, c.is_view.ensures, c.fresh.ensures.steps))

pub returns-in-Err-NoMemory-clause-steps : goal.returns-in-Err-NoMemory-clause-steps
returns-in-Err-NoMemory-clause-steps g c =
    finds_own_within c.requires.can c.args.wish.now.id.now c.in-Own.serial c.in-Own.ensures c.args.steps.now c.fresh.new.steps
    c.args.wish.now.asked.now (inr (seen_now c.args.parts.now.graph, refl, c.is_view.ensures, c.fresh.ensures.steps))

pub returns-in-Another-clause-steps : goal.returns-in-Another-clause-steps
returns-in-Another-clause-steps g c = no_finds c.requires.can c.args.wish.now.id.now c.args.steps.now c.args.wish.now.asked.now

pub returns-in-Nobody-clause-steps : goal.returns-in-Nobody-clause-steps
returns-in-Nobody-clause-steps g c = no_finds c.requires.can c.args.wish.now.id.now c.args.steps.now c.args.wish.now.asked.now
