use Rattle.std.proofs.Common.{subst, sym}
use Rattle.ifmap_delta.specs.Changes.{ShowsAfter, WouldKeep}
use Rattle.ifmap_graph.specs.Inside.{GraphInside}
use Rattle.ifmap_plans.specs.declared.plans.Plan.{Plan}
use Rattle.ifmap_changes.specs.Between.{seen_now}
use Rattle.ifmap_changes.specs.Changes.{seen_next}
use Rattle.ifmap_delta_tests.specs.Worlds.{IsWorldSeen}
use Rattle.ifmap_delta_tests.proofs.stepping.change_with.Goals as goal

pub change-requires-clause-planned : goal.change-requires-clause-planned
change-requires-clause-planned g c =
    let old = seen_now c.args.graph.now
    in record {
      graph = c.requires.now;
      draft = subst (λ (h : GraphInside). IsWorldSeen (seen_next h)) (sym c.of-draft.ensures) c.requires.next;
      change = subst (λ (p : Plan). ShowsAfter old (seen_next c.of-draft.result) p.changes) (sym c.in_ok-located.ensures.plan)
          (subst (λ (h : GraphInside). ShowsAfter old (seen_next h) c.args.plan.now.changes) (sym c.of-draft.ensures)
          c.requires.change);
      located = c.in_ok-located.ensures.located.changes;
    }

pub returns : goal.returns
returns g c =
    let moved = c.in_ok-moved.moved
    in subst (λ (h : GraphInside). WouldKeep (seen_next h) c.args.subscription.now moved.patch moved.new_size) c.of-draft.ensures
    c.in_ok-moved.ensures.moved.keeps
