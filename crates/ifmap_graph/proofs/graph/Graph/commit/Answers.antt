use Rattle.std.proofs.Common.{◌≡◌, ◌++◌, Some, sym, ◌∙◌, subst}
use Rattle.ifmap_plans.specs.declared.plans.Plan.{Plan}
use Rattle.ifmap_pool.specs.Holdings.{key_at}
use Rattle.ifmap_graph.specs.Out.{items_changed}
use Rattle.ifmap_graph.specs.Seen.{AreAwaited, IsDoneWith}
use Rattle.ifmap_graph.proofs.graph.Graph.commit.Goals as goal

pub settle-requires : goal.settle-requires
settle-requires c = record {
  still = c.commit_kept-undo.ensures.still;
  waits = subst (λ (p : Plan). AreAwaited (items_changed p.changes) c.commit_kept-undo.new.self) (sym c.commit_kept-undo.ensures.plan)
      (c.commit_kept-undo.ensures.waits (items_changed c.args.ready.plan.changes) c.requires.waits);
}

pub returns-clause-now : goal.returns-clause-now
returns-clause-now c = c.settle.ensures.now ∙ c.commit_kept-undo.ensures.now

pub returns-clause-done : goal.returns-clause-done
returns-clause-done c =
    let made = c.commit_kept-undo.ensures
    in let done = subst (λ (p : Plan). IsDoneWith (items_changed p.changes) c.commit_kept-undo.new.self c.settle.new.self) made.plan
    c.settle.ensures.done
    in record {
      still = done.still;
      numbers = λ v a is. subst (λ names. key_at names v ≡ Some a) made.names (done.numbers v a is);
      own = λ a own h. done.own a own (made.own a own h);
      waits = λ rest a. done.waits rest (made.waits (items_changed c.args.ready.plan.changes ++ rest) a);
      lean = λ rest lean. done.lean rest (made.lean c.requires.waits (items_changed c.args.ready.plan.changes ++ rest) lean);
    }
