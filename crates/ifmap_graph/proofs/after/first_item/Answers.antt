use Rattle.std.proofs.Common.{ℕ, IsSome, ap, sym, ◌∙◌}
use Rattle.ifmap_lemmas.specs.Emptiness.{nothing_in}
use Rattle.slab.specs.Slab.{get}
use Rattle.ifmap_graph.specs.Shelved.{list_at}
use Rattle.ifmap_graph.specs.Sides.{list_now}
use Rattle.ifmap_graph.proofs.Passing.{rest_has, passes_one}
use Rattle.ifmap_graph.proofs.after.first_item.Goals as goal

pub loop-item-preserved : goal.loop-item-preserved
loop-item-preserved c = (
  tt,
  tt,
  rest_has (λ (at : ℕ). list_at list_now (get c.args.slots.now at)) c.args.entries c.loop-item.item-iterator c.next.new.self _
      c.in-Some.ensures.steps
      (λ e. IsSome (get c.args.slots.now e.1)) c.loop-item.invariant.2,
  passes_one (λ (at : ℕ). list_at list_now (get c.args.slots.now at)) _ c.loop-item.item-iterator c.next.new.self _ c.in-Some.ensures.steps
      c.loop-item.invariant.3
      (ap (list_at list_now) c.index.ensures ∙ sym c.list_now.ensures ∙ nothing_in _ (sym c.is_empty.ensures ∙ c.if-not-is_empty.false)),
)
