use Rattle.std.proofs.Common.{rules, Some, ◌++◌, [], slice_get, take, ap, ◌∙◌, sym, arith, append_assoc}
use Rattle.std.specs.List.{cons_option, filter_map}
use Rattle.ifmap_region.specs.Marks.{mark_of}
use Rattle.ifmap_fresh.specs.Collected.{item_at}
use Rattle.ifmap_fresh.specs.laws.AlongLaws.{along_more}
use Rattle.ifmap_fresh.proofs.collecting.Looking.add_linked.Goals as goal

pub loop-i-preserved : goal.loop-i-preserved
loop-i-preserved g c =
    let view = c.args.self.now.links.view.now
    in let links = g.V.View.links view c.args.number
    in let at = item_at (g.V.View.rows view) (g.V.View.id_at view) (g.V.View.links view) c.args.self.now.links.search.now
    (mark_of c.args.self.now.region.marks.entries) c.args.number
    in (
      c.in_ok-add_along.ensures.items ∙ ap (λ l. l ++ cons_option (at (slice_get links c.loop-i.i)) []) c.loop-i.invariant.0
          ∙ append_assoc c.args.items.now.items (filter_map (λ l. at (Some l)) (take c.loop-i.i links))
          (cons_option (at (slice_get links c.loop-i.i)) [])
          ∙ sym (ap (λ l. c.args.items.now.items ++ l) (along_more at links c.loop-i.i (search rules))),
      omega (arith, c.in_ok-add_along.ensures.step, c.loop-i.invariant.1),
    )
