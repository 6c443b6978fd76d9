use Rattle.std.proofs.Common.{rules, Some, ◌++◌, [], slice_get, take, ap, ◌∙◌, sym, arith, append_assoc}
use Rattle.std.specs.List.{cons_option, filter_map}
use Rattle.ifmap_delta.specs.SeenViews.{view_seen}
use Rattle.ifmap_delta.specs.Touched.{link_item}
use Rattle.ifmap_fresh.specs.laws.AlongLaws.{along_more}
use Rattle.ifmap_delta.proofs.touched.add_linked.Goals as goal

pub loop-i-preserved : goal.loop-i-preserved
loop-i-preserved g c =
    let view = c.args.links.now.view.now
    in let links = g.V.View.links view c.args.number
    in let at = link_item (view_seen g.V.View.rows g.V.View.id_at g.V.View.links view) c.args.links.now.search.now c.args.number
    in (
      c.in_ok-add_along.ensures.items ∙ ap (λ l. l ++ cons_option (at (slice_get links c.loop-i.i)) []) c.loop-i.invariant.0
          ∙ append_assoc c.args.items.now.items (filter_map (λ l. at (Some l)) (take c.loop-i.i links))
          (cons_option (at (slice_get links c.loop-i.i)) [])
          ∙ sym (ap (λ l. c.args.items.now.items ++ l) (along_more at links c.loop-i.i (search rules))),
      omega (arith, c.in_ok-add_along.ensures.step, c.loop-i.invariant.1),
    )
