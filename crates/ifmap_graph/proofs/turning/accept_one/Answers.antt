use Rattle.std.proofs.Common.{◌≡◌, false, cond, ap, sym, ◌∙◌}
use Rattle.std.specs.BTreeMap.{is_at}
use Rattle.ifmap_ident.specs.Items.{item_order}
use Rattle.ifmap_view.specs.Rows.{stored_on}
use Rattle.ifmap_graph.specs.Shelved.{rows_on_side}
use Rattle.ifmap_graph.specs.Sides.{list_next, list_now}
use Rattle.ifmap_graph.proofs.turning.accept_one.Goals as goal
use Rattle.ifmap_ident.specs.SameLaws.{ties}

pub returns-clause-list : goal.returns-clause-list
returns-clause-list c = c.accept.ensures.old

pub returns-clause-drafts : goal.returns-clause-drafts
returns-clause-drafts c = λ x d. let p = c.accept.ensures.drafts x d in (p.0, sym (ties c.args.item.now x) ∙ p.1)

pub returns-clause-others : goal.returns-clause-others
returns-clause-others c = λ x f.
    let g : is_at (item_order c.args.item.now) x ≡ false = ties c.args.item.now x ∙ f
    in (
      c.accept.ensures.kept x g,
      c.accept.ensures.now x
          ∙ ap (λ b. stored_on x (cond b (rows_on_side list_next c.args.shelves.now) (rows_on_side list_now c.args.shelves.now)))
          g,
    )
