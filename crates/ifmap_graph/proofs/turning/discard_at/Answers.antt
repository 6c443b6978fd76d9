use Rattle.std.proofs.Common.{◌≡◌, false, get_or, subst, sym, ◌∙◌}
use Rattle.std.proofs.lemmas.List.{get_or_default}
use Rattle.ifmap_ident.specs.Items.{same_item}
use Rattle.ifmap_plans.specs.declared.plans.ItemChange.{ItemChange}
use Rattle.ifmap_graph.proofs.turning.discard_at.Goals as goal
use Rattle.ifmap_ident.specs.SameLaws.{ties}

pub discard-requires-clause-there : goal.discard-requires-clause-there
discard-requires-clause-there c = c.requires.there c.index-changes-i.result

pub returns-clause-drafts : goal.returns-clause-drafts
returns-clause-drafts c = λ d x h.
    let p = c.discard.ensures.drafts x h
    in (
      p.0,
      subst (λ (y : ItemChange). same_item x y.item ≡ false) (get_or_default c.args.changes.now c.args.i c.index-changes-i.result d
          c.requires.place)
          (sym (ties (get_or c.args.changes.now c.args.i c.index-changes-i.result).item x) ∙ p.1),
    )
