use Rattle.std.proofs.Common.{◌≡◌, false, subst}
use Rattle.std.proofs.lemmas.List.{get_or_default}
use Rattle.ifmap_ident.specs.Items.{same_item}
use Rattle.ifmap_plans.specs.declared.plans.ItemChange.{ItemChange}
use Rattle.ifmap_graph.proofs.turning.accept_at.Goals as goal

pub returns-clause-drafts : goal.returns-clause-drafts
returns-clause-drafts c = λ d x h.
    let p = c.accept_one.ensures.drafts x h
    in (
      p.0,
      subst (λ (y : ItemChange). same_item x y.item ≡ false) (get_or_default c.args.changes.now c.args.i c.index-changes-i.result d
          c.requires.place) p.1,
    )
