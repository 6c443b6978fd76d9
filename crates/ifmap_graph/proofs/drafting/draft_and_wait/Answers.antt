use Rattle.std.proofs.Common.{IsSome, sym, subst}
use Rattle.std.specs.BTreeMap.{is_at}
use Rattle.std.specs.List.{AllByRecursion}
use Rattle.std.specs.Map.{lookup}
use Rattle.ifmap_ident.specs.Items.{item_order}
use Rattle.ifmap_plans.specs.Plans.{IsAfter}
use Rattle.ifmap_graph.specs.Out.{items_changed}
use Rattle.ifmap_graph.specs.Shelved.{HasDraft, rows_on_side}
use Rattle.ifmap_graph.specs.Sides.{list_now}
use Rattle.ifmap_graph.proofs.Lessening.{inside_written}
use Rattle.ifmap_graph.proofs.drafting.draft_and_wait.Goals as goal
use Rattle.ifmap_lemmas.specs.Filters.{all_weaker}

pub wait_for-requires-clause-there : goal.wait_for-requires-clause-there
wait_for-requires-clause-there c =
    subst (λ p. AllByRecursion (λ x. IsSome (lookup (is_at (item_order x)) p.entries)) (items_changed c.args.changes.now))
    (sym c.draft_plan.ensures.stays.places) c.requires.there

pub returns-clause-all : goal.returns-clause-all
returns-clause-all c =
    let all = c.in_ok-draft_plan.ensures.all
    in record {
      inside = λ names is. inside_written names c.draft_plan.new.shelves c.wait_for.new.shelves c.wait_for.ensures.shelved
          c.wait_for.ensures.places c.wait_for.ensures.ends c.wait_for.ensures.now c.wait_for.ensures.next c.draft_plan.new.links.items
          (all.inside names is);
      next = subst (IsAfter c.args.changes.now (rows_on_side list_now c.args.shelves.now)) (sym c.wait_for.ensures.next) all.next;
      out = record {
        drafted = all_weaker (HasDraft c.draft_plan.new.shelves) (HasDraft c.wait_for.new.shelves) c.wait_for.ensures.kept
            (items_changed c.args.changes.now) all.out.drafted;
        within = λ x d. all.out.within x (c.wait_for.ensures.drafts x d);
        apart = all.out.apart;
      };
    }
