use Rattle.std.proofs.Common.{◌≡◌, inl, arith, sym, ◌∙◌, subst, ap}
use Rattle.std.proofs.lemmas.Result.{on_ok_weaker}
use Rattle.std.specs.List.{AllByRecursion}
use Rattle.ifmap_changes.specs.Between.{state_now}
use Rattle.ifmap_changes.proofs.Taken.{author_of}
use Rattle.ifmap_changes.proofs.graph_changes.publish.Given as given
use Rattle.ifmap_changes.proofs.graph_changes.publish.Goals as goal
use Rattle.ifmap_changes.proofs.graph_changes.publish.Goals.{After-make_change}
use Rattle.ifmap_graph.specs.Seen.{rows_now}
use Rattle.ifmap_ident.specs.Items.{IsCanonItem}
use Rattle.ifmap_tellings.specs.ifmap_machine.Telling.{overflow, tell}
use Rattle.ifmap_graph.specs.ifmap_plans.declared.plans.Note.{Note}
use Rattle.ifmap_graph.specs.ifmap_plans.Plans.{IsAfter}
use Rattle.ifmap_tellings.specs.ifmap_publish.Apply.{Authorship, apply}
use Rattle.ifmap_tellings.specs.ifmap_publish.Notes.{notes_of}
use Rattle.ifmap_tellings.specs.ifmap_publish.NoteLaws.{notes_canon}
use Rattle.ifmap_changes.specs.KeptLaws.{error_keeps}

-- the author of the plan, as the fields of who asks are read
abbrev author_read : (g : given.Over) → After-make_change g → Authorship
author_read g c = record {
  client = c.asking.inside.client.now;
  serial = c.args.publication.now.serial;
  moment = c.asking.inside.moment;
}

same_author : (g : given.Over) (c : After-make_change g) → author_read g c ≡ author_of c.args.publication.now.serial c.args.asking.now
same_author g c = ap (author_of c.args.publication.now.serial) c.asking.view_is

applies : (g : given.Over) (c : After-make_change g) → IsAfter c.in_ok-plan.plan.changes (rows_now c.args.parts.now.graph)
    (apply (rows_now c.args.parts.now.graph) (author_of c.args.publication.now.serial c.args.asking.now) c.args.publication.now.ops.now)
applies g c =
    let first = rows_now c.args.parts.now.graph in
    subst (λ a. IsAfter c.in_ok-plan.plan.changes first (apply first a c.args.publication.now.ops.now)) (same_author g c)
    c.in_ok-plan.ensures.applies

pub make_change-requires : goal.make_change-requires
make_change-requires g c =
    let serial = c.args.publication.now.serial in
    let inner : Authorship = record { client = c.asking.inside.client.now; serial = serial; moment = c.asking.inside.moment } in
    record {
      can = record {
        steady = c.requires.steady;
        ready = c.requires.ready;
        fits = c.in_ok-plan.ensures.fits;
        canon = subst (λ notes. AllByRecursion (λ (n : Note). IsCanonItem n.item) notes) (sym c.in_ok-plan.ensures.notes)
            (notes_canon inner c.args.publication.now.ops.now c.requires.fit);
      };
    }

pub returns-clause-told : goal.returns-clause-told
returns-clause-told g c =
    let place = (goal.at.returns-clause-told g c).After-make_change in
    let before = state_now c.args.asking.now c.args.parts.now c.args.pending.now in
    let first = rows_now c.args.parts.now.graph in
    let ops = c.args.publication.now.ops.now in
    let by = author_of c.args.publication.now.serial c.args.asking.now in
    on_ok_weaker c.make_change.result (λ f. f (apply first by ops)
    (c.publishing_keeps_graphs.ensures.graph first by ops c.requires.fit c.is_view.ensures.graph) (applies g place)
    ∙ ap (λ notes. overflow (tell (apply first by ops) notes before))
    (c.in_ok-plan.ensures.notes ∙ ap (λ a. notes_of a ops) (same_author g place))) c.make_change.ensures.tells.told

pub returns-clause-kept : goal.returns-clause-kept
returns-clause-kept g c = c.make_change.ensures.tells.kept

pub returns-in_err-plan-clause-kept : goal.returns-in_err-plan-clause-kept
returns-in_err-plan-clause-kept g c = error_keeps c.from_residual.result c.args.parts.now c.requires.steady

pub returns-in_err-plan-clause-steps : goal.returns-in_err-plan-clause-steps
returns-in_err-plan-clause-steps g c = inl (omega arith)

pub returns-clause-steps : goal.returns-clause-steps
returns-clause-steps g c =
    let place = (goal.at.returns-clause-steps g c).After-make_change in
    let first = rows_now c.args.parts.now.graph in
    let ops = c.args.publication.now.ops.now in
    let by = author_of c.args.publication.now.serial c.args.asking.now in
    c.make_change.ensures.steps (apply first by ops)
    (c.publishing_keeps_graphs.ensures.graph first by ops c.requires.fit c.is_view.ensures.graph) (applies g place)
