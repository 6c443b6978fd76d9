use Rattle.std.proofs.Common.{◌∙◌, subst, sym}
use Rattle.std.specs.List.{AllByRecursion}
use Rattle.ifmap_graph.specs.Seen.{rows_now}
use Rattle.ifmap_ident.specs.Items.{IsCanonItem}
use Rattle.ifmap_plans.specs.declared.plans.Note.{Note}
use Rattle.ifmap_publish.specs.Apply.{Authorship, apply}
use Rattle.ifmap_delta_tests.proofs.Lasting.{whole_like}
use Rattle.ifmap_delta_tests.proofs.worlds.plan_by.Goals as goal
use Rattle.ifmap_publish.specs.NoteLaws.{notes_canon}

pub returns : goal.returns
returns c =
    let rows = rows_now c.args.graph.now
    in let planned = c.in_ok-plan.ensures
    in let by : Authorship = record { client = c.args.client.now; serial = 7; moment = c.in_ok-moment.moment }
    in let ops = c.args.ops.now
    in record {
      fits = planned.fits;
      whole = λ after is. whole_like (apply rows by ops) after (λ x. is x ∙ sym (planned.applies x))
          (c.publishing_keeps_graphs.ensures.whole rows by ops c.text-form.ensures.form c.requires.ops c.requires.quiet.whole);
      notes = subst (AllByRecursion (λ (n : Note). IsCanonItem n.item)) (sym planned.notes) (notes_canon by ops c.requires.ops);
    }
