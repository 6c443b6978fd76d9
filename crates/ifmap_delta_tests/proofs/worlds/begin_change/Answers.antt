use Rattle.std.proofs.Common.{sym, subst}
use Rattle.ifmap_graph.specs.Inside.{GraphInside}
use Rattle.ifmap_graph.specs.Seen.{links_next, rows_next, rows_now}
use Rattle.ifmap_ident.specs.Items.{IsCanonItem}
use Rattle.ifmap_lemmas.specs.Filters.{all_weaker}
use Rattle.ifmap_plans.specs.Plans.{FitsItem, IsAfter}
use Rattle.ifmap_plans.specs.declared.plans.ItemChange.{ItemChange}
use Rattle.ifmap_plans.specs.declared.plans.Plan.{Plan}
use Rattle.ifmap_graph.specs.ifmap_pool.Holdings.{key_at}
use Rattle.ifmap_view.specs.Views.{IsView}
use Rattle.ifmap_delta_tests.specs.Worlds.{AreShown, HaveFitNotes}
use Rattle.ifmap_delta_tests.proofs.Lasting.{few_still}
use Rattle.ifmap_delta_tests.proofs.worlds.begin_change.Goals as goal

pub returns-clause-way : goal.returns-clause-way
returns-clause-way c =
    let e = c.in_ok-ready.ensures
    in let plan = c.args.plan
    in let old = c.args.graph.now
    in let new = c.reserve.new.self
    in record {
      out = e.out;
      now = c.is_view.ensures;
      next = subst (λ (h : GraphInside). IsView (rows_next h) (key_at h.names) (links_next h)) c.of.ensures c.is_view-2.ensures;
      change = subst (λ (p : Plan). AreShown new p) (sym e.plan) (record {
        canon = all_weaker (FitsItem (rows_now old)) (λ (d : ItemChange). IsCanonItem d.item) (λ d f. f.canon) plan.changes
            c.requires.fitting.fits.each;
        after = subst (λ rows. IsAfter plan.changes rows (rows_next new)) (sym e.now) e.after;
        numbers = λ v a is. is;
      });
      notes = subst HaveFitNotes (sym e.plan) c.requires.fitting.notes;
      whole = c.requires.fitting.whole (rows_next new) e.after;
      few = few_still old new e.own c.requires.quiet.few;
    }

pub returns-clause-same : goal.returns-clause-same
returns-clause-same c =
    let e = c.in_ok-ready.ensures
    in record { rows = e.now; links = e.links; numbers = e.numbers }
