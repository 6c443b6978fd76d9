use Rattle.std.proofs.Common.{sym, subst}
use Rattle.ifmap_ident.specs.Items.{IsCanonItem}
use Rattle.ifmap_lemmas.specs.Filters.{all_weaker}
use Rattle.ifmap_lemmas.specs.Results.{on_err}
use Rattle.ifmap_graph.specs.ifmap_plans.Plans.{FitsItem, IsAfter}
use Rattle.ifmap_graph.specs.ifmap_pool.Holdings.{key_at}
use Rattle.ifmap_graph.specs.ifmap_view.Views.{IsView}
use Rattle.ifmap_graph.specs.Inside.{GraphInside}
use Rattle.ifmap_graph.specs.Seen.{links_next, rows_next, rows_now}
use Rattle.ifmap_changes.proofs.Begun.{kept_seen}
use Rattle.ifmap_changes.proofs.Starts.{few_starts}
use Rattle.ifmap_changes.proofs.changes.begin_change.Goals as goal

pub reserve-requires-clause-few : goal.reserve-requires-clause-few
reserve-requires-clause-few c =
    few_starts c.args.parts.now.sessions.live c.args.parts.now.standing.items c.is_table.ensures.few c.requires.ordered
    c.args.parts.now.graph c.requires.steady

pub returns-in_err-ready-clause-kept : goal.returns-in_err-ready-clause-kept
returns-in_err-ready-clause-kept c =
    on_err c.from_residual.result _
    (kept_seen c.args.parts.now c.reserve.new.self c.requires.steady c.in_err-ready.ensures.still c.in_err-ready.ensures.err
    c.reserve.ensures.backs)

pub returns-clause-begun : goal.returns-clause-begun
returns-clause-begun c =
    let e = c.in_ok-ready.ensures
    in let changes = c.args.plan.changes
    in record {
      out = e.out;
      plan = e.plan;
      before = c.is_view.ensures;
      now = c.is_view-2.ensures;
      next = subst (λ (h : GraphInside). IsView (rows_next h) (key_at h.names) (links_next h)) c.of.ensures c.is_view-3.ensures;
      change = record {
        canon = all_weaker (FitsItem (rows_now c.args.parts.now.graph)) (λ d. IsCanonItem d.item) (λ d f. f.canon) changes
            c.requires.fits.each;
        after = subst (λ rows. IsAfter changes rows (rows_next c.reserve.new.self)) (sym e.now) e.after;
        numbers = λ v a is. is;
      };
      rows = e.now;
      links = e.links;
      numbers = e.numbers;
      own = e.own;
      waits = e.waits;
      lean = e.lean;
      backs = e.backs;
    }
