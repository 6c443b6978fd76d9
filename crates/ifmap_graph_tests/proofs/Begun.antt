-- What is left of the facts about a graph as a change comes to be out, is made, stays or goes.
use Rattle.std.proofs.Common.{◌≡◌, List, [], subst, sym, arith}
use Rattle.ifmap_ident.specs.declared.identifiers.Identifier.{Identifier}
use Rattle.ifmap_graph.specs.Back.{IsUndoTo}
use Rattle.ifmap_graph.specs.declared.changes.Ready.{Ready}
use Rattle.ifmap_graph.specs.declared.changes.Undo.{Undo}
use Rattle.ifmap_graph.specs.Inside.{GraphInside}
use Rattle.ifmap_graph.specs.Out.{IsOut, items_changed}
use Rattle.ifmap_graph.specs.Seen.{AreAwaited, AwaitsMore, HasFewOwn, IsStill, KeepsOwn, links_now, rows_next, rows_now}
use Rattle.ifmap_plans.specs.declared.plans.Plan.{Plan}
use Rattle.ifmap_plans.specs.Plans.{AreWhole, Fits, IsAfter}
use Rattle.ifmap_view.specs.declared.attachments.Attachment.{Attachment}
use Rattle.ifmap_graph_tests.specs.Steady.{IsBegunWhole, IsMadeWhole, IsStillWhole, OwnsNothing}
use Rattle.ifmap_plans.specs.laws.OnItemLaws.{whole_after}
use Rattle.ifmap_graph.specs.NumberLaws.{awaits_these}

awaits_none : (h : GraphInside) → AreAwaited [] h
awaits_none h x = omega arith

pub few_own : (h : GraphInside) → OwnsNothing h → HasFewOwn h
few_own h own = λ (a : Identifier). (0, own a, omega arith)

-- nothing is out after a call that leaves these attachments
pub steady_by : (old new : GraphInside) (rows : List Attachment) → OwnsNothing old → AreWhole rows → IsStill new → rows_now new ≡ rows
    → KeepsOwn old new → IsStillWhole new
steady_by old new rows own whole still now keeps = record {
  still = still;
  whole = subst AreWhole (sym now) whole;
  own = λ a. keeps a 0 (own a);
}

pub begun_by : (old new : GraphInside) (ready : Ready) (plan : Plan) → IsStillWhole old → Fits (rows_now old) plan.changes
    → ready.plan ≡ plan → IsOut ready new → IsAfter plan.changes (rows_now old) (rows_next new) → rows_now new ≡ rows_now old
    → KeepsOwn old new → AwaitsMore (items_changed plan.changes) old new → IsBegunWhole ready new
begun_by old new ready plan steady fits same out after now keeps more = record {
  out = out;
  waits = subst (λ (p : Plan). AreAwaited (items_changed p.changes) new) (sym same)
      (awaits_these (items_changed plan.changes) old new more);
  before = subst AreWhole (sym now) steady.whole;
  after = whole_after (rows_now old) (rows_next new) plan.changes fits after steady.whole;
  own = λ a. keeps a 0 (steady.own a);
}

pub made_by : (old new : GraphInside) (ready : Ready) (undo : Undo) → IsBegunWhole ready old → IsStill new → rows_now new ≡ rows_next old
    → KeepsOwn old new → (AreAwaited (items_changed ready.plan.changes) old → IsUndoTo undo (rows_now old) (links_now old) new)
    → IsMadeWhole undo new
made_by old new ready undo begun still now keeps back = record {
  steady = steady_by old new (rows_next old) begun.own begun.after still now keeps;
  rows = rows_now old;
  links = links_now old;
  back = back begun.waits;
  before = begun.before;
}
