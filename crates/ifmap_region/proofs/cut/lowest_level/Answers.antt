use Rattle.std.proofs.Common.{sym, arith}
use Rattle.std.proofs.lemmas.Option.{IfSome_then}
use Rattle.ifmap_region.specs.Marks.{mark_of, mark_over}
use Rattle.ifmap_region.specs.Seeds.{IsNext}
use Rattle.ifmap_region.proofs.Regrow.{least_unmatched, least_more, lesser_only}
use Rattle.ifmap_region.proofs.cut.lowest_level.Goals as goal
use Rattle.ifmap_region.proofs.cut.lowest_level.Goals.{in-Some, in_default}

pub loop-i-preserved : goal.loop-i-preserved
loop-i-preserved g c =
    let given = IsNext (g.G.LinkSource.seen c.args.basis.now.graph.now).terminal c.args.basis.now.top
    (mark_over c.args.rows.now.entries (mark_of c.args.basis.now.base.now.entries)) in
    elim c.match-at.branch [
      | in-Some w ↦ rw w.least-is record {
        only = lesser_only _ _ _ _ w.lesser_depth-least.ensures.one c.loop-i.invariant.only
            (IfSome_then w.next_of.result w.next_of.ensures.only (λ k n. (
              w.in-Some.neighbour,
              (
                c.loop-i.i,
                omega (
                  arith,
                  c.loop-i-test.true,
                  c.count-i-end.ensures,
                ),
                sym w.in-Some.ensures.link,
              ),
              n,
            )));
        least = least_more ((g.G.LinkSource.seen c.args.basis.now.graph.now).link c.args.number) c.loop-i.i given c.loop-i.least
            c.loop-i.invariant.least
            w.next_of.result w.lesser_depth-least.result w.in-Some.neighbour
            (sym w.in-Some.ensures.link) w.next_of.ensures.each w.lesser_depth-least.ensures.first w.lesser_depth-least.ensures.second;
        steps = omega (arith, c.at.ensures.step, c.loop-i.invariant.steps);
      }
      | in_default w ↦ rw w.least-is record {
        only = c.loop-i.invariant.only;
        least = least_unmatched ((g.G.LinkSource.seen c.args.basis.now.graph.now).link c.args.number) c.loop-i.i given c.loop-i.least
            c.loop-i.invariant.least (sym w.in_default.ensures.link);
        steps = omega (arith, c.at.ensures.step, c.loop-i.invariant.steps);
      }
    ]

pub returns-clause-least : goal.returns-clause-least
returns-clause-least g c u k l n = c.loop-i.invariant.least l.0 u k (omega (arith, l.1, c.count-i-end.ensures, c.loop-i-test.false)) l.2 n
