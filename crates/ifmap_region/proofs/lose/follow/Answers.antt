use Rattle.std.proofs.Common.{◌≡◌, ℕ, ◌+◌, Some, sym, ◌∙◌, arith}
use Rattle.std.specs.Prelude.{IsSome}
use Rattle.ifmap_region.specs.Links.{Linked}
use Rattle.ifmap_region.specs.Marks.{mark_of, row_of}
use Rattle.ifmap_region.proofs.Cuts.{cutting_neighbour}
use Rattle.ifmap_region.proofs.Falling.{low_unmatched}
use Rattle.ifmap_region.proofs.Following.{marks_kept, followed_more, followed_other}
use Rattle.ifmap_region.proofs.lose.follow.Goals as goal
use Rattle.ifmap_region.proofs.lose.follow.Goals.{in-Some+then-is_mark+in_ok-enqueue, in-Some+else-is_mark, in_default}

pub loop-i-preserved : goal.loop-i-preserved
loop-i-preserved g c =
    let count = (g.G.LinkSource.seen c.args.basis.now.graph.now).count in
    let link = (g.G.LinkSource.seen c.args.basis.now.graph.now).link in
    let first = mark_of c.args.basis.now.base.now.entries in
    let rows = c.loop-i.rows.entries in
    elim c.match-at.branch [
      | in-Some+then-is_mark+in_ok-enqueue w ↦
          let joined : Linked count link c.args.number w.in-Some.neighbour =
          (c.loop-i.i, omega (arith, c.loop-i-test.true, c.count-i-end.ensures), sym w.in-Some.ensures.link) in
          let marked : first w.in-Some.neighbour ≡ Some (c.args.level + 1) = sym w.mark_in.ensures ∙ w.is_mark.ensures.yes
          w.if-is_mark.true in
          rw (w.rows-is, w.queue-is) record {
            keeps = λ flips start before spent gone rest seeds b unheld s.
                cutting_neighbour count link _ flips start _ first b gone c.args.level before c.args.number rest seeds rows
                c.loop-i.queue.items
                (λ u d is l t m. unheld u d is l t (sym (c.loop-i.invariant.same u) ∙ m)) w.enqueue.new.rows.entries
                w.enqueue.new.queue.items
                w.in-Some.neighbour spent joined marked w.in_ok-enqueue.ensures (c.loop-i.invariant.keeps flips start before spent gone rest
                seeds b unheld s);
            same = λ x. marks_kept (c.args.level + 1) w.in-Some.neighbour rows w.enqueue.new.rows.entries c.loop-i.queue.items
                w.enqueue.new.queue.items w.in_ok-enqueue.ensures first marked x ∙ c.loop-i.invariant.same x;
            followed = followed_more (c.args.level + 1) w.in-Some.neighbour rows w.enqueue.new.rows.entries c.loop-i.queue.items
                w.enqueue.new.queue.items w.in_ok-enqueue.ensures first (link c.args.number) c.loop-i.i (sym w.in-Some.ensures.link)
                c.loop-i.invariant.followed;
            steps = omega (arith, c.at.ensures.step, c.loop-i.invariant.steps);
          }
      | in-Some+else-is_mark w ↦ rw (w.rows-is, w.queue-is) record {
        keeps = c.loop-i.invariant.keeps;
        same = c.loop-i.invariant.same;
        followed = followed_other (link c.args.number) c.loop-i.i w.in-Some.neighbour (c.args.level + 1) first rows
            (sym w.in-Some.ensures.link) (λ e. w.is_mark.ensures.no w.if-is_mark.false (w.mark_in.ensures ∙ e)) c.loop-i.invariant.followed;
        steps = omega (arith, c.at.ensures.step, c.loop-i.invariant.steps);
      }
      | in_default w ↦ rw (w.rows-is, w.queue-is) record {
        keeps = c.loop-i.invariant.keeps;
        same = c.loop-i.invariant.same;
        followed = low_unmatched (link c.args.number) c.loop-i.i (λ (x : ℕ). first x ≡ Some (c.args.level + 1) → IsSome (row_of rows x))
            (sym w.in_default.ensures.link) c.loop-i.invariant.followed;
        steps = omega (arith, c.at.ensures.step, c.loop-i.invariant.steps);
      }
    ]
