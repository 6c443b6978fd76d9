use Rattle.std.proofs.Common.{arith}
use Rattle.ifmap_region.specs.Marks.{mark_of}
use Rattle.ifmap_region.proofs.Overs.{row_here, row_apart}
use Rattle.ifmap_region.proofs.Cuts.{spent_more, cutting_held, cutting_gone}
use Rattle.ifmap_region.proofs.lose.look.Goals as goal

pub returns-then-is_held-clause-keeps : goal.returns-then-is_held-clause-keeps
returns-then-is_held-clause-keeps g c flips start before rest seeds b s =
    cutting_held _ _ _ flips start _ _ b _ c.args.level before c.args.number rest seeds c.args.losses.now.rows.entries _ c.args.steps.now _
    (c.is_held.ensures.yes c.if-is_held.true) c.is_held.ensures.steps s

pub returns-then-is_held-clause-spent : goal.returns-then-is_held-clause-spent
returns-then-is_held-clause-spent g c flips start before rest seeds s =
    spent_more _ _ _ flips start _ _ _ _ seeds c.args.level before c.args.number rest _ c.args.steps.now _
    (omega (arith, c.is_held.ensures.steps)) s

pub returns-in_err-follow-clause-spent : goal.returns-in_err-follow-clause-spent
returns-in_err-follow-clause-spent g c flips start before rest seeds s =
    spent_more _ _ _ flips start _ _ _ _ seeds c.args.level before c.args.number rest _ c.args.steps.now _
    (omega (arith, c.is_held.ensures.steps, c.follow.ensures.steps)) s

pub returns-in_err-put-clause-spent : goal.returns-in_err-put-clause-spent
returns-in_err-put-clause-spent g c flips start before rest seeds s =
    spent_more _ _ _ flips start _ _ _ _ seeds c.args.level before c.args.number rest _ c.args.steps.now _
    (omega (arith, c.is_held.ensures.steps, c.follow.ensures.steps)) s

pub returns-in_err-push-clause-spent : goal.returns-in_err-push-clause-spent
returns-in_err-push-clause-spent g c flips start before rest seeds s =
    spent_more _ _ _ flips start _ _ _ _ seeds c.args.level before c.args.number rest _ c.args.steps.now _
    (omega (arith, c.is_held.ensures.steps, c.follow.ensures.steps)) s

pub returns-clause-keeps : goal.returns-clause-keeps
returns-clause-keeps g c flips start before rest seeds b s =
    let below = mark_of c.args.basis.now.base.now.entries in
    let unheld = c.is_held.ensures.no c.if-is_held.false in
    rw c.in_ok-push.ensures.items
    (cutting_gone _ _ _ flips start _ _ b _ c.args.level before c.args.number rest seeds c.follow.new.rows.entries c.follow.new.queue.items
    (c.in_ok-follow.ensures.unheld unheld) c.put.new.rows.entries c.args.steps.now _
    (row_here _ _ below _ _ c.in_ok-put.ensures.put) (row_apart _ _ below _ _ c.in_ok-put.ensures.put) c.in_ok-follow.ensures.followed
    (omega (arith, c.is_held.ensures.steps, c.follow.ensures.steps))
    (c.in_ok-follow.ensures.keeps flips start before _ _ rest seeds b unheld s))

pub returns-clause-spent : goal.returns-clause-spent
returns-clause-spent g c flips start before rest seeds s =
    spent_more _ _ _ flips start _ _ _ _ seeds c.args.level before c.args.number rest _ c.args.steps.now _
    (omega (arith, c.is_held.ensures.steps, c.follow.ensures.steps)) s
