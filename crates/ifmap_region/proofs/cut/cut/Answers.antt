use Rattle.std.proofs.Common.{arith}
use Rattle.ifmap_region.proofs.Regrow.{ready_again, spent_cut, spent_reseed}
use Rattle.ifmap_region.specs.Bounds.{within_more}
use Rattle.ifmap_region.proofs.cut.cut.Goals as goal

pub returns-in_err-losses-clause-steps : goal.returns-in_err-losses-clause-steps
returns-in_err-losses-clause-steps g c start b =
    within_more _ _ 2 4 _ _ (omega arith) (c.lose.ensures.spent c.args.flips.now start b (rw c.new-bare.ensures.empty at
    c.in_ok-seeds.ensures))

pub returns-in_err-found-clause-steps : goal.returns-in_err-found-clause-steps
returns-in_err-found-clause-steps g c start b =
    let k = c.in_ok-losses.ensures.keeps c.args.flips.now start b (rw c.new-bare.ensures.empty at c.in_ok-seeds.ensures) in
    spent_reseed _ _ _ c.args.flips.now start _ _ b _ _ k.0 _ _ k.1 _ (rw c.deref.ensures.value at c.reseed.ensures.steps)

pub returns-in_err-spread-clause-steps : goal.returns-in_err-spread-clause-steps
returns-in_err-spread-clause-steps g c start b =
    let k = c.in_ok-losses.ensures.keeps c.args.flips.now start b (rw c.new-bare.ensures.empty at c.in_ok-seeds.ensures) in
    spent_cut _ _ _ c.args.flips.now start _ _ b _ _ k.0 _ _ k.1 _ _ (rw c.deref.ensures.value at c.reseed.ensures.steps)
    (c.spread.ensures.charged start (ready_again _ _ _ c.args.flips.now start _ _ b _ _ k.0 _ _ k.1 _ (rw c.deref.ensures.value at
    c.in_ok-found.ensures.seeds)))

pub returns-clause-depths : goal.returns-clause-depths
returns-clause-depths g c start b =
    let k = c.in_ok-losses.ensures.keeps c.args.flips.now start b (rw c.new-bare.ensures.empty at c.in_ok-seeds.ensures) in
    c.in_ok-spread.ensures.depths start (ready_again _ _ _ c.args.flips.now start _ _ b _ _ k.0 _ _ k.1 _ (rw c.deref.ensures.value at
    c.in_ok-found.ensures.seeds))

pub returns-clause-steps : goal.returns-clause-steps
returns-clause-steps g c start b =
    let k = c.in_ok-losses.ensures.keeps c.args.flips.now start b (rw c.new-bare.ensures.empty at c.in_ok-seeds.ensures) in
    spent_cut _ _ _ c.args.flips.now start _ _ b _ _ k.0 _ _ k.1 _ _ (rw c.deref.ensures.value at c.reseed.ensures.steps)
    (c.spread.ensures.charged start (ready_again _ _ _ c.args.flips.now start _ _ b _ _ k.0 _ _ k.1 _ (rw c.deref.ensures.value at
    c.in_ok-found.ensures.seeds)))
