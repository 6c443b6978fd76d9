use Rattle.std.proofs.Common.{◌≡◌, rules, refl, [], length, arith}
use Rattle.ifmap_standing.specs.Ways.{IsWayGivenUp}
use Rattle.ifmap_standing.proofs.Places.{down_last, down_step}
use Rattle.ifmap_standing.proofs.ways.settle.Goals as goal

pub loop-way-preserved : goal.loop-way-preserved
loop-way-preserved c =
    let place : c.len-at.result ≡ length c.pop.new.self.items = omega (arith, c.len-at.ensures, c.pop.new.self.ok.0)
    in down_step IsWayGivenUp (λ x. refl) c.args.ways c.args.standing.now c.loop-way.left.items c.pop.new.self.items c.loop-way.standing
    c.in-Some.way c.len-at.result c.index-standing-at.result c.loop-way.invariant c.in-Some.ensures.items place c.index-standing-at.is
    c.settle_one.new.subscription c.settle_one.ensures

pub returns : goal.returns
returns c =
    let none : c.loop-way.left.items ≡ [] = search rules
    in down_last IsWayGivenUp (λ x. refl) c.args.ways c.args.standing.now c.loop-way.standing (rw none at c.loop-way.invariant)
