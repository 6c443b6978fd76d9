use Rattle.std.proofs.Common.{◌≡◌, rules, [], length, arith}
use Rattle.ifmap_standing.proofs.Places.{down_last, down_step}
use Rattle.ifmap_standing.proofs.Undoing.{IsUndone, lead_at, leads_all_back}
use Rattle.ifmap_standing.proofs.ways.take_change_back.Goals as goal

pub take_back_one-requires : goal.take_back_one-requires
take_back_one-requires c =
    let place : c.len-at.result ≡ length c.pop.new.self.items = omega (arith, c.len-at.ensures, c.pop.new.self.ok.0)
    in lead_at c.args.ways c.args.standing.now c.loop-way.left.items c.pop.new.self.items c.loop-way.standing c.in-Some.way c.len-at.result
    c.index-standing-at.result c.loop-way.invariant c.in-Some.ensures.items place c.index-standing-at.is c.requires

pub loop-way-preserved : goal.loop-way-preserved
loop-way-preserved c =
    let place : c.len-at.result ≡ length c.pop.new.self.items = omega (arith, c.len-at.ensures, c.pop.new.self.ok.0)
    in down_step IsUndone (λ x before k. k) c.args.ways c.args.standing.now c.loop-way.left.items c.pop.new.self.items c.loop-way.standing
    c.in-Some.way c.len-at.result c.index-standing-at.result c.loop-way.invariant c.in-Some.ensures.items place c.index-standing-at.is
    c.take_back_one.new.subscription c.take_back_one.ensures

pub returns : goal.returns
returns c = λ before leads.
    let none : c.loop-way.left.items ≡ [] = search rules
    in leads_all_back c.args.ways c.args.standing.now c.loop-way.standing before
    (down_last IsUndone (λ x before k. k) c.args.ways c.args.standing.now c.loop-way.standing (rw none at c.loop-way.invariant)) leads
