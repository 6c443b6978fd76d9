use Rattle.std.proofs.Common.{subst, sym}
use Rattle.ifmap_tellings.specs.Tellings.{IsSized}
use Rattle.ifmap_tellings.specs.declared.tellings.Telling.TheVariants.{After}
use Rattle.ifmap_tellings.proofs.AddedLaws.{sized_after}
use Rattle.ifmap_tellings.proofs.queueing.add_items.Goals as goal

pub returns-in_ok-add_each-in-After-clause-sized : goal.returns-in_ok-add_each-in-After-clause-sized
returns-in_ok-add_each-in-After-clause-sized c = λ n live sized.
    let after = sized_after n live c.in-After.all c.args.items c.in-After.size c.add_each.new.size c.in_ok-add_each-in-After.ensures.size
    c.in_ok-add_each-in-After.ensures.small (subst (λ t. IsSized n t live) c.in-After.is sized) in
    subst (λ all. IsSized n (After all c.add_each.new.size) live) (sym c.in_ok-add_each-in-After.ensures.items) after
