use Rattle.std.proofs.Common.{subst, sym}
use Rattle.std.specs.BTreeMap.{get}
use Rattle.std.specs.Ordering.{nat_cmp}
use Rattle.ifmap_tellings.specs.Tellings.{EachTelling, IsSized}
use Rattle.ifmap_tellings.proofs.AddedLaws.{each_changed}
use Rattle.ifmap_tellings.proofs.queueing.queue_items.Goals as goal

pub returns-in_ok-begin_telling-in-None-clause-sized : goal.returns-in_ok-begin_telling-in-None-clause-sized
returns-in_ok-begin_telling-in-None-clause-sized c =
    each_changed (λ n t. IsSized n t c.args.sessions.now.live) (get nat_cmp c.get_mut.follows.lender-at-none)
    (get nat_cmp c.begin_telling.new.tellings) c.args.serial c.in_ok-begin_telling-in-None.ensures.others
    (subst (EachTelling (λ n t. IsSized n t c.args.sessions.now.live)) (sym c.get_mut.follows.holds-at-none) c.requires.sized)
    c.in_ok-begin_telling-in-None.ensures.sized
