use Rattle.std.proofs.Common.{refl, ◌∙◌, ap}
use Rattle.std.specs.BTreeMap.{get}
use Rattle.std.specs.Ordering.{nat_cmp}
use Rattle.ifmap_core.proofs.Alone.{IsToldAlone, alone_ready, alone_so_far}
use Rattle.ifmap_core.proofs.Subscribed.{live_left}
use Rattle.ifmap_core.proofs.subscribing.tell_over.Goals as goal
use Rattle.ifmap_core.proofs.subscribing.tell_over.Goals.{After-flag_session}

-- the session is told so alone
alone : (c : After-flag_session)
    → IsToldAlone c.args.asking.now c.args.parts.now
    (record { graph = c.args.parts.now.graph; sessions = c.tell_alone.new.sessions; standing = c.args.parts.now.standing })
    c.args.pending.now c.flag_session.new.pending c.args.serial c.args.size
alone c = record {
  up = c.is_table.ensures.rising;
  live = c.requires.live;
  rows = refl;
  standing = refl;
  sessions = c.tell_alone.ensures.same;
  told = λ s found. ap (λ m. get nat_cmp m c.args.serial) c.flag_session.ensures.flags.tellings ∙ c.in_ok-tell_alone.ensures.told s found;
  others = λ n other. ap (λ m. get nat_cmp m n) c.flag_session.ensures.flags.tellings ∙ c.in_ok-tell_alone.ensures.others n other;
}

pub tell_alone-requires : goal.tell_alone-requires
tell_alone-requires c = record { live = live_left c.args.asking.now c.args.serial c.args.parts.now.sessions c.requires.live }

pub returns-clause-told : goal.returns-clause-told
returns-clause-told c =
    alone_so_far (alone (goal.at.returns-clause-told c).After-flag_session) (rw (← c.deref.ensures.value) c.flag_session.ensures.flags.left)

pub returns-clause-ready : goal.returns-clause-ready
returns-clause-ready c =
    alone_ready (alone (goal.at.returns-clause-ready c).After-flag_session) c.requires.ready
    (rw (← c.deref.ensures.value) c.flag_session.ensures.flags.flags) c.flag_session.ensures.flags.stay
    (rw (← c.deref.ensures.value) c.flag_session.ensures.bare) c.in_ok-tell_alone.ensures.room
