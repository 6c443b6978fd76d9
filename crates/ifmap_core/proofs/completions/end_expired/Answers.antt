use Rattle.std.proofs.Common.{◌∷◌, [], refl, ◌∙◌, arith, get_or, subst}
use Rattle.ifmap_core.proofs.Applying.{ended_all, was_live, one_can_end, one_ended, other_lives}
use Rattle.ifmap_core.proofs.completions.end_expired.Goals as goal
use Rattle.ifmap_session.specs.Sessions.{IsLive}

pub loop-serial-init : goal.loop-serial-init
loop-serial-init c = record {
  state_now = record { can = c.requires; rest = refl };
  counter = refl;
  room = omega arith;
  spare = λ n l. refl;
}

pub end-requires : goal.end-requires
end-requires c =
    one_can_end c.args.ended.now c.args.sessions.now.live c.loop-serial.sessions.live c.loop-serial.serial-index
    c.loop-serial-test.true c.loop-serial.invariant.state_now

pub loop-serial-preserved : goal.loop-serial-preserved
loop-serial-preserved c = record {
  state_now = one_ended c.args.ended.now c.args.sessions.now.live c.loop-serial.sessions.live c.end.new.self.live c.loop-serial.serial-index
      c.loop-serial-test.true c.loop-serial.invariant.state_now c.end.ensures.live;
  counter = c.end.ensures.counter ∙ c.loop-serial.invariant.counter;
  room = omega (arith, c.loop-serial.invariant.room, c.end.ensures.room);
  spare = λ n l.
      let serial = get_or c.args.ended.now c.loop-serial.serial-index 0 in
      let there = subst (IsLive n) c.end.ensures.live l in
      c.end.ensures.others n (other_lives n serial c.loop-serial.sessions.live there)
      ∙ c.loop-serial.invariant.spare n (was_live n (serial ∷ []) c.loop-serial.sessions.live there);
}

pub returns-clause-live : goal.returns-clause-live
returns-clause-live c =
    ended_all c.args.ended.now c.args.sessions.now.live c.loop-serial.sessions.live c.loop-serial.serial-index c.loop-serial-test.false
    c.loop-serial.invariant.state_now
