use Rattle.ifmap_session.proofs.SessionLaws.{live_counted, live_ids, live_up}
use Rattle.ifmap_session.proofs.sessions.Sessions.is_table.Goals as goal

pub returns : goal.returns
returns c =
    let k = c.self.invariant.sessions in
    rw (← c.self.view_is) (record {
      rising = live_up c.self.inside.rows.items k.own.rising k.own.own;
      counted = live_counted c.self.inside.counter c.self.inside.rows.items k.counted k.own.own;
      small = k.small;
      ids = live_ids c.self.inside.rows.items k.own.own;
      apart = k.apart;
      few = k.few;
    })
