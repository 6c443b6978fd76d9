use Rattle.std.proofs.Common.{refl, ◌∙◌, ap, map, arith}
use Rattle.ifmap_session.specs.Rows.{live_in, spare_in}
use Rattle.ifmap_session.specs.Seats.{Seat}
use Rattle.ifmap_session.proofs.RowLaws.{live_few, seats_filter}
use Rattle.ifmap_session.proofs.SessionLaws.{holders_filled, live_filter, rows_filled}
use Rattle.ifmap_session.proofs.sessions.Sessions.make_room.Goals as goal

pub widen-requires : goal.widen-requires
widen-requires c =
    let counts = c.self.invariant.clients.counts in
    let few = c.self.invariant.sessions.few in
    let fits = c.self.invariant.moments.within in
    let less = live_few c.self.inside.rows.items in
    let l = c.len-live.ensures in
    record {
      power = c.self.invariant.moments.power;
      few = c.self.invariant.moments.few;
      within = omega arith;
      most = omega arith;
      counts = omega arith;
    }

pub invariant_of-self-2 : goal.invariant_of-self-2
invariant_of-self-2 c =
    let rows = c.reserve_one-2.ensures.rows ∙ c.in_ok-wide.ensures.items in
    rw (rows, c.reserve_one-2.ensures.holders) (record {
      sessions = rows_filled c.self.inside.counter c.self.inside.rows.items c.self.invariant.sessions;
      clients = holders_filled c.self.inside.rows.items c.self.inside.holders.items c.self.invariant.clients;
      moments = rw c.in_ok-wide.ensures.items at c.in_ok-wide.ensures.last_moments;
    })

pub returns-clause-same : goal.returns-clause-same
returns-clause-same c =
    let rows = c.reserve_one-2.ensures.rows ∙ c.in_ok-wide.ensures.items in
    rw (← c.self.view_is) (record {
      live = ap live_in rows ∙ live_filter c.self.inside.rows.items;
      counter = refl;
      spare = ap spare_in rows ∙ ap (map (λ (s : Seat). (s.session.serial, s.spare))) (seats_filter c.self.inside.rows.items);
      room =
          let e = c.reserve_one-2.ensures in
          let w = c.in_ok-wide.ensures in
          omega (arith, e.rows_len, e.holders_len, e.rows_more, e.holders_more, w.len, w.capacity, w.more);
    })
