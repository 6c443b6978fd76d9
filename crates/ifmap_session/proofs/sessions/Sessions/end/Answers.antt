use Rattle.std.proofs.Common.{◌∙◌, sym, ap, subst, None}
use Rattle.ifmap_session.specs.Places.{IsPlaceOf}
use Rattle.ifmap_session.specs.declared.holders.Holder.{Holder}
use Rattle.ifmap_session.specs.Rows.{live_in}
use Rattle.ifmap_session.specs.Seats.{Seat}
use Rattle.ifmap_session.specs.Sessions.{is_same_text, session_of_client}
use Rattle.ifmap_session.proofs.KeptLaws.{moments_ended, place_within}
use Rattle.ifmap_session.proofs.RowLaws.{ended_in_row, found_in_row, spare_other}
use Rattle.ifmap_session.proofs.SessionLaws.{client_gone, holder_is_there, holders_ended, live_up, place_is_ok, rows_ended, without_one}
use Rattle.ifmap_session.proofs.sessions.Sessions.end.Goals as goal

pub unwrap-holder-requires : goal.unwrap-holder-requires
unwrap-holder-requires c =
    let got = rw c.deref.ensures.value at c.place_in-place.ensures in
    let done = c.end_at-ended.ensures.rows c.args.serial got.0 got.1 in
    let same = c.client.ensures ∙ ap (λ (s : Seat). s.session.client) done.0 in
    place_is_ok (λ h. is_same_text h.client c.client.result.now) c.deref-2.result.now c.place_of_client.result
    c.place_of_client.ensures.place
    (rw (c.deref-2.ensures.value, same) (holder_is_there c.args.serial c.self.inside.rows.items c.self.inside.holders.items
    c.place_in-place.result got.0 c.self.invariant.sessions.own c.self.invariant.clients got.1))

pub set_last_moment-requires-clause-place : goal.set_last_moment-requires-clause-place
set_last_moment-requires-clause-place c =
    let got = rw c.deref.ensures.value at c.place_in-place.ensures in
    place_within c.self.invariant c.args.serial c.place_in-place.result got.0 got.1

pub invariant_of-self : goal.invariant_of-self
invariant_of-self c =
    let got = rw c.deref.ensures.value at c.place_in-place.ensures in
    let done = c.end_at-ended.ensures.rows c.args.serial got.0 got.1 in
    let same = c.client.ensures ∙ ap (λ (s : Seat). s.session.client) done.0 in
    let place = subst (λ t. IsPlaceOf (λ (h : Holder). is_same_text h.client t) c.self.inside.holders.items c.place_of_client.result) same
    (rw c.deref-2.ensures.value at c.place_of_client.ensures.place) in
    rw done.1 (record {
      sessions = rows_ended c.self.inside.counter c.args.serial c.self.inside.rows.items c.place_in-place.result got.0
          c.self.invariant.sessions got.1;
      clients = holders_ended c.args.serial c.self.inside.rows.items c.self.inside.holders.items c.remove-holder.new.self.items
          c.place_in-place.result got.0 c.place_of_client.result c.unwrap-holder.result c.self.invariant.sessions.apart
          c.self.invariant.sessions.own c.self.invariant.clients got.1 place c.unwrap-holder.ensures c.remove-holder.ensures.items;
      moments = moments_ended c.args.serial c.self.inside.rows.items c.self.inside.width c.self.inside.last_moments.items
          c.set_last_moment.new.tree.items c.place_in-place.result got.0 c.self.invariant.moments got.1 c.set_last_moment.ensures;
    })

pub returns-clause-live : goal.returns-clause-live
returns-clause-live c =
    let got = rw c.deref.ensures.value at c.place_in-place.ensures in
    let done = c.end_at-ended.ensures.rows c.args.serial got.0 got.1 in
    let own = c.self.invariant.sessions.own in
    rw (← c.self.view_is, done.1) (ended_in_row c.args.serial c.self.inside.rows.items c.place_in-place.result got.0
    own.rising own.own got.1)

pub returns-clause-gone : goal.returns-clause-gone
returns-clause-gone c = λ client held.
    let got = rw c.deref.ensures.value at c.place_in-place.ensures in
    let done = c.end_at-ended.ensures.rows c.args.serial got.0 got.1 in
    let own = c.self.invariant.sessions.own in
    let live = ap live_in done.1 ∙ ended_in_row c.args.serial c.self.inside.rows.items c.place_in-place.result got.0
    own.rising own.own got.1
    ∙ sym (without_one c.args.serial (live_in c.self.inside.rows.items)) in
    ap (session_of_client client) live
    ∙ client_gone (live_in c.self.inside.rows.items) c.args.serial got.0.session client
    (live_up c.self.inside.rows.items own.rising own.own) c.self.invariant.sessions.apart
    (found_in_row c.args.serial c.self.inside.rows.items c.place_in-place.result got.0 own.rising own.own got.1)
    (rw (← c.self.view_is) at held)

pub returns-clause-others : goal.returns-clause-others
returns-clause-others c = λ n apart.
    let got = rw c.deref.ensures.value at c.place_in-place.ensures in
    let done = c.end_at-ended.ensures.rows c.args.serial got.0 got.1 in
    let own = c.self.invariant.sessions.own in
    rw (← c.self.view_is, done.1) (spare_other c.args.serial c.self.inside.rows.items c.place_in-place.result got.0 None own.own got.1 tt n
    apart)
