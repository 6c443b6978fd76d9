use Rattle.std.proofs.Common.{◌≡◌, refl, subst, arith}
use Rattle.ifmap_session.specs.Sessions.{with_last}
use Rattle.ifmap_session.specs.LastMoments.{SetsLastMoment}
use Rattle.ifmap_session.proofs.KeptLaws.{kept_renewed, one_row_changes, place_within}
use Rattle.ifmap_session.proofs.RowLaws.{spare_same}
use Rattle.ifmap_session.proofs.sessions.Sessions.renew.Goals as goal
use Rattle.ifmap_session.specs.laws.TableLaws.{renewed_keeps}

pub renew_at-requires : goal.renew_at-requires
renew_at-requires c =
    let got = rw c.deref.ensures.value at c.place_in-place.ensures in
    (c.args.serial, (got.0, got.1, tt))

pub invariant_of-self : goal.invariant_of-self
invariant_of-self c =
    let got = rw c.deref.ensures.value at c.place_in-place.ensures in
    kept_renewed c.self.invariant c.args.serial c.place_in-place.result got.0 got.1 c.renew_at.new.rows.items
    (λ a b. b.spare ≡ a.spare) c.args.moment c.set_last_moment.new.tree.items c.renew_at.ensures.rows
    (subst (λ m. SetsLastMoment c.self.inside.width c.place_in-place.result m c.self.inside.last_moments.items
    c.set_last_moment.new.tree.items)
    c.seconds.ensures.value c.set_last_moment.ensures)

pub returns-clause-changes : goal.returns-clause-changes
returns-clause-changes c =
    let got = rw c.deref.ensures.value at c.place_in-place.ensures in
    let r = one_row_changes c.self.invariant c.args.serial c.place_in-place.result got.0 got.1 c.renew_at.new.rows.items
    (with_last c.args.moment) (λ a b. b.spare ≡ a.spare)
    (renewed_keeps c.args.moment) c.renew_at.ensures.rows in
    rw (← c.self.view_is) (record {
      live = r.live;
      counter = refl;
      others = r.others;
      room = let l = c.renew_at.ensures.len in let k = c.renew_at.ensures.capacity in omega arith;
    })

pub set_last_moment-requires-clause-place : goal.set_last_moment-requires-clause-place
set_last_moment-requires-clause-place c =
    let got = rw c.deref.ensures.value at c.place_in-place.ensures in
    place_within c.self.invariant c.args.serial c.place_in-place.result got.0 got.1

pub returns-clause-spare : goal.returns-clause-spare
returns-clause-spare c =
    let got = rw c.deref.ensures.value at c.place_in-place.ensures in
    let r = c.renew_at.ensures.rows c.args.serial got.0 got.1 in
    rw (← c.self.view_is, r.2) (spare_same c.args.serial c.self.inside.rows.items c.place_in-place.result got.0 r.0 got.1
    (rw (r.1.0, r.1.1) refl))
