use Rattle.std.proofs.Common.{◌≡◌, refl, sym, ◌∙◌, ap, subst, ◌+◌, ◌≤◌, length, arith}
use Rattle.ifmap_session.specs.Sessions.{Session, with_error}
use Rattle.ifmap_session.proofs.KeptLaws.{kept_queue, one_row_changes, queue_overflowed}
use Rattle.ifmap_session.proofs.RowLaws.{found_in_row, spare_found}
use Rattle.ifmap_session.proofs.sessions.Sessions.overflow.Goals as goal

pub overflow_at-requires : goal.overflow_at-requires
overflow_at-requires c =
    let got = rw c.deref.ensures.value at c.place_in-place.ensures in
    let own = c.self.invariant.sessions.own in
    let there = found_in_row c.args.serial c.self.inside.rows.items c.place_in-place.result got.0 own.rising own.own got.1 in
    let room = (rw (← c.self.view_is) at c.requires.room) got.0.session there in (
      c.args.serial,
      (
        got.0,
        got.1,
        subst (λ m. 1 ≤ m + length got.0.session.queue) (spare_found c.args.serial c.self.inside.rows.items
            c.place_in-place.result got.0 own.rising own.own got.1) room,
      ),
    )

pub invariant_of-self : goal.invariant_of-self
invariant_of-self c =
    let got = rw c.deref.ensures.value at c.place_in-place.ensures in
    kept_queue c.self.invariant c.args.serial c.place_in-place.result got.0 got.1 c.overflow_at.new.rows.items (with_error c.args.error)
    (λ a b. b.spare + 1 ≡ a.spare + length a.session.queue) (queue_overflowed c.args.error) c.overflow_at.ensures.rows

pub returns-clause-changes : goal.returns-clause-changes
returns-clause-changes c =
    let got = rw c.deref.ensures.value at c.place_in-place.ensures in
    let r = one_row_changes c.self.invariant c.args.serial c.place_in-place.result got.0 got.1 c.overflow_at.new.rows.items
    (with_error c.args.error) (λ a b. b.spare + 1 ≡ a.spare + length a.session.queue)
    (queue_overflowed c.args.error).names c.overflow_at.ensures.rows in
    rw (← c.self.view_is) (record {
      live = r.live;
      counter = refl;
      others = r.others;
      room = let l = c.overflow_at.ensures.len in let k = c.overflow_at.ensures.capacity in omega arith;
    })

pub returns-clause-spare : goal.returns-clause-spare
returns-clause-spare c = λ s is.
    let got = rw c.deref.ensures.value at c.place_in-place.ensures in
    let r = one_row_changes c.self.invariant c.args.serial c.place_in-place.result got.0 got.1 c.overflow_at.new.rows.items
    (with_error c.args.error) (λ a b. b.spare + 1 ≡ a.spare + length a.session.queue)
    (queue_overflowed c.args.error).names c.overflow_at.ensures.rows in
    let same : r.before.session ≡ s = cc (sym r.there ∙ (rw (← c.self.view_is) at is)) in
    let long : length r.before.session.queue ≡ length s.queue = ap (λ (t : Session). length t.queue) same in
    let w = r.was in let i = r.is in let h = r.holds in
    rw (← c.self.view_is) (omega arith)
