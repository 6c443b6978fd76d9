use Rattle.std.proofs.Common.{◌≡◌, refl, subst, ◌+◌, ◌≤◌, arith}
use Rattle.ifmap_session.specs.Sessions.{with_item}
use Rattle.ifmap_session.proofs.KeptLaws.{item_queued, kept_queue, one_row_changes}
use Rattle.ifmap_session.proofs.RowLaws.{spare_found}
use Rattle.ifmap_session.proofs.sessions.Sessions.push.Goals as goal

pub push_at-requires : goal.push_at-requires
push_at-requires c =
    let got = rw c.deref.ensures.value at c.place_in-place.ensures in
    let own = c.self.invariant.sessions.own in
    let room = rw (← c.self.view_is) at c.requires.room in (
      c.args.serial,
      (
        got.0,
        got.1,
        subst (λ m. 1 ≤ m) (spare_found c.args.serial c.self.inside.rows.items c.place_in-place.result got.0
            own.rising own.own got.1) room,
      ),
    )

pub invariant_of-self : goal.invariant_of-self
invariant_of-self c =
    let got = rw c.deref.ensures.value at c.place_in-place.ensures in
    kept_queue c.self.invariant c.args.serial c.place_in-place.result got.0 got.1 c.push_at.new.rows.items (with_item c.args.item)
    (λ a b. b.spare + 1 ≡ a.spare) (item_queued c.args.item) c.push_at.ensures.rows

pub returns-clause-changes : goal.returns-clause-changes
returns-clause-changes c =
    let got = rw c.deref.ensures.value at c.place_in-place.ensures in
    let r = one_row_changes c.self.invariant c.args.serial c.place_in-place.result got.0 got.1 c.push_at.new.rows.items
    (with_item c.args.item) (λ a b. b.spare + 1 ≡ a.spare)
    (item_queued c.args.item).names c.push_at.ensures.rows in
    rw (← c.self.view_is) (record {
      live = r.live;
      counter = refl;
      others = r.others;
      room = let l = c.push_at.ensures.len in let k = c.push_at.ensures.capacity in omega arith;
    })

pub returns-clause-spare : goal.returns-clause-spare
returns-clause-spare c =
    let got = rw c.deref.ensures.value at c.place_in-place.ensures in
    let r = one_row_changes c.self.invariant c.args.serial c.place_in-place.result got.0 got.1 c.push_at.new.rows.items
    (with_item c.args.item) (λ a b. b.spare + 1 ≡ a.spare)
    (item_queued c.args.item).names c.push_at.ensures.rows in
    let w = r.was in let i = r.is in let h = r.holds in
    rw (← c.self.view_is) (omega arith)
