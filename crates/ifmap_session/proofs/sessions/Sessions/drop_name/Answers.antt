use Rattle.std.proofs.Common.{refl, ◌≤◌, arith}
use Rattle.ifmap_session.specs.Sessions.{without_name}
use Rattle.ifmap_session.proofs.KeptLaws.{kept_queue, name_dropped, one_row_changes}
use Rattle.ifmap_session.proofs.sessions.Sessions.drop_name.Goals as goal

pub drop_name_at-requires : goal.drop_name_at-requires
drop_name_at-requires c =
    let got = rw c.deref.ensures.value at c.place_in-place.ensures in
    (c.args.serial, (got.0, got.1, tt))

pub invariant_of-self : goal.invariant_of-self
invariant_of-self c =
    let got = rw c.deref.ensures.value at c.place_in-place.ensures in
    kept_queue c.self.invariant c.args.serial c.place_in-place.result got.0 got.1 c.drop_name_at.new.rows.items
    (without_name c.args.name.now) (λ a b. a.spare ≤ b.spare) (name_dropped c.args.name.now) c.drop_name_at.ensures.rows

pub returns-clause-changes : goal.returns-clause-changes
returns-clause-changes c =
    let got = rw c.deref.ensures.value at c.place_in-place.ensures in
    let r = one_row_changes c.self.invariant c.args.serial c.place_in-place.result got.0 got.1 c.drop_name_at.new.rows.items
    (without_name c.args.name.now) (λ a b. a.spare ≤ b.spare)
    (name_dropped c.args.name.now).names c.drop_name_at.ensures.rows in
    rw (← c.self.view_is) (record {
      live = r.live;
      counter = refl;
      others = r.others;
      room = let l = c.drop_name_at.ensures.len in let k = c.drop_name_at.ensures.capacity in omega arith;
    })

pub returns-clause-spare : goal.returns-clause-spare
returns-clause-spare c =
    let got = rw c.deref.ensures.value at c.place_in-place.ensures in
    let r = one_row_changes c.self.invariant c.args.serial c.place_in-place.result got.0 got.1 c.drop_name_at.new.rows.items
    (without_name c.args.name.now) (λ a b. a.spare ≤ b.spare)
    (name_dropped c.args.name.now).names c.drop_name_at.ensures.rows in
    let w = r.was in let i = r.is in let h = r.holds in
    rw (← c.self.view_is) (omega arith)
