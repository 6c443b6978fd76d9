use Rattle.std.proofs.Common.{refl, sym, ◌∙◌, subst, ◌≤◌, arith}
use Rattle.std.specs.Result.{OnOk}
use Rattle.ifmap_session.specs.Rows.{live_in}
use Rattle.ifmap_session.proofs.KeptLaws.{Rewritten, change_none, kept_queue, one_row_changes, queue_stays}
use Rattle.ifmap_session.proofs.sessions.Sessions.queue_room.Goals.{After-reserve_at}
use Rattle.ifmap_session.proofs.sessions.Sessions.queue_room.Goals as goal

pub reserve_at-requires : goal.reserve_at-requires
reserve_at-requires c =
    let got = rw c.deref.ensures.value at c.place_in-place.ensures in
    (c.args.serial, (got.0, got.1, tt))

pub invariant_of-self : goal.invariant_of-self
invariant_of-self c =
    let got = rw c.deref.ensures.value at c.place_in-place.ensures in
    kept_queue c.self.invariant c.args.serial c.place_in-place.result got.0 got.1 c.reserve_at.new.rows.items (λ s. s)
    (λ a b. (a.spare ≤ b.spare) × OnOk c.reserve_at.result (c.args.n ≤ b.spare)) queue_stays c.reserve_at.ensures.rows

-- the session before and after room was made
made_room : (c : After-reserve_at) → Rewritten c.self.inside.counter c.args.serial (λ s. s)
    (λ a b. (a.spare ≤ b.spare) × OnOk c.reserve_at.result (c.args.n ≤ b.spare)) c.self.inside.rows.items c.reserve_at.new.rows.items
    c.self.inside.holders.items
made_room c =
    let got = rw c.deref.ensures.value at c.place_in-place.ensures in
    one_row_changes c.self.invariant c.args.serial c.place_in-place.result got.0 got.1 c.reserve_at.new.rows.items (λ s. s)
    (λ a b. (a.spare ≤ b.spare) × OnOk c.reserve_at.result (c.args.n ≤ b.spare)) queue_stays.names c.reserve_at.ensures.rows

pub returns-clause-changes : goal.returns-clause-changes
returns-clause-changes c =
    let r = made_room (goal.at.returns-clause-changes c).After-reserve_at in
    rw (← c.self.view_is) (record {
      live = r.live ∙ change_none c.args.serial (live_in c.self.inside.rows.items);
      counter = refl;
      others = r.others;
      room = let l = c.reserve_at.ensures.len in let k = c.reserve_at.ensures.capacity in omega arith;
    })

pub returns-clause-ok : goal.returns-clause-ok
returns-clause-ok c =
    let r = made_room (goal.at.returns-clause-ok c).After-reserve_at in
    subst (λ m. OnOk c.reserve_at.result (c.args.n ≤ m)) (sym r.is) r.holds.1

pub returns-clause-spare : goal.returns-clause-spare
returns-clause-spare c =
    let r = made_room (goal.at.returns-clause-spare c).After-reserve_at in
    let w = r.was in let i = r.is in let h = r.holds.0 in
    rw (← c.self.view_is) (omega arith)
