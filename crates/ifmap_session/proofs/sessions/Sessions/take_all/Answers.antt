use Rattle.std.proofs.Common.{◌≡◌, refl, ◌∙◌, sym, ap, arith}
use Rattle.ifmap_session.specs.Sessions.{Session, without_items}
use Rattle.ifmap_session.proofs.KeptLaws.{Rewritten, kept_queue, one_row_changes, queue_emptied}
use Rattle.ifmap_session.proofs.sessions.Sessions.take_all.Goals.{After-take_all_at}
use Rattle.ifmap_session.proofs.sessions.Sessions.take_all.Goals as goal

pub take_all_at-requires : goal.take_all_at-requires
take_all_at-requires c =
    let got = rw c.deref.ensures.value at c.place_in-place.ensures in
    (c.args.serial, (got.0, got.1, tt))

pub invariant_of-self : goal.invariant_of-self
invariant_of-self c =
    let got = rw c.deref.ensures.value at c.place_in-place.ensures in
    kept_queue c.self.invariant c.args.serial c.place_in-place.result got.0 got.1 c.take_all_at.new.rows.items (without_items)
    (λ a b. (b.spare ≡ 0) × (c.take_all_at.result ≡ a.session.queue)) queue_emptied c.take_all_at.ensures.rows

-- the session before and after its items were taken
session_rewritten : (c : After-take_all_at) → Rewritten c.self.inside.counter c.args.serial without_items
    (λ a b. (b.spare ≡ 0) × (c.take_all_at.result ≡ a.session.queue)) c.self.inside.rows.items c.take_all_at.new.rows.items
    c.self.inside.holders.items
session_rewritten c =
    let got = rw c.deref.ensures.value at c.place_in-place.ensures in
    one_row_changes c.self.invariant c.args.serial c.place_in-place.result got.0 got.1 c.take_all_at.new.rows.items without_items
    (λ a b. (b.spare ≡ 0) × (c.take_all_at.result ≡ a.session.queue)) queue_emptied.names c.take_all_at.ensures.rows

pub returns-clause-changes : goal.returns-clause-changes
returns-clause-changes c =
    let r = session_rewritten (goal.at.returns-clause-changes c).After-take_all_at in
    rw (← c.self.view_is) (record {
      live = r.live;
      counter = refl;
      others = r.others;
      room = let l = c.take_all_at.ensures.len in let k = c.take_all_at.ensures.capacity in omega arith;
    })

pub returns-clause-items : goal.returns-clause-items
returns-clause-items c = λ s is.
    let r = session_rewritten (goal.at.returns-clause-items c).After-take_all_at in
    let same : r.before.session ≡ s = cc (sym r.there ∙ (rw (← c.self.view_is) at is)) in
    r.holds.1 ∙ ap (λ (t : Session). t.queue) same

pub returns-clause-spare : goal.returns-clause-spare
returns-clause-spare c =
    let r = session_rewritten (goal.at.returns-clause-spare c).After-take_all_at in
    r.is ∙ r.holds.0
