use Rattle.std.proofs.Common.{◌≡◌, None, ◌∙◌, sym, ap, subst, ◌+◌, length, arith}
use Rattle.std.specs.List.{insert}
use Rattle.std.specs.Result.{IfErr}
use Rattle.ifmap_session.specs.declared.holders.Holder.{Holder}
use Rattle.ifmap_session.specs.Rows.{live_in}
use Rattle.ifmap_session.specs.Places.{IsPlaceFor, IsPlaceOf}
use Rattle.ifmap_session.specs.SessionIds.{session_id}
use Rattle.ifmap_session.specs.Sessions.{Session, is_same_text, session_of_client}
use Rattle.ifmap_session.specs.LastMoments.{SetsLastMoment}
use Rattle.ifmap_session.proofs.KeptLaws.{begun_own, moments_begun}
use Rattle.ifmap_session.proofs.RowLaws.{spare_begun}
use Rattle.ifmap_session.proofs.SessionLaws.{holders_begun, no_holder, place_is_err, rows_begun}
use Rattle.ifmap_session.proofs.sessions.Sessions.open.Goals as goal

pub unwrap_err-place-requires : goal.unwrap_err-place-requires
unwrap_err-place-requires c =
    let none = rw (← c.self.view_is, ← c.opening.view_is) at c.requires.none in
    place_is_err (λ h. is_same_text h.client c.opening.inside.client) c.deref.result.now c.place_of_client.result
    c.place_of_client.ensures.place
    (rw c.deref.ensures.value (no_holder c.self.inside.rows.items c.self.inside.holders.items c.opening.inside.client
    c.self.invariant.clients none))

pub invariant_of-self : goal.invariant_of-self
invariant_of-self c =
    let y = c.new-kept.result in
    let same = rw (← c.self.view_is, ← c.opening.view_is) at c.requires.prepared in
    let client = ap (λ (s : Session). s.client) c.new-kept.ensures in
    let serial = ap (λ (s : Session). s.serial) c.new-kept.ensures ∙ same in
    let none = rw (← c.self.view_is, ← c.opening.view_is) at c.requires.none in
    let none_of_its : session_of_client y.session.client (live_in c.self.inside.rows.items) ≡ None = rw client none in
    let small = rw (← c.self.view_is) at c.requires.counter in
    let few = rw (← c.self.view_is) at c.requires.few in
    let room = rw (← c.self.view_is) at c.requires.room in
    let id = ap (λ (s : Session). s.id) c.new-kept.ensures ∙ c.opening.invariant.named.1
    ∙ ap (λ n. session_id n c.opening.invariant.named.0) same in
    let place = subst (λ t. IsPlaceOf (λ (h : Holder). is_same_text h.client t) c.self.inside.holders.items c.place_of_client.result)
    (sym client) (rw c.deref.ensures.value at c.place_of_client.ensures.place) in
    let gap = subst (λ t. IfErr c.place_of_client.result (IsPlaceFor t c.self.inside.holders.items)) (sym client)
    (rw c.deref.ensures.value at c.place_of_client.ensures.gap) in
    let entry = rw (c.unwrap.ensures, c.opening.invariant.one_client) at c.insert.ensures.items in
    let entered = entry
    ∙ ap (λ m. insert c.self.inside.holders.items c.unwrap_err-place.result (record { client = c.opening.inside.client; serial = m })) same
    ∙ ap (λ k. insert c.self.inside.holders.items c.unwrap_err-place.result (record { client = k; serial = c.self.inside.counter + 1 }))
    (sym client) in
    let sets_moment : SetsLastMoment c.self.inside.width (length c.self.inside.rows.items) c.seconds.result c.self.inside.last_moments.items
    c.set_last_moment.new.tree.items =
    subst (λ p. SetsLastMoment c.self.inside.width p c.seconds.result c.self.inside.last_moments.items c.set_last_moment.new.tree.items)
    (let l = c.len.ensures in omega arith) c.set_last_moment.ensures in
    rw (c.push_reserved.ensures.items, same) (record {
      sessions = rows_begun c.self.inside.counter c.self.inside.rows.items y c.self.invariant.sessions small none_of_its few
          (begun_own (c.self.inside.counter + 1) c.opening.invariant.named.0 y serial id);
      clients = holders_begun (c.self.inside.counter + 1) c.self.inside.rows.items c.self.inside.holders.items c.insert.new.self.items y
          c.unwrap_err-place.result c.place_of_client.result c.self.invariant.clients none_of_its serial place gap
          c.unwrap_err-place.ensures entered;
      moments = moments_begun (c.self.inside.counter + 1) c.self.inside.rows.items c.self.inside.width c.seconds.result
          c.self.inside.last_moments.items c.set_last_moment.new.tree.items y c.self.invariant.moments (omega arith) sets_moment
          (ap (λ (s : Session). s.last) c.new-kept.ensures ∙ sym c.seconds.ensures.value);
    })

pub returns-clause-others : goal.returns-clause-others
returns-clause-others c = λ n apart.
    rw (c.push_reserved.ensures.items, ← c.self.view_is) (spare_begun c.self.inside.rows.items c.opening.inside.serial c.new-kept.result
    (ap (λ (s : Session). s.serial) c.new-kept.ensures) n (rw (← c.opening.view_is) at apart))
