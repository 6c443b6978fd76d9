use Rattle.std.proofs.Common.{◌≡◌, ◌≤◌, Bool, List, sym, ◌∙◌, ap, subst, map, length, arith}
use Rattle.ifmap_subscribes.specs.ifmap_changes.Between.{Asking, state_now}
use Rattle.ifmap_core.proofs.Finishing.{can_apply, can_tell_rest, finish_answers, would_be}
use Rattle.ifmap_core.proofs.completions.finish.Goals as goal
use Rattle.ifmap_core.proofs.completions.finish.Goals.{After-remove_gone}
use Rattle.ifmap_core.specs.Completions.{starts_in}
use Rattle.ifmap_session.specs.Sessions.{IsLive, SessionTable, spare_of, without_sessions}
use Rattle.ifmap_subscribes.specs.ifmap_standing.Standing.{standing_of}
use Rattle.ifmap_subscribes.specs.ifmap_tellings.Tellings.{kept_items, tell_by}

-- the sessions are left that have not expired
live_after_expiry : (c : After-remove_gone)
    → c.end_expired.new.sessions.live ≡ without_sessions c.args.asking.now.ended c.args.parts.now.sessions.live
live_after_expiry c =
    c.end_expired.ensures.live ∙ ap (λ (a : Asking). without_sessions a.ended c.args.parts.now.sessions.live) c.asking.view_is

-- they are told what was pending
live : (c : After-remove_gone) → c.remove_gone.new.parts.sessions.live
    ≡ map (tell_by c.args.pending.tellings) (without_sessions c.args.asking.now.ended c.args.parts.now.sessions.live)
live c =
    ap (λ (t : SessionTable). t.live) c.remove_gone.ensures.sessions ∙ c.tell_sessions.ensures.live
    ∙ ap (map (tell_by c.args.pending.tellings)) (live_after_expiry c)

counter : (c : After-remove_gone) → c.remove_gone.new.parts.sessions.counter ≡ c.args.parts.now.sessions.counter
counter c =
    ap (λ (t : SessionTable). t.counter) c.remove_gone.ensures.sessions ∙ c.tell_sessions.ensures.counter ∙ c.end_expired.ensures.counter

-- the subscriptions stand that are not gone
standing : (c : After-remove_gone)
    → c.remove_gone.new.parts.standing.items ≡ kept_items c.args.pending.gone.items c.args.parts.now.standing.items
standing c =
    c.remove_gone.ensures.standing ∙ ap (λ (g : List Bool). kept_items g c.args.parts.now.standing.items) c.deref.ensures.value

pub tell_sessions-requires : goal.tell_sessions-requires
tell_sessions-requires c =
    let mid = c.end_expired.ensures.live
    ∙ ap (λ (a : Asking). without_sessions a.ended c.args.parts.now.sessions.live) c.asking.view_is in
    can_tell_rest c.args.pending.tellings c.args.asking.now c.args.parts.now.sessions c.end_expired.new.sessions mid
    c.end_expired.ensures.spare c.requires.ready.can_tell

pub remove_gone-requires : goal.remove_gone-requires
remove_gone-requires c = record {
  flags = ap (λ (g : List Bool). length g) c.deref.ensures.value ∙ c.requires.ready.flags;
  steady = (starts_in c.args.completion, c.requires.steady);
}

pub apply_completion-requires : goal.apply_completion-requires
apply_completion-requires c =
    let place = (goal.at.apply_completion-requires c).After-remove_gone in
    let old = c.args.parts.now in
    let new = c.remove_gone.new.parts in
    let steady = c.remove_gone.ensures.steady (starts_in c.args.completion) c.requires.steady in
    let room : old.sessions.room ≤ new.sessions.room =
    (let same = ap (λ (t : SessionTable). t.room) c.remove_gone.ensures.sessions in
    let first = c.end_expired.ensures.room in
    let then_told = c.tell_sessions.ensures.room in omega (arith, same, first, then_told)) in
    record {
      can = can_apply c.args.asking.now old new c.args.pending c.requires.ready (live place) (standing place) c.remove_gone.ensures.kept
          (counter place) room
          (λ n l. let there = subst (IsLive n) (sym (live_after_expiry place)) l in
          let first = c.end_expired.ensures.spare n there in
          let then_told = c.tell_sessions.ensures.spare n in
          let same = ap (λ (t : SessionTable). spare_of n t.spare) c.remove_gone.ensures.sessions in omega (arith, first, then_told, same))
          c.remove_gone.ensures.len c.remove_gone.ensures.capacity c.args.completion c.requires.can steady;
      parts = would_be c.args.asking.now old new c.args.pending c.requires.ready (live place) (standing place)
          c.remove_gone.ensures.kept (starts_in c.args.completion) steady;
    }

pub returns-clause-answer : goal.returns-clause-answer
returns-clause-answer c =
    let place = (goal.at.returns-clause-answer c).After-remove_gone in
    let old = c.args.parts.now in
    finish_answers c.args.asking.now old c.apply_completion.new.parts c.args.pending c.args.completion c.apply_completion.result
    (c.apply_completion.ensures.rows ∙ c.remove_gone.ensures.rows)
    (c.apply_completion.ensures.answer (state_now c.args.asking.now old c.args.pending)
    (sym (ap (λ (a : Asking). a.moment) c.asking.view_is)) (sym (live place))
    (sym (counter place)) (sym (ap (map standing_of) (standing place))))

pub returns-clause-lean : goal.returns-clause-lean
returns-clause-lean c = λ rest l. c.apply_completion.ensures.lean rest (c.remove_gone.ensures.lean rest l)
