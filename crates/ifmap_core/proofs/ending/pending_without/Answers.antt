use Rattle.std.proofs.Common.{◌≡◌, ◌∙◌, ap, ℕ, None, length, map}
use Rattle.std.specs.BTreeMap.{get}
use Rattle.std.specs.Ordering.{nat_cmp}
use Rattle.ifmap_subscribes.specs.ifmap_changes.Between.{Asking}
use Rattle.ifmap_core.proofs.Expiring.{begins_gone, begins_ready, begins_so_far, no_entry}
use Rattle.ifmap_core.proofs.ending.pending_without.Goals as goal
use Rattle.ifmap_core.proofs.ending.pending_without.Goals.{After-flag_sessions}
use Rattle.ifmap_subscribes.specs.ifmap_machine.Ending.{without_standing}
use Rattle.ifmap_subscribes.specs.ifmap_standing.Standing.{standing_of}
use Rattle.ifmap_subscribes.specs.ifmap_tellings.Tellings.{kept_items}

-- nothing is told yet
none : (c : After-flag_sessions) (n : ℕ) → get nat_cmp c.flag_sessions.new.pending.tellings n ≡ None
none c =
    no_entry c.flag_sessions.new.pending.tellings
    (ap (λ m. m.entries) c.flag_sessions.ensures.flags.tellings ∙ c.in_ok-pending.ensures.none)

-- the subscriptions of the sessions that have expired are gone
kept_without_ended : (c : After-flag_sessions)
    → map standing_of (kept_items c.flag_sessions.new.pending.gone.items c.args.parts.now.standing.items)
    ≡ without_standing c.args.asking.now.ended (map standing_of c.args.parts.now.standing.items)
kept_without_ended c =
    let first = c.in_ok-pending.ensures in
    begins_gone c.in_ok-pending.pending.gone.items c.flag_sessions.new.pending.gone.items _ c.args.asking.now.ended c.deref.result.now
    c.args.parts.now.standing.items c.deref.ensures.value (ap (λ (a : Asking). a.ended) c.asking.view_is) c.flag_sessions.ensures.flags.left
    first.gone (first.flags ∙ c.len.ensures ∙ c.args.parts.now.standing.ok.0)

pub returns-clause-ready : goal.returns-clause-ready
returns-clause-ready c =
    let place = (goal.at.returns-clause-ready c).After-flag_sessions in
    begins_ready c.args.asking.now c.args.parts.now c.flag_sessions.new.pending c.requires.parts c.requires.ended
    (none place) (kept_without_ended place)
    (c.flag_sessions.ensures.flags.flags ∙ ap length c.deref.ensures.value)

pub returns-clause-state_now : goal.returns-clause-state_now
returns-clause-state_now c =
    let place = (goal.at.returns-clause-state_now c).After-flag_sessions in
    begins_so_far c.args.asking.now c.args.parts.now c.flag_sessions.new.pending c.requires.parts c.requires.ended
    (none place) (kept_without_ended place)
