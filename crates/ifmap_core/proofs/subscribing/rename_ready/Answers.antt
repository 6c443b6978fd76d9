use Rattle.std.proofs.Common.{◌∙◌, subst, ℕ, ◌+◌, ◌≤◌}
use Rattle.std.specs.BTreeMap.{get}
use Rattle.std.specs.Ordering.{nat_cmp}
use Rattle.std.specs.Prelude.{vec_capacity, vec_len}
use Rattle.ifmap_session.specs.Sessions.{spare_of}
use Rattle.ifmap_subscribes.specs.ifmap_tellings.Tellings.{count_where}
use Rattle.ifmap_core.proofs.Subscribed.{leads_renamed, live_left, ready_room}
use Rattle.ifmap_core.proofs.LaterParts.{room_kept, stays_later, later_in_room}
use Rattle.ifmap_core.proofs.subscribing.rename_ready.Goals as goal

pub make_places-requires : goal.make_places-requires
make_places-requires c = live_left c.args.asking.now c.args.serial c.args.parts.now.sessions c.requires.ops.live

pub returns-in-Ok-clause-leads : goal.returns-in-Ok-clause-leads
returns-in-Ok-clause-leads c = λ s e.
    let p = c.make_places.ensures in
    leads_renamed c.args.asking.now c.args.parts.now c.args.pending.now c.args.serial c.args.readying c.is_table.ensures.rising
    c.requires.ops.readied c.make_places.new.parts p.graph p.sessions p.standing c.requires.ops.ready c.requires.ops.live c.requires.within
    (subst (λ (n : ℕ). vec_len c.make_places.new.parts.standing + n ≤ vec_capacity c.make_places.new.parts.standing)
    (c.len.ensures ∙ c.args.readying.made.ok.0)
    c.in-Ok.ensures.places)
    (subst (λ (n : ℕ). count_where (get nat_cmp c.args.pending.now.tellings c.args.serial) + n
    ≤ spare_of c.args.serial c.make_places.new.parts.sessions.spare) (c.len.ensures ∙ c.args.readying.made.ok.0) c.in-Ok.ensures.room) s e

pub returns-in-Ok-clause-change : goal.returns-in-Ok-clause-change
returns-in-Ok-clause-change c =
    let p = c.make_places.ensures in
    record {
      later = later_in_room c.args.parts.now c.args.parts.now c.make_places.new.parts (stays_later c.args.parts.now) p.graph p.standing
          p.sessions;
      kept = tt;
    }

pub let_go-requires-clause-steady : goal.let_go-requires-clause-steady
let_go-requires-clause-steady c =
    let p = c.make_places.ensures in rw (p.graph, p.standing) c.requires.ops.readied.stand.steady

pub let_go-requires-clause-ready : goal.let_go-requires-clause-ready
let_go-requires-clause-ready c =
    let p = c.make_places.ensures in
    ready_room c.args.asking.now c.args.parts.now c.make_places.new.parts c.args.pending.now p.graph p.sessions p.standing
    c.requires.ops.ready

pub returns-clause-change : goal.returns-clause-change
returns-clause-change c =
    let p = c.make_places.ensures in
    record {
      later = tt;
      kept = room_kept c.args.parts.now c.make_places.new.parts c.let_go.new.parts p.graph p.standing p.sessions c.let_go.ensures.kept;
    }
