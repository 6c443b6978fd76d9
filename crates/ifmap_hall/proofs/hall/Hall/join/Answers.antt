use Rattle.std.proofs.Common.{◌+◌, ◌≤◌, ◌∙◌, sym, subst, arith}
use Rattle.ifmap_hall.specs.SeatViews.{IsSoundSeat, all_parts, joint_seat}
use Rattle.ifmap_hall.specs.Sights.{CarriesOn}
use Rattle.ifmap_hall.specs.Views.{IsSoundView, sight_by}
use Rattle.ifmap_hall.proofs.Sighting.{joint_carries, joint_apart}
use Rattle.ifmap_hall.proofs.hall.Hall.join.Given as given
use Rattle.ifmap_hall.proofs.hall.Hall.join.Goals as goal
use Rattle.ifmap_hall.proofs.hall.Hall.join.Goals.{After-look_at_rest}

-- the seat that both became is sound
both_sound : (g : given.Over) (c : After-look_at_rest g) → IsSoundSeat (joint_seat c.args.into.now.seat.me.0 c.args.from.seat.me.0)
both_sound g c = subst (λ m. IsSoundSeat m.0) c.glue.ensures.both c.look_at_rest.ensures.sound

-- and what it has seen carries on what each of them had seen
both_carried : (g : given.Over) (c : After-look_at_rest g)
    → CarriesOn g.M.Machine.next (sight_by g.M.Machine.next c.args.into.now.seat.me.0.view)
    (sight_by g.M.Machine.next c.look_at_rest.new.seat.me.0.view)
    × CarriesOn g.M.Machine.next (sight_by g.M.Machine.next c.args.from.seat.me.0.view)
    (sight_by g.M.Machine.next c.look_at_rest.new.seat.me.0.view)
both_carried g c =
    let next = g.M.Machine.next in
    let s = c.args.into.now.seat.me.0 in
    let u = c.args.from.seat.me.0 in
    subst (λ m. CarriesOn next (sight_by next s.view) (sight_by next m.0.view) × CarriesOn next (sight_by next u.view)
    (sight_by next m.0.view))
    (sym (c.look_at_rest.ensures.same ∙ c.glue.ensures.both))
    (joint_carries next s u (c.requires.hall.0.terms ∙ sym c.requires.hall.1.terms) c.args.into.now.sound.inside
    c.args.from.sound.inside (both_sound g c))

pub returns-clause-carries_this : goal.returns-clause-carries_this
returns-clause-carries_this g c = (both_carried g (goal.at.returns-clause-carries_this g c).After-look_at_rest).0

pub returns-clause-carries_other : goal.returns-clause-carries_other
returns-clause-carries_other g c = (both_carried g (goal.at.returns-clause-carries_other g c).After-look_at_rest).1

pub returns-clause-apart : goal.returns-clause-apart
returns-clause-apart g c =
    joint_apart g.M.Machine.next c.args.into.now.seat.me.0 c.args.from.seat.me.0
    (both_sound g (goal.at.returns-clause-apart g c).After-look_at_rest)

pub returns-clause-sound : goal.returns-clause-sound
returns-clause-sound g c = subst (λ m. IsSoundView m.0.view) (sym c.look_at_rest.ensures.same) c.look_at_rest.ensures.sound.view

pub returns-clause-parts : goal.returns-clause-parts
returns-clause-parts g c =
    let s = c.args.into.now.seat.me.0 in
    let u = c.args.from.seat.me.0 in
    let fits : s.parts + u.parts ≤ all_parts = (both_sound g (goal.at.returns-clause-parts g c).After-look_at_rest).parts in
    let there = c.args.into.now.parts_there in
    let other = c.args.from.parts_there in
    omega arith
