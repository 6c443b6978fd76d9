use Rattle.std.proofs.Common.{ℕ, ◌≤◌, subst, sym}
use Rattle.std.specs.Prelude.{Option}
use Rattle.ifmap_io.specs.Doors.{Hands, seen_in}
use Rattle.ifmap_io.specs.Links.{wire_link_seen}
use Rattle.ifmap_serving.specs.Works.{door_seen}
use Rattle.ifmap_serving.proofs.Leading.{stays_open}
use Rattle.ifmap_serving.proofs.Succession.{ends_empty, ends_failed, works_first, works_more, works_still}
use Rattle.ifmap_serving.proofs.working.work.Goals as goal

pub loop-init : goal.loop-init
loop-init g c = works_first _ _ _

pub returns-in_default-clause-works : goal.returns-in_default-clause-works
returns-in_default-clause-works g c =
    works_still _ _ _ _ _ _ c.loop.invariant c.in_default.ensures.links c.accept.ensures.told c.accept.ensures.cause.later

pub returns-in_default-clause-ends : goal.returns-in_default-clause-ends
returns-in_default-clause-ends g c = ends_failed _ _ _ _ _ _ c.loop.invariant c.in_default.ensures.cause.failed

pub returns-in_default-next-clause-works : goal.returns-in_default-next-clause-works
returns-in_default-next-clause-works g c =
    works_still _ _ _ _ _ _ c.loop.invariant
    (stays_open _ _
    (subst (λ (o : Option g.row.D-Wire.Denot). Hands (g.D.Door.links c.loop.door) (g.D.Door.links c.accept.new.self)
    (seen_in (wire_link_seen g.D.Wire.Source.left g.D.Wire.Sink.held g.D.Wire.Source.faults g.D.Wire.Sink.faults) o)) c.in_default-next.is
    c.in-Ok.ensures.links))
    c.accept.ensures.told c.accept.ensures.cause.later

pub returns-in_default-next-clause-ends : goal.returns-in_default-next-clause-ends
returns-in_default-next-clause-ends g c =
    ends_empty (door_seen g.D.Door.links g.D.Door.faults c.args.door.now) (door_seen g.D.Door.links g.D.Door.faults c.accept.new.self) _
    (subst (λ (o : Option g.row.D-Wire.Denot). Hands (g.D.Door.links c.loop.door) (g.D.Door.links c.accept.new.self)
    (seen_in (wire_link_seen g.D.Wire.Source.left g.D.Wire.Sink.held g.D.Wire.Source.faults g.D.Wire.Sink.faults) o)) c.in_default-next.is
    c.in-Ok.ensures.links)
    c.accept.ensures.told

pub loop-preserved : goal.loop-preserved
loop-preserved g c =
    let later : g.D.Door.faults c.loop.door ≤ g.D.Door.faults c.ended.new.self =
    subst (λ (n : ℕ). g.D.Door.faults c.loop.door ≤ n) (sym c.ended.ensures.faults) c.accept.ensures.cause.later in
    works_more _ _ _ _ _ _ _ _ _ c.loop.invariant c.serve_link-link.ensures (record {
      between = g.D.Door.links c.accept.new.self;
      hands = subst (λ (o : Option g.row.D-Wire.Denot). Hands (g.D.Door.links c.loop.door) (g.D.Door.links c.accept.new.self)
          (seen_in (wire_link_seen g.D.Wire.Source.left g.D.Wire.Sink.held g.D.Wire.Source.faults g.D.Wire.Sink.faults) o))
          c.in-Some-next.is
          c.in-Ok.ensures.links;
      told = c.accept.ensures.told;
      takes = c.ended.ensures.links;
      still = c.ended.ensures.told;
      later = later;
    })
