-- After i events the drill is that of the definition.
use Rattle.std.proofs.Common.{◌≡◌, ◌+◌, ℕ, suc, ap, subst, sym, ◌∙◌, arith}
use Rattle.std.specs.List.{AllByRecursion}
use Rattle.ifmap_elem.specs.Chars.{IsCharacters}
use Rattle.ifmap_drill.specs.declared.drills.Drill.{Drill}
use Rattle.ifmap_drill.specs.Drills.{drilling_after}
use Rattle.ifmap_drill.specs.Following.{drill_of}
use Rattle.ifmap_drill.specs.Summaries.{summary_of}
use Rattle.ifmap_drill.proofs.running.count_from.Goals as goal

pub events-init : goal.events-init
events-init g c = c.new-drill.ensures

pub take_event-requires-clause-fit : goal.take_event-requires-clause-fit
take_event-requires-clause-fit g c =
    subst (λ (d : Drill). AllByRecursion IsCharacters d.ids) (sym c.events.invariant)
    (c.ids_are_characters.ensures c.args.key c.events.i)

pub events-preserved : goal.events-preserved
events-preserved g c =
    let one_more : suc c.events.i ≡ c.events.i + 1 = omega arith in
    subst (λ (n : ℕ). c.take_event.new.self ≡ drill_of (drilling_after c.args.key n)) one_more
    (c.in_ok-take_event.ensures (drilling_after c.args.key c.events.i) c.events.invariant)

pub returns : goal.returns
returns g c =
    let all : c.events.i ≡ c.args.count = (let test = c.events-test.false in let end = c.events.auto.i-end in omega arith) in
    c.summary.ensures (drilling_after c.args.key c.events.i) c.events.invariant
    ∙ ap (λ (n : ℕ). summary_of (drilling_after c.args.key n)) all
