use Rattle.std.proofs.Common.{ℕ, IfOk, length, arith}
use Rattle.std.proofs.lemmas.Result.{IfOk-weaker}
use Rattle.std.proofs.lemmas.List.Elements.{All-contains_itself, All-weaker}
use Rattle.std.specs.List.{Contains}
use Rattle.ifmap_lemmas.specs.Having.{Has, has_from}
use Rattle.ifmap_region.specs.Bounds.{IsWithin, within_both, within_more}
use Rattle.ifmap_region.specs.Marks.{mark_of}
use Rattle.ifmap_fresh.specs.Collected.{numbers_of}
use Rattle.ifmap_fresh.specs.Linking.{IsReachedAt}
use Rattle.ifmap_fresh.proofs.Collected.{AreCollected, all_collected}
use Rattle.ifmap_fresh.proofs.Marks.{mark_has_number, number_has_mark}
use Rattle.ifmap_fresh.proofs.Meaning.{mark_walk, reached_is, steps_are}
use Rattle.ifmap_fresh.proofs.finding.items_from.Given as given
use Rattle.ifmap_fresh.proofs.finding.items_from.Goals as goal
use Rattle.ifmap_fresh.proofs.finding.items_from.Goals.{After-build, After-collect}

-- the steps of the walks, whether there is memory or not
walk_steps_within : (g : given.Over) (c : After-build g)
    → IsWithin (λ v. length (g.V.View.links c.args.view.now v))
    (IsReachedAt (g.V.View.rows c.args.view.now) (g.V.View.id_at c.args.view.now) c.args.search.now) 1 c.args.steps.now c.build.new.steps
walk_steps_within g c =
    let view = c.args.view.now
    in steps_are (g.V.View.rows view) (g.V.View.id_at view) (g.V.View.links view) c.args.search.now c.requires.whole c.args.start
    c.requires.start
    1 c.args.steps.now c.build.new.steps c.build.ensures.steps

-- what is collected are the items that the search looks at
looked_at : (g : given.Over) (c : After-collect g)
    → IfOk c.collect.result (λ items. AreCollected (g.V.View.rows c.args.view.now) c.args.search.now items.items)
looked_at g c =
    let view = c.args.view.now
    in let es = c.in_ok-region.region.marks.entries
    in IfOk-weaker c.collect.result _ _
    (λ items e.
    all_collected c.bytes_tell_identifiers_apart.ensures (g.V.View.rows view) (g.V.View.id_at view)
    (g.V.View.links view) c.args.search.now c.requires.whole c.requires.identifier c.args.start c.requires.start
    (mark_of es) c.in_ok-region.ensures.depths (numbers_of es) (mark_has_number es) (number_has_mark es c.in_ok-region.ensures.rows)
    items.items e)
    c.collect.ensures.items

pub returns-in_err-region-clause-steps : goal.returns-in_err-region-clause-steps
returns-in_err-region-clause-steps g c =
    let view = c.args.view.now
    in within_more (λ v. length (g.V.View.links view v)) (IsReachedAt (g.V.View.rows view)
    (g.V.View.id_at view) c.args.search.now) 1 2 c.args.steps.now c.build.new.steps (omega arith)
    (walk_steps_within g (goal.at.returns-in_err-region-clause-steps g c).After-build)

pub returns-clause-there : goal.returns-clause-there
returns-clause-there g c =
    IfOk-weaker c.collect.result _ _ (λ items are. are.there) (looked_at g (goal.at.returns-clause-there g c).After-collect)

pub returns-clause-back : goal.returns-clause-back
returns-clause-back g c =
    IfOk-weaker c.collect.result _ _ (λ items are. are.back) (looked_at g (goal.at.returns-clause-back g c).After-collect)

pub returns-clause-steps : goal.returns-clause-steps
returns-clause-steps g c =
    let view = c.args.view.now
    in let es = c.in_ok-region.region.marks.entries
    in let weight : ℕ → ℕ = λ v. length (g.V.View.links view v)
    in let Among : ℕ → Type 0 = IsReachedAt (g.V.View.rows view) (g.V.View.id_at view) c.args.search.now
    in let reached : (v : ℕ) → Has (numbers_of es) v → Among v = λ v h.
    let m = number_has_mark es c.in_ok-region.ensures.rows v h
    in let w = mark_walk (g.V.View.rows view) (g.V.View.id_at view)
    (g.V.View.links view) c.args.search.now c.requires.whole c.args.start c.requires.start
    (mark_of es) c.in_ok-region.ensures.depths v m.0 m.1
    in reached_is (g.V.View.rows view) (g.V.View.id_at view)
    (g.V.View.links view) c.args.search.now c.requires.whole c.args.start c.requires.start v (m.0, w.0, w.1)
    in within_both weight Among 1 1 c.args.steps.now c.build.new.steps c.collect.new.steps
    (walk_steps_within g (goal.at.returns-clause-steps g c).After-build)
    (record {
      numbers = numbers_of es;
      distinct = c.collect.ensures.apart;
      among = All-weaker (Contains (numbers_of es)) Among (λ v k. reached v (has_from (numbers_of es) v k)) (numbers_of es)
          (All-contains_itself (numbers_of es));
      bound = omega (arith, c.collect.ensures.steps);
    })

pub returns-clause-canon : goal.returns-clause-canon
returns-clause-canon g c =
    IfOk-weaker c.collect.result _ _ (λ items are. are.canon) (looked_at g (goal.at.returns-clause-canon g c).After-collect)
