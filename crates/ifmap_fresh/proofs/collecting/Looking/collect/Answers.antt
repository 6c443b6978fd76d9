use Rattle.std.proofs.Common.{◌++◌, length, ap, ◌∙◌, sym, arith}
use Rattle.ifmap_lemmas.specs.Weights.{weight_more, weight_within}
use Rattle.ifmap_region.specs.Marks.{mark_of}
use Rattle.ifmap_fresh.specs.Collected.{items_of_number, numbers_of}
use Rattle.ifmap_fresh.specs.laws.AlongLaws.{brought_more}
use Rattle.ifmap_fresh.proofs.collecting.Looking.collect.Goals as goal

pub returns-in_err-add_brought-clause-steps : goal.returns-in_err-add_brought-clause-steps
returns-in_err-add_brought-clause-steps g c =
    omega (
      arith,
      c.in_err-add_brought.ensures.steps,
      c.loop-i.invariant.1,
      weight_within (λ v. length (g.V.View.links c.args.self.now.links.view.now v))
          (numbers_of c.args.self.now.region.marks.entries) c.loop-i.i c.number_at.result c.number_at.ensures,
    )

pub loop-i-preserved : goal.loop-i-preserved
loop-i-preserved g c =
    let view = c.args.self.now.links.view.now
    in let numbers = numbers_of c.args.self.now.region.marks.entries
    in let f = items_of_number (g.V.View.rows view) (g.V.View.id_at view) (g.V.View.links view) c.args.self.now.links.search.now
    (mark_of c.args.self.now.region.marks.entries)
    in (
      c.in_ok-add_brought.ensures.items ∙ ap (λ l. l ++ f c.number_at.result) c.loop-i.invariant.0
          ∙ sym (brought_more f numbers c.loop-i.i c.number_at.result c.number_at.ensures),
      omega (
        arith,
        c.in_ok-add_brought.ensures.steps,
        c.loop-i.invariant.1,
        weight_more (λ v. length (g.V.View.links view v)) numbers c.loop-i.i c.number_at.result c.number_at.ensures,
      ),
    )
