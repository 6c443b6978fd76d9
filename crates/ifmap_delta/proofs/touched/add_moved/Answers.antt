use Rattle.std.proofs.Common.{ℕ, ◌++◌, ap, ◌∙◌, sym, arith, append_assoc, flat_map, take}
use Rattle.ifmap_fresh.specs.Collected.{numbers_of}
use Rattle.ifmap_lemmas.specs.Weights.{weight_more, weight_within}
use Rattle.ifmap_region.specs.Marks.{mark_of, mark_over}
use Rattle.ifmap_delta.specs.SeenViews.{view_seen}
use Rattle.ifmap_delta.specs.Touched.{brought_items, looked_along}
use Rattle.ifmap_fresh.specs.laws.AlongLaws.{brought_more}
use Rattle.ifmap_delta.proofs.touched.add_moved.Goals as goal

pub returns-in_err-add_brought-clause-steps : goal.returns-in_err-add_brought-clause-steps
returns-in_err-add_brought-clause-steps g c =
    let side = c.args.side.now
    in let new = view_seen g.D.View.rows g.D.View.id_at g.D.View.links side.view.now
    in let mark = mark_of side.marks.now.marks.entries
    in let patch = c.args.patch.now
    in omega (
      arith,
      c.in_err-add_brought.ensures.steps,
      c.loop-i.invariant.1,
      weight_within (λ v. looked_along new side.search.now v (mark v) (mark_over patch mark v)) (numbers_of patch) c.loop-i.i
          c.number_at.result c.number_at.ensures,
    )

pub loop-i-preserved : goal.loop-i-preserved
loop-i-preserved g c =
    let side = c.args.side.now
    in let new = view_seen g.D.View.rows g.D.View.id_at g.D.View.links side.view.now
    in let mark = mark_of side.marks.now.marks.entries
    in let patch = c.args.patch.now
    in let numbers = numbers_of patch
    in let f = λ (v : ℕ). brought_items new side.search.now v (mark v) (mark_over patch mark v)
    in (
      c.in_ok-add_brought.ensures.items ∙ ap (λ l. l ++ f c.number_at.result) c.loop-i.invariant.0
          ∙ append_assoc c.args.items.now.items (flat_map f (take c.loop-i.i numbers)) (f c.number_at.result)
          ∙ sym (ap (λ l. c.args.items.now.items ++ l) (brought_more f numbers c.loop-i.i c.number_at.result c.number_at.ensures)),
      omega (
        arith,
        c.in_ok-add_brought.ensures.steps,
        c.loop-i.invariant.1,
        weight_more (λ v. looked_along new side.search.now v (mark v) (mark_over patch mark v)) numbers c.loop-i.i c.number_at.result
            c.number_at.ensures,
      ),
    )
