use Rattle.std.proofs.Common.{◌≡◌, ◌+◌, true, false, [], ◌∷◌, ◌++◌, sym, ◌∙◌, take, get_or, true≢false}
use Rattle.std.proofs.lemmas.List.{take_more}
use Rattle.ifmap_region.specs.declared.flips.Flip.{Flip}
use Rattle.ifmap_region.specs.Marks.{mark_of, mark_over}
use Rattle.ifmap_region.specs.Seeds.{Lowers}
use Rattle.ifmap_region.proofs.FlipLists.{seeds_other, seeds_more}
use Rattle.ifmap_region.proofs.seeds.lowered_seeds.Goals as goal
use Rattle.ifmap_region.proofs.seeds.lowered_seeds.Goals.{then-flip+in_ok-offer+in_ok-offer-2, else-flip}

pub loop-flip-preserved : goal.loop-flip-preserved
loop-flip-preserved g c =
    let before = take c.loop-flip.flip-index c.args.flips.now in
    let f : Flip = get_or c.args.flips.now c.loop-flip.flip-index (record { a = 0; b = 0; added = false }) in
    let more : take (c.loop-flip.flip-index + 1) c.args.flips.now ≡ before ++ f ∷ [] =
    take_more c.args.flips.now c.loop-flip.flip-index (record { a = 0; b = 0; added = false }) c.loop-flip-test.true in
    let gives = Lowers (g.G.LinkSource.seen c.args.basis.now.graph.now).terminal c.args.basis.now.top
    (mark_over c.args.rows.now.entries (mark_of c.args.basis.now.base.now.entries)) in
    elim c.if-flip.branch [
      | then-flip+in_ok-offer+in_ok-offer-2 w ↦ rw w.seeds-is (rw more (seeds_more before f true gives w.lowered_level-at_b.result
          w.lowered_level-at_a.result
          c.loop-flip.seeds.items w.offer.new.seeds.items w.offer-then-flip.new.seeds.items w.if-flip.true
          w.in_ok-offer.ensures w.lowered_level-at_b.ensures.only w.lowered_level-at_b.ensures.each
          w.in_ok-offer-2.ensures w.lowered_level-at_a.ensures.only w.lowered_level-at_a.ensures.each c.loop-flip.invariant))
      | else-flip w ↦ rw w.seeds-is (rw more (seeds_other before f true gives c.loop-flip.seeds.items (λ e. true≢false (sym e ∙
          w.if-flip.false)) c.loop-flip.invariant))
    ]
