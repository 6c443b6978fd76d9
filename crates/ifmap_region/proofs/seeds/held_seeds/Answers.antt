use Rattle.std.proofs.Common.{◌≡◌, ◌+◌, false, [], ◌∷◌, ◌++◌, sym, ◌∙◌, take, get_or, true≢false}
use Rattle.std.proofs.lemmas.List.{take_more}
use Rattle.ifmap_region.specs.declared.flips.Flip.{Flip}
use Rattle.ifmap_region.specs.Marks.{mark_of, mark_over}
use Rattle.ifmap_region.specs.Seeds.{MayHold}
use Rattle.ifmap_region.proofs.FlipLists.{seeds_other, seeds_more}
use Rattle.ifmap_region.proofs.seeds.held_seeds.Goals as goal
use Rattle.ifmap_region.proofs.seeds.held_seeds.Goals.{then-not-flip+in_ok-offer+in_ok-offer-2, else-not-flip}

pub loop-flip-preserved : goal.loop-flip-preserved
loop-flip-preserved g c =
    let before = take c.loop-flip.flip-index c.args.flips.now in
    let f : Flip = get_or c.args.flips.now c.loop-flip.flip-index (record { a = 0; b = 0; added = false }) in
    let more : take (c.loop-flip.flip-index + 1) c.args.flips.now ≡ before ++ f ∷ [] =
    take_more c.args.flips.now c.loop-flip.flip-index (record { a = 0; b = 0; added = false }) c.loop-flip-test.true in
    let gives = MayHold (g.G.LinkSource.seen c.args.basis.now.graph.now).terminal c.args.basis.now.top
    (mark_over c.args.rows.now.entries (mark_of c.args.basis.now.base.now.entries)) in
    elim c.if-not-flip.branch [
      | then-not-flip+in_ok-offer+in_ok-offer-2 w ↦ rw w.seeds-is (rw more (seeds_more before f false gives w.held_mark-at_b.result
          w.held_mark-at_a.result
          c.loop-flip.seeds.items w.offer.new.seeds.items w.offer-then-not-flip.new.seeds.items w.if-not-flip.true
          w.in_ok-offer.ensures w.held_mark-at_b.ensures.only w.held_mark-at_b.ensures.each
          w.in_ok-offer-2.ensures w.held_mark-at_a.ensures.only w.held_mark-at_a.ensures.each c.loop-flip.invariant))
      | else-not-flip w ↦ rw w.seeds-is (rw more (seeds_other before f false gives c.loop-flip.seeds.items (λ e. true≢false (sym
          w.if-not-flip.false ∙ e)) c.loop-flip.invariant))
    ]
