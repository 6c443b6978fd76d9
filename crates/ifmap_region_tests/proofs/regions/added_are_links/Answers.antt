use Rattle.std.proofs.Common.{◌≡◌, ℕ, ◌+◌, true, List, [], ◌∷◌, ◌++◌, false, inl, inr, sym, subst, ◌∙◌, take, get_or, true≢false, length}
use Rattle.std.proofs.lemmas.List.{take_more}
use Rattle.ifmap_region.specs.declared.flips.Flip.{Flip}
use Rattle.ifmap_region.specs.Flips.{IsFlipped, flipped_cases}
use Rattle.ifmap_region.specs.Links.{Linked}
use Rattle.ifmap_region_tests.specs.Pairs.{far_end_at}
use Rattle.ifmap_region_tests.proofs.regions.added_are_links.Goals as goal
use Rattle.ifmap_region_tests.proofs.regions.added_are_links.Goals.{then-flip+else-not-has_link+else-not-has_link-2, else-flip}

pub loop-flip-preserved : goal.loop-flip-preserved
loop-flip-preserved c v w h =
    let before = take c.loop-flip.flip-index c.args.flips.now in
    let f : Flip = get_or c.args.flips.now c.loop-flip.flip-index (record { a = 0; b = 0; added = false }) in
    let more : take (c.loop-flip.flip-index + 1) c.args.flips.now ≡ before ++ f ∷ [] =
    take_more c.args.flips.now c.loop-flip.flip-index (record { a = 0; b = 0; added = false }) c.loop-flip-test.true in
    let links = Linked (λ _. length c.args.links.now) (far_end_at c.args.links.now) in
    elim (flipped_cases before f true v w (subst (λ (l : List Flip). IsFlipped l true v w) more h)) [
      | inl old ↦ c.loop-flip.invariant v w old
      | inr p ↦ elim c.if-flip.branch [
        | then-flip+else-not-has_link+else-not-has_link-2 s ↦ elim p.1 [
          | inl e ↦ subst (λ (y : ℕ). links v y) e.1 (subst (λ (x : ℕ). links x f.b) e.0 (s.has_link.ensures s.if-not-has_link.false))
          | inr e ↦ subst (λ (y : ℕ). links v y) e.0 (subst (λ (x : ℕ). links x f.a) e.1 (s.has_link-else-not-has_link.ensures
              s.if-not-has_link-2.false))
        ]
        | else-flip s ↦ absurd (true≢false (sym p.0 ∙ s.if-flip.false))
      ]
    ]
