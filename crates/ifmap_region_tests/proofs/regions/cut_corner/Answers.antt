use Rattle.std.proofs.Common.{◌≡◌, ℕ, true, false, Bool, sym, ap, ◌∙◌, true≢false}
use Rattle.ifmap_lemmas.specs.Distinct.{contains_one}
use Rattle.ifmap_region.specs.declared.flips.Flip.{Flip}
use Rattle.ifmap_region_tests.proofs.GridLinks.{grid_symmetric}
use Rattle.ifmap_region_tests.proofs.regions.cut_corner.Goals as goal

pub repair-requires-clause-symmetric : goal.repair-requires-clause-symmetric
repair-requires-clause-symmetric g c = grid_symmetric true

pub repair-requires-clause-added : goal.repair-requires-clause-added
repair-requires-clause-added g c v w f =
    let e = contains_one _ f.0 f.1 in
    absurd (true≢false (sym f.2 ∙ ap (λ (x : Flip). x.added) (sym e) ∙ c.flip_out-first.ensures))
