use Rattle.std.proofs.Common.{[], ◌∷◌, ◌++◌, refl, ap, ◌∙◌}
use Rattle.ifmap_region.proofs.Ready.{ready_begun, reached_spent}
use Rattle.ifmap_region.proofs.region.build.Goals as goal

pub returns-in_err-spread-clause-steps : goal.returns-in_err-spread-clause-steps
returns-in_err-spread-clause-steps g c =
    reached_spent _ _ c.args.start _ _ _ _ _ (c.spread.ensures.charged c.args.start
    (ready_begun _ _ c.args.start _ _ _ (λ v. rw (c.new-marks.ensures.empty, c.new-unmarked.ensures.empty) refl)
    (c.in_ok-push.ensures.items ∙ ap (λ l. l ++ (0, c.args.start) ∷ []) c.new-seeds.ensures.items)))

pub returns-clause-depths : goal.returns-clause-depths
returns-clause-depths g c =
    rw c.new-unmarked.ensures.empty at (c.in_ok-spread.ensures.depths c.args.start
    (ready_begun _ _ c.args.start _ _ _ (λ v. rw (c.new-marks.ensures.empty, c.new-unmarked.ensures.empty) refl)
    (c.in_ok-push.ensures.items ∙ ap (λ l. l ++ (0, c.args.start) ∷ []) c.new-seeds.ensures.items)))

pub returns-clause-steps : goal.returns-clause-steps
returns-clause-steps g c =
    reached_spent _ _ c.args.start _ _ _ _ _ (c.spread.ensures.charged c.args.start
    (ready_begun _ _ c.args.start _ _ _ (λ v. rw (c.new-marks.ensures.empty, c.new-unmarked.ensures.empty) refl)
    (c.in_ok-push.ensures.items ∙ ap (λ l. l ++ (0, c.args.start) ∷ []) c.new-seeds.ensures.items)))
