use Rattle.std.proofs.Common.{ap, ◌∙◌, sym}
use Rattle.ifmap_folds.specs.Folds.{fold_item}
use Rattle.ifmap_client.specs.Keeping.{kept_sets, sets_of}
use Rattle.ifmap_client.proofs.Following.{error_folds}
use Rattle.ifmap_client.proofs.client_sets.ClientSets.take.Goals as goal

pub returns-in-Delete-clause-folded : goal.returns-in-Delete-clause-folded
returns-in-Delete-clause-folded c =
    c.remove_entries.ensures
    ∙ ap (λ i. fold_item i (kept_sets c.self.inside.sets)) (sym c.in-Delete.is)
    ∙ ap (λ k. fold_item c.args.item.now (sets_of k)) c.self.view_is

pub returns-in-Error-clause-folded : goal.returns-in-Error-clause-folded
returns-in-Error-clause-folded c =
    c.end_sets.ensures
    ∙ error_folds _ _ _ (kept_sets c.self.inside.sets)
    ∙ ap (λ i. fold_item i (kept_sets c.self.inside.sets)) (sym c.in-Error.is)
    ∙ ap (λ k. fold_item c.args.item.now (sets_of k)) c.self.view_is
