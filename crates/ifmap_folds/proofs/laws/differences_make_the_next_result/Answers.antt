use Rattle.std.proofs.Common.{◌≡◌, ap, ◌∙◌, sym, Bool, true, Option, Some, None, List, [], option_map, unwrap_or, cond}
use Rattle.ifmap_lemmas.specs.Texts.{eq_itself}
use Rattle.ifmap_fresh.specs.ifmap_search.declared.results.Entry.{Entry}
use Rattle.ifmap_folds.specs.Differences.{difference}
use Rattle.ifmap_folds.specs.Folds.{with_entries}
use Rattle.ifmap_folds.specs.laws.FoldingLaws.{next_made}
use Rattle.ifmap_folds.proofs.laws.differences_make_the_next_result.Goals as goal

pub returns : goal.returns
returns c = λ sets name a b is apart rises next.
    let less : Bool → Option (List Entry) → Option (List Entry) = λ t o. cond t (option_map (λ set. difference set (difference a b)) o) o
    in let made : Bool → Option (List Entry) → Option (List Entry)
    = λ t o. cond t (Some (with_entries (difference b a) (unwrap_or (less t o) []))) (less t o)
    in ap (λ t. made t (sets name)) (eq_itself name) ∙ ap (made true) is ∙ ap Some (next_made a b apart rises next)
