use Rattle.std.proofs.Common.{rules, ◌≡◌, ◌∙◌, ap, sym, subst}
use Rattle.std.proofs.lemmas.Fn.{always_returns_same}
use Rattle.std.specs.List.Sorted.{IsStrictlySortedBy}
use Rattle.std.specs.Ordering.{is_eq}
use Rattle.std.specs.declared.cmp.Ordering.TheVariants.{Equal}
use Rattle.ifmap_lemmas.specs.Having.{has_from}
use Rattle.ifmap_lemmas.specs.Inserted.{gap_none}
use Rattle.ifmap_meta.specs.declared.stored.Stored.{Stored}
use Rattle.ifmap_plans.specs.Placing.{put}
use Rattle.ifmap_plans.specs.laws.KeyLaws.{stored_total}
use Rattle.ifmap_plans.specs.laws.ListLaws.{rising_put}
use Rattle.ifmap_view.specs.Attachments.{stored_order}
use Rattle.ifmap_delta.proofs.Touching.{none_more, one_more}
use Rattle.ifmap_delta.proofs.differing.put_like.Goals as goal

pub returns-in_ok-put_row-in-Ok-clause-rising : goal.returns-in_ok-put_row-in-Ok-clause-rising
returns-in_ok-put_row-in-Ok-clause-rising c =
    subst (IsStrictlySortedBy stored_order) (sym c.in_ok-put_row-in-Ok.ensures)
    (rising_put c.in_ok-share-in-Ok.field-0 c.args.found.now.items c.requires.found)

pub returns-in_ok-put_row-in-Ok-clause-found : goal.returns-in_ok-put_row-in-Ok-clause-found
returns-in_ok-put_row-in-Ok-clause-found c these is =
    let rows = c.args.rows.now
    in let row = c.args.row.now
    in let found = c.args.found.now.items
    in let x : Stored = c.index-rows-place.result
    in let at = c.in-Ok.ensures.position (λ b. stored_order b row)
    (always_returns_same _ (λ b r. r ≡ stored_order b.0.now c.args.row.now) _ (λ b r f k. search rules)) x
    in let tie : stored_order x row ≡ Equal = subst (λ y. stored_order y row ≡ Equal) (sym c.index-rows-place.is) at
    in let shared : c.in_ok-share-in-Ok.field-0 ≡ x = search rules
    in c.in_ok-put_row-in-Ok.ensures ∙ ap (λ y. put stored_order y found) shared
    ∙ one_more rows these found row c.requires.rising c.requires.found is x
    (has_from rows x (c.in-Ok.place, c.in-Ok.ensures.bound, sym c.index-rows-place.is)) (ap is_eq tie)

pub returns-in-Err-clause-found : goal.returns-in-Err-clause-found
returns-in-Err-clause-found c these is =
    let rows = c.args.rows.now
    in let row = c.args.row.now
    in none_more rows these c.args.found.now.items row c.requires.rising c.requires.found is
    (gap_none Stored stored_order stored_total row rows c.in-Err.field-0 c.requires.rising c.in-Err.ensures.bound
    (c.in-Err.ensures.position (λ b. stored_order b row)
    (always_returns_same _ (λ b r. r ≡ stored_order b.0.now c.args.row.now) _ (λ b r f k. search rules))))
