use Rattle.std.proofs.Common.{rules, ◌≡◌, ◌∙◌, sym, subst}
use Rattle.std.proofs.lemmas.Fn.{always_returns_same}
use Rattle.std.specs.declared.cmp.Ordering.TheVariants.{Equal}
use Rattle.ifmap_filter.specs.Meets.{meets_optional}
use Rattle.ifmap_lemmas.specs.Having.{has_from}
use Rattle.ifmap_lemmas.specs.Inserted.{gap_none}
use Rattle.ifmap_lemmas.specs.Rising.{none_tied_passes, tied_decides}
use Rattle.ifmap_meta.specs.declared.stored.Stored.{Stored}
use Rattle.ifmap_plans.specs.laws.KeyLaws.{stored_total}
use Rattle.ifmap_view.specs.Attachments.{stored_order}
use Rattle.ifmap_delta.proofs.differing.has_met.Goals as goal

pub returns-in-Ok : goal.returns-in-Ok
returns-in-Ok c =
    let rows = c.args.rows.now
    in let row = c.args.row.now
    in let x : Stored = c.index-rows-place.result
    in let at = c.in-Ok.ensures.position (λ b. stored_order b row)
    (always_returns_same _ (λ b r. r ≡ stored_order b.0.now c.args.row.now) _ (λ b r f k. search rules)) x
    in let tie : stored_order x row ≡ Equal = subst (λ y. stored_order y row ≡ Equal) (sym c.index-rows-place.is) at
    in let meets : c.meets_optional.result ≡ meets_optional c.args.filter.now x.element = search rules
    in meets ∙ tied_decides stored_order stored_total (λ o. meets_optional c.args.filter.now o.element) rows row x c.requires
    (has_from rows x (c.in-Ok.place, c.in-Ok.ensures.bound, sym c.index-rows-place.is)) tie

pub returns-in-Err : goal.returns-in-Err
returns-in-Err c =
    let rows = c.args.rows.now
    in let row = c.args.row.now
    in none_tied_passes stored_order stored_total (λ o. meets_optional c.args.filter.now o.element) rows row
    (gap_none Stored stored_order stored_total row rows c.in-Err.field-0 c.requires c.in-Err.ensures.bound
    (c.in-Err.ensures.position (λ b. stored_order b row)
    (always_returns_same _ (λ b r. r ≡ stored_order b.0.now c.args.row.now) _ (λ b r f k. search rules))))
