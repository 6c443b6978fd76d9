use Rattle.std.proofs.Common.{rules, ◌≡◌}
use Rattle.std.proofs.lemmas.Fn.{always_returns_same}
use Rattle.ifmap_meta.specs.declared.stored.Stored.{Stored}
use Rattle.ifmap_view.specs.Attachments.{stored_order}
use Rattle.ifmap_plans.specs.laws.KeyLaws.{stored_total}
use Rattle.ifmap_plans.specs.laws.PlacingLaws.{spot}
use Rattle.ifmap_plans.proofs.lists.place_of.Goals as goal

pub returns : goal.returns
returns c =
    spot Stored stored_order stored_total c.args.row.now c.args.rows.now _ c.requires c.binary_search_by.ensures.bound
    (c.binary_search_by.ensures.position (λ b. stored_order b c.args.row.now)
    (always_returns_same _ (λ b r. r ≡ stored_order b.0.now c.args.row.now) _ (λ b r f k. search rules)))
