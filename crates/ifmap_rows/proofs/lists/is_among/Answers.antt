use Rattle.std.proofs.Common.{◌∙◌}
use Rattle.ifmap_meta.specs.declared.stored.Stored.{Stored}
use Rattle.ifmap_plans.specs.laws.KeyLaws.{stored_total}
use Rattle.ifmap_plans.specs.laws.PlacingLaws.{spot_found}
use Rattle.ifmap_plans.specs.ifmap_view.Attachments.{stored_order}
use Rattle.ifmap_rows.proofs.lists.is_among.Goals as goal

pub returns : goal.returns
returns c =
    c.is_ok.ensures.value
    ∙ spot_found Stored stored_order stored_total c.args.row.now c.args.rows.now c.place_of.result c.place_of.ensures
