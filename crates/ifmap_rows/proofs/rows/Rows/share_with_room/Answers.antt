use Rattle.std.proofs.Common.{◌∙◌}
use Rattle.ifmap_rows.proofs.Stepping.{none_rise, nothing_out}
use Rattle.ifmap_rows.proofs.rows.Rows.share_with_room.Goals as goal

pub share_others-requires : goal.share_others-requires
share_others-requires c = none_rise

pub returns : goal.returns
returns c = c.in_ok-rows.ensures ∙ nothing_out c.args.self.now
