use Rattle.std.proofs.Common.{◌∙◌}
use Rattle.ifmap_changes.proofs.Flagging.{among}
use Rattle.ifmap_changes.proofs.changes.is_among.Goals as goal

pub returns : goal.returns
returns c =
    c.is_ok.ensures.value
    ∙ among c.args.serial c.args.serials.now _ c.requires c.binary_search.ensures.bound c.binary_search.ensures.position
