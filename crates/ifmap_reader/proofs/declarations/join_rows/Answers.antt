use Rattle.std.proofs.Common.{[], ◌++◌, ◌∙◌, ap, map}
use Rattle.ifmap_reader.specs.ReversedPaths.{lengthen, reverse_path}
use Rattle.ifmap_reader.proofs.ReversedLaws.{rows_after}
use Rattle.ifmap_reader.proofs.declarations.join_rows.Goals as goal

pub returns : goal.returns
returns c =
    ap (λ above. map (reverse_path above) c.push_rows.new.rows.items) c.new-above.ensures.items
    ∙ ap (map (reverse_path [])) (c.in_ok-push_rows.ensures
    ∙ ap (λ above. c.args.rows.items ++ map (lengthen above) c.more.inside.rows.items) c.deref.ensures.value)
    ∙ rows_after c.args.rows.items c.more.inside.above.items c.more.inside.rows.items
    ∙ ap (λ ds. map (reverse_path []) c.args.rows.items ++ ds) c.more.view_is
