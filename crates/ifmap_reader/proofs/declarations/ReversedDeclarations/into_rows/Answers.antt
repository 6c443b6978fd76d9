use Rattle.std.proofs.Common.{[], ◌++◌, ◌∙◌, ap, map}
use Rattle.ifmap_reader.specs.ReversedPaths.{lengthen, reverse_path}
use Rattle.ifmap_reader.proofs.ReversedLaws.{whole_rows}
use Rattle.ifmap_reader.proofs.declarations.ReversedDeclarations.into_rows.Goals as goal

pub returns : goal.returns
returns c =
    ap (map (reverse_path [])) (c.in_ok-push_rows.ensures
    ∙ (λ i. c.in_ok-made.ensures.items i ++ map (lengthen (c.deref.ensures.value i)) c.self.inside.rows.items))
    ∙ whole_rows c.self.inside.above.items c.self.inside.rows.items ∙ c.self.view_is
