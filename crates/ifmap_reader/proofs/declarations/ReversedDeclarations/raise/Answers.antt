use Rattle.std.proofs.Common.{◌∷◌, [], ◌++◌, ◌∙◌, ap, map}
use Rattle.ifmap_elem.specs.Document.{from_above}
use Rattle.ifmap_reader.specs.ReversedPaths.{reverse_path}
use Rattle.ifmap_reader.proofs.ReversedLaws.{raised_rows}
use Rattle.ifmap_reader.proofs.declarations.ReversedDeclarations.raise.Goals as goal

pub returns : goal.returns
returns c =
    ap (λ above. map (reverse_path above) c.self.inside.rows.items)
    (c.in_ok-push.ensures.items ∙ ap (λ n. c.self.inside.above.items ++ n ∷ []) c.in_ok-child.ensures)
    ∙ raised_rows c.self.inside.above.items c.args.index c.self.inside.rows.items
    ∙ ap (map (from_above c.args.index)) c.self.view_is
