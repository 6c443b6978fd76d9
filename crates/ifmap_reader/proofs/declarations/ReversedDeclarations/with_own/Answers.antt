use Rattle.std.proofs.Common.{[], ◌++◌, ◌∙◌, ap, map}
use Rattle.ifmap_reader.specs.ReversedPaths.{reverse_path}
use Rattle.ifmap_reader.proofs.ReversedLaws.{own_rows}
use Rattle.ifmap_reader.proofs.declarations.ReversedDeclarations.with_own.Goals as goal

pub returns : goal.returns
returns c =
    c.in_ok-made.ensures ∙ ap (λ ds. ds ++ c.args.self)
    (ap (map (reverse_path [])) (c.rows.view_is ∙ c.into_declared.ensures) ∙ own_rows c.args.own)
