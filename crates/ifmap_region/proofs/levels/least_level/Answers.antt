use Rattle.std.proofs.lemmas.Option.{IfSome_then}
use Rattle.ifmap_region.proofs.levels.least_level.Goals as goal

pub returns-then-is_empty-clause-rises : goal.returns-then-is_empty-clause-rises
returns-then-is_empty-clause-rises c =
    IfSome_then c.first_level.result c.first_level.ensures.greatest (λ level p. p c.args.floor c.requires.above)
