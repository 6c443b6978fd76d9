use Rattle.std.proofs.Common.{rules}
use Rattle.std.proofs.lemmas.Fn.{filter_same}
use Rattle.std.specs.Option.{is_some}
use Rattle.ifmap_session.proofs.rows.drop_empty.Goals as goal

pub returns-clause-items : goal.returns-clause-items
returns-clause-items c = filter_same _ (λ row. is_some row.kept) _ (λ a b f k. search rules) _ _ c.retain.ensures.filtered
