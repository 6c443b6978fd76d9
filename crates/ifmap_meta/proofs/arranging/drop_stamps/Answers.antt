use Rattle.std.proofs.Common.{rules, not}
use Rattle.std.proofs.lemmas.Fn.{filter_same}
use Rattle.ifmap_meta.specs.Stamps.{is_stamp}
use Rattle.ifmap_meta.proofs.arranging.drop_stamps.Goals as goal

pub returns : goal.returns
returns c = filter_same _ (λ a. not (is_stamp a)) _ (λ a b f k. search rules) _ _ c.retain.ensures.filtered
