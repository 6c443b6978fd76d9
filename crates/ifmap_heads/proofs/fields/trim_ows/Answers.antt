use Rattle.std.proofs.Common.{List, ℕ, reverse, ap, ◌∙◌}
use Rattle.httparse.specs.Grammar.{skip_ows, trim_ows}
use Rattle.ifmap_heads.proofs.fields.trim_ows.Goals as goal

pub returns : goal.returns
unfolding trim_ows
returns c = c.trim_ows_end.ensures ∙ ap (λ (xs : List ℕ). reverse (skip_ows (reverse xs))) c.trim_ows_start.ensures
