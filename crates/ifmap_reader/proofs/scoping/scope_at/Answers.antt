use Rattle.std.proofs.Common.{ap, ◌∙◌}
use Rattle.std.specs.Map.{lookup}
use Rattle.std.specs.Str.{bytes_eq}
use Rattle.ifmap_elem.specs.InScope.{declared_at, listed_space}
use Rattle.ifmap_reader.proofs.ScopeLaws.{found_by_text}
use Rattle.ifmap_reader.proofs.scoping.scope_at.Goals as goal

pub returns-clause-declared : goal.returns-clause-declared
returns-clause-declared c = λ prefix.
    ap (lookup (bytes_eq prefix)) c.in_ok-rows.ensures.all ∙ found_by_text c.in_ok-spaces.spaces.entries prefix
    ∙ c.in_ok-spaces.ensures prefix
    ∙ ap (λ ds. listed_space (declared_at c.args.path.now ds) prefix)
    c.as_slice.ensures

pub returns-clause-resolved : goal.returns-clause-resolved
returns-clause-resolved c =
    λ bytes scope s h prefix. returns-clause-declared c prefix
    ∙ c.declarations_tell_the_scopes.ensures bytes c.args.reading.now s c.args.path.now scope h prefix
