use Rattle.std.proofs.Common.{[], ap, sym, ◌∙◌}
use Rattle.std.specs.Map.{lookup}
use Rattle.std.specs.Str.{bytes_eq}
use Rattle.ifmap_elem.specs.Namespaces.{name_prefixes}
use Rattle.ifmap_elem.proofs.numbering.NumberedPrefixes.of_none.Goals as goal

pub returns : goal.returns
returns c = sym (ap (λ xs. lookup (bytes_eq []) (name_prefixes xs)) (sym c.self.view_is) ∙ c.self.invariant.1)
