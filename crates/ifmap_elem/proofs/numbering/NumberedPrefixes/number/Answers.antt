use Rattle.std.proofs.Common.{◌∙◌, ap, sym}
use Rattle.std.specs.Map.{lookup}
use Rattle.std.specs.Option.{is_some}
use Rattle.std.specs.Str.{bytes_eq}
use Rattle.ifmap_elem.specs.Namespaces.{name_prefixes}
use Rattle.ifmap_elem.specs.laws.NamespaceLaws.{adds_prefixed}
use Rattle.ifmap_elem.proofs.numbering.NumberedPrefixes.number.Goals as goal

pub returns-then-is_empty-clause-prefix : goal.returns-then-is_empty-clause-prefix
returns-then-is_empty-clause-prefix c =
    c.of_none.ensures ∙ ap (λ s. lookup (bytes_eq s) (name_prefixes c.args.self.now)) (sym (c.is_empty.ensures.0 c.if-is_empty.true))

pub returns-in-Some-clause-added : goal.returns-in-Some-clause-added
returns-in-Some-clause-added c = adds_prefixed c.args.self.now c.args.space.now (ap is_some
    (ap (λ s. lookup (bytes_eq s) (name_prefixes c.args.self.now)) (sym c.as_bytes-bytes.ensures) ∙ c.in-Some.ensures))
