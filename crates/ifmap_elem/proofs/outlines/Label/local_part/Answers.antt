use Rattle.std.proofs.Common.{ap, sym, ◌∙◌}
use Rattle.ifmap_elem.specs.Outlines.{label_name}
use Rattle.ifmap_elem.specs.declared.outlines.Label.{Label}
use Rattle.ifmap_elem.proofs.outlines.Label.local_part.Goals as goal

pub returns-in-Bare : goal.returns-in-Bare
returns-in-Bare c = sym (ap (λ (l : Label). (label_name l).local) c.in-Bare.is)

pub returns-in-Named : goal.returns-in-Named
returns-in-Named c = c.as_str.ensures ∙ sym (ap (λ (l : Label). (label_name l).local) c.in-Named.is)
