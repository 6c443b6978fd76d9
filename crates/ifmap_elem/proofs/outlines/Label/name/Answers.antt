use Rattle.std.proofs.Common.{◌≡◌, subst, sym}
use Rattle.std.specs.Prelude.{IfOk}
use Rattle.ifmap_elem.specs.Outlines.{label_name}
use Rattle.ifmap_elem.specs.declared.outlines.Label.{Label}
use Rattle.ifmap_elem.proofs.outlines.Label.name.Goals as goal

pub returns-in-Bare : goal.returns-in-Bare
returns-in-Bare c = subst (λ (l : Label). IfOk c.with_local.result (λ name. name ≡ label_name l)) (sym c.in-Bare.is) c.with_local.ensures

pub returns-in-Named : goal.returns-in-Named
returns-in-Named c = subst (λ (l : Label). IfOk c.copy.result (λ name. name ≡ label_name l)) (sym c.in-Named.is) c.copy.ensures
