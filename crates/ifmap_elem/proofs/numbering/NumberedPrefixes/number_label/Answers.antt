use Rattle.std.proofs.Common.{◌≡◌, ◌∷◌, [], inl, ap, sym, subst, ◌∙◌}
use Rattle.std.specs.Prelude.{IfOk, OnOk}
use Rattle.std.specs.Map.{lookup}
use Rattle.std.specs.Str.{bytes_eq}
use Rattle.ifmap_elem.specs.Namespaces.{name_prefixes, AddsSpaces}
use Rattle.ifmap_elem.specs.Outlines.{label_name}
use Rattle.ifmap_elem.specs.declared.outlines.Label.{Label}
use Rattle.ifmap_elem.specs.printer.Pieces.{IsNumbered}
use Rattle.ifmap_elem.specs.laws.NamespaceLaws.{adds_no_space}
use Rattle.ifmap_elem.proofs.PieceLaws.{front_same}
use Rattle.ifmap_elem.proofs.numbering.NumberedPrefixes.number_label.Goals as goal

pub returns-in-Bare-clause-added : goal.returns-in-Bare-clause-added
returns-in-Bare-clause-added c =
    adds_no_space c.args.self.now (label_name c.args.label).space (ap (λ (l : Label). (label_name l).space) c.in-Bare.is)

pub returns-in-Bare-clause-extends : goal.returns-in-Bare-clause-extends
returns-in-Bare-clause-extends c = front_same c.args.self.now

pub returns-in-Bare-clause-numbered : goal.returns-in-Bare-clause-numbered
returns-in-Bare-clause-numbered c = inl (ap (λ (l : Label). (label_name l).space) c.in-Bare.is)

pub returns-in-Bare-clause-prefix : goal.returns-in-Bare-clause-prefix
returns-in-Bare-clause-prefix c =
    c.of_none.ensures
    ∙ ap (λ (l : Label). lookup (bytes_eq (label_name l).space) (name_prefixes c.args.self.now)) (sym c.in-Bare.is)

pub returns-in-Named-clause-added : goal.returns-in-Named-clause-added
returns-in-Named-clause-added c =
    subst (λ (l : Label). OnOk c.number.result (AddsSpaces c.args.self.now ((label_name l).space ∷ []) c.number.new.self))
    (sym c.in-Named.is) c.number.ensures.added

pub returns-in-Named-clause-numbered : goal.returns-in-Named-clause-numbered
returns-in-Named-clause-numbered c =
    subst (λ (l : Label). OnOk c.number.result (IsNumbered c.number.new.self (label_name l).space)) (sym c.in-Named.is)
    c.number.ensures.numbered

pub returns-in-Named-clause-prefix : goal.returns-in-Named-clause-prefix
returns-in-Named-clause-prefix c =
    subst (λ (l : Label). IfOk c.number.result (λ prefix.
    prefix ≡ lookup (bytes_eq (label_name l).space) (name_prefixes c.number.new.self))) (sym c.in-Named.is) c.number.ensures.prefix
