use Rattle.std.proofs.Common.{◌≡◌, [], sym, subst}
use Rattle.std.specs.Prelude.{IfOk}
use Rattle.ifmap_elem.specs.Canonical.{canonical_bytes}
use Rattle.ifmap_elem.specs.Outlines.{outline_element}
use Rattle.ifmap_elem.specs.declared.elements.Element.{Element}
use Rattle.ifmap_elem.specs.laws.CanonicalSpells.{written_if_ok}
use Rattle.ifmap_elem.specs.laws.OutlineLaws.{outlined_is}
use Rattle.ifmap_elem.proofs.printing.canonical_outline.Goals as goal

pub returns-clause-bytes : goal.returns-clause-bytes
returns-clause-bytes c =
    subst (λ (e : Element). IfOk c.print_root.result (λ bytes. bytes ≡ canonical_bytes e)) (sym (outlined_is c.args.outline.now))
    c.print_root.ensures

pub returns-clause-spelled : goal.returns-clause-spelled
returns-clause-spelled c = λ fit.
    written_if_ok c.print_root.result (outline_element c.args.outline.now) [] (returns-clause-bytes c) fit tt
