use Rattle.std.proofs.Common.{◌≡◌, List, ℕ, subst}
use Rattle.std.specs.Prelude.{IfOk}
use Rattle.ifmap_elem.specs.Canonical.{written_bytes}
use Rattle.ifmap_elem.specs.laws.CanonicalSpells.{written_if_ok}
use Rattle.ifmap_elem.proofs.printing.written.Goals as goal

pub returns-clause-spelled : goal.returns-clause-spelled
returns-clause-spelled c =
    λ fit can. written_if_ok c.print_root.result c.args.element.now c.args.spaces.now
    (subst (λ (l : List (List ℕ)). IfOk c.print_root.result (λ bytes. bytes ≡ written_bytes c.args.element.now l)) c.as_slice-spaces.ensures
    c.print_root.ensures)
    fit can
