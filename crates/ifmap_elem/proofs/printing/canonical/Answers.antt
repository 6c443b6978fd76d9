use Rattle.std.proofs.Common.{[]}
use Rattle.ifmap_elem.specs.laws.CanonicalSpells.{written_if_ok}
use Rattle.ifmap_elem.proofs.printing.canonical.Goals as goal

pub returns-clause-spelled : goal.returns-clause-spelled
returns-clause-spelled c = λ fit. written_if_ok c.print_root.result c.args.element.now [] c.print_root.ensures fit tt
