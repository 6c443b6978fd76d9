use Rattle.std.specs.BTreeSet.{contains}
use Rattle.std.proofs.Common.{Bor}
use Rattle.ifmap_elem.specs.Arranged.{name_order}
use Rattle.ifmap_elem.specs.declared.elements.Name.{Name}
use Rattle.ifmap_reader.proofs.NameSets.{Names-so-far}
use Rattle.ifmap_reader.proofs.differing.many_differ.Given as goal

abbrev pub invariant-loop-attribute : goal.invariant-loop-attribute
invariant-loop-attribute l =
    Names-so-far l.attributes l.attribute-index (λ (n : Bor Name). contains (λ (x y : Bor Name). name_order x.now y.now) l.names n)
