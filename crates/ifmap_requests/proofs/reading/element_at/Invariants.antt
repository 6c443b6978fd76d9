use Rattle.std.proofs.Common.{drop}
use Rattle.ifmap_elem.specs.InScope.{NamesElementAt}
use Rattle.ifmap_elem.specs.declared.elements.Element.{Element}
use Rattle.ifmap_requests.proofs.reading.element_at.Given as goal

abbrev pub invariant-loop-index : goal.invariant-loop-index
invariant-loop-index l = (inner : Element) → NamesElementAt l.element (drop l.index-index l.path) inner → NamesElementAt l.root l.path inner
