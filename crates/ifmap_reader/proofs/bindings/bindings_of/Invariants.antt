use Rattle.std.proofs.Common.{drop}
use Rattle.std.specs.List.{filter_map}
use Rattle.ifmap_elem.specs.Scopes.{binding_of}
use Rattle.ifmap_reader.proofs.Binding.{Binding-so-far}
use Rattle.ifmap_reader.proofs.bindings.bindings_of.Given as goal

abbrev pub invariant-loop-assignment : goal.invariant-loop-assignment
invariant-loop-assignment l = Binding-so-far (filter_map binding_of l.assignments) l.made (drop l.assignment-index l.assignments)
