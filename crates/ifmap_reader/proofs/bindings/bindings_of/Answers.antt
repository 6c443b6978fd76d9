use Rattle.std.proofs.Common.{◌+◌, drop, refl}
use Rattle.std.specs.List.{filter_map}
use Rattle.std.proofs.lemmas.Result.{err_from_is_err_and}
use Rattle.ifmap_elem.specs.Scopes.{binding_of}
use Rattle.ifmap_reader.proofs.Binding.{at_item, binding_next, binding_refused}
use Rattle.ifmap_reader.proofs.bindings.bindings_of.Goals as goal

pub returns-in_err-made : goal.returns-in_err-made
returns-in_err-made c =
    let p = err_from_is_err_and c.from_residual.result c.from_residual.ensures.1 in
    rw (p.1, p.2) (binding_refused (filter_map binding_of c.args.assignments.now) c.assignment-item.result
    (drop (c.loop-assignment.assignment-index + 1) c.args.assignments.now) c.loop-assignment.made
    (at_item _ _ c.args.assignments.now c.loop-assignment.assignment-index c.assignment-item.result c.loop-assignment-test.true
    c.assignment-item.is c.loop-assignment.invariant)
    c.args.assignments.now refl c.in_err-made.field-0.0 c.in_err-made.ensures)

pub loop-assignment-preserved : goal.loop-assignment-preserved
loop-assignment-preserved c =
    binding_next (filter_map binding_of c.args.assignments.now) c.assignment-item.result
    (drop (c.loop-assignment.assignment-index + 1) c.args.assignments.now) c.loop-assignment.made
    (at_item _ _ c.args.assignments.now c.loop-assignment.assignment-index c.assignment-item.result c.loop-assignment-test.true
    c.assignment-item.is c.loop-assignment.invariant)
    c.in_ok-made.made c.in_ok-made.ensures
