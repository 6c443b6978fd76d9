use Rattle.std.proofs.Common.{◌≡◌, ◌+◌, length}
use Rattle.std.specs.Vec.Iter.{into_iter_items}
use Rattle.ifmap_forms.specs.Gathering.{IsRestAfter}
use Rattle.ifmap_forms.specs.Scopes.{scopes_below, scopes_by}
use Rattle.ifmap_forms.specs.Tables.{each_element, parts_in}
use Rattle.ifmap_requests.specs.RequestForms.{publish_op_check}
use Rattle.ifmap_requests.proofs.operations.read_publish_ops.Given as goal

abbrev pub invariant-loop-child : goal.invariant-loop-child
invariant-loop-child l =
    IsRestAfter
    (each_element (λ index e. publish_op_check (scopes_below (scopes_by l.place.declared.now l.place.path.now) index) e) 0
    (parts_in l.fn.children.items))
    (each_element (λ index e. publish_op_check (scopes_below (scopes_by l.place.declared.now l.place.path.now) index) e) l.index
    (parts_in (into_iter_items l.child-iterator))) l.ops.items
    × (l.index + length (into_iter_items l.child-iterator) ≡ length l.fn.children.items)
