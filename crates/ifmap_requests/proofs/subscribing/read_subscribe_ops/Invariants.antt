use Rattle.std.proofs.Common.{drop}
use Rattle.ifmap_forms.specs.Gathering.{IsRestAfter}
use Rattle.ifmap_forms.specs.Scopes.{scopes_below, scopes_by}
use Rattle.ifmap_forms.specs.Tables.{each_element, parts_in}
use Rattle.ifmap_requests.specs.RequestForms.{subscribe_op_check}
use Rattle.ifmap_requests.proofs.subscribing.read_subscribe_ops.Given as goal

abbrev pub invariant-loop-index : goal.invariant-loop-index
invariant-loop-index l =
    IsRestAfter
    (each_element (λ index e. subscribe_op_check (scopes_below (scopes_by l.place.declared.now l.place.path.now) index) e) 0
    (parts_in l.children))
    (each_element (λ index e. subscribe_op_check (scopes_below (scopes_by l.place.declared.now l.place.path.now) index) e) l.index
    (parts_in (drop l.index l.children))) l.ops.items
