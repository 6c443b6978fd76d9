use Rattle.std.proofs.Common.{refl, length, ap, ◌∙◌, sym, subst}
use Rattle.slab.specs.Slab.{get}
use Rattle.ifmap_lemmas.specs.Results.{on_err}
use Rattle.ifmap_plans.specs.Plans.{Fits}
use Rattle.ifmap_graph.specs.Bringing.{graph_fields}
use Rattle.ifmap_graph.specs.Making.{IsMade}
use Rattle.ifmap_graph.specs.Shelved.{rows_on_side}
use Rattle.ifmap_graph.specs.Sides.{list_now}
use Rattle.ifmap_graph.proofs.Insides.{rows_shown}
use Rattle.ifmap_graph.proofs.Reserved.{ComesOut, StaysAsItWas, made_out, made_seen, unmade_seen}
use Rattle.ifmap_graph.proofs.Settled.{bare_from, few_from, inside_of}
use Rattle.ifmap_graph.proofs.graph.Graph.reserve.Goals as goal
use Rattle.ifmap_graph.proofs.graph.Graph.reserve.Goals.{In_err-make_ready, In_ok-make_ready}

-- no change is out
unmade : (c : In_err-make_ready)
    → StaysAsItWas c.args.self.now (inside_of c.make_ready.new.names c.make_ready.new.shelves c.make_ready.new.links.items)
unmade c =
    unmade_seen c.self.inside.names c.make_ready.new.names c.self.inside.shelves c.make_ready.new.shelves c.self.inside.links.items
    c.make_ready.new.links.items c.in_err-make_ready.ensures.unmade c.self.view_is c.bytes_tell_identifiers_apart.ensures
    c.self.invariant.keys

-- the change is out
change_comes_out : (c : In_ok-make_ready)
    → ComesOut c.args.plan.changes c.args.self.now (inside_of c.make_ready.new.names c.make_ready.new.shelves c.make_ready.new.links.items)
change_comes_out c =
    made_seen c.self.inside.names c.make_ready.new.names c.self.inside.shelves c.make_ready.new.shelves c.self.inside.links.items
    c.make_ready.new.links.items c.args.plan.changes c.make_ready.new.ways.items
    (subst (λ l. IsMade l c.make_ready.new.ways.items (graph_fields c.self.inside.names c.self.inside.shelves c.self.inside.links.items)
    (graph_fields c.make_ready.new.names c.make_ready.new.shelves c.make_ready.new.links.items))
    c.as_slice.ensures c.in_ok-make_ready.ensures.made)
    c.self.view_is c.bytes_tell_identifiers_apart.ensures c.self.invariant.keys

pub make_ready-requires-clause-bare : goal.make_ready-requires-clause-bare
make_ready-requires-clause-bare c =
    let q = rw (← c.self.view_is) at c.requires.still
    in bare_from c.self.inside.names c.self.inside.shelves c.self.inside.links.items c.self.invariant.placed q

pub make_ready-requires-clause-few : goal.make_ready-requires-clause-few
make_ready-requires-clause-few c =
    let q = rw (← c.self.view_is) at c.requires.few
    in few_from c.self.inside.names c.self.inside.shelves c.self.inside.links.items q

pub make_ready-requires-clause-fits : goal.make_ready-requires-clause-fits
make_ready-requires-clause-fits c =
    let q = rw (← c.self.view_is) at c.requires.fits
    in subst (λ l. Fits (rows_on_side list_now c.self.inside.shelves) l) (sym c.as_slice.ensures)
    (subst (λ r. Fits r c.args.plan.changes) (rows_shown list_now (get c.self.inside.shelves.slots) c.self.inside.shelves.places.entries) q)

pub returns-in_err-make_ready-clause-now : goal.returns-in_err-make_ready-clause-now
returns-in_err-make_ready-clause-now c = (unmade (goal.at.returns-in_err-make_ready-clause-now c).In_err-make_ready).same.rows

pub returns-in_err-make_ready-clause-numbers : goal.returns-in_err-make_ready-clause-numbers
returns-in_err-make_ready-clause-numbers c = (unmade (goal.at.returns-in_err-make_ready-clause-numbers c).In_err-make_ready).numbers

pub returns-in_err-make_ready-clause-own : goal.returns-in_err-make_ready-clause-own
returns-in_err-make_ready-clause-own c = (unmade (goal.at.returns-in_err-make_ready-clause-own c).In_err-make_ready).same.own

pub returns-in_err-make_ready-clause-backs : goal.returns-in_err-make_ready-clause-backs
returns-in_err-make_ready-clause-backs c = (unmade (goal.at.returns-in_err-make_ready-clause-backs c).In_err-make_ready).backs

pub returns-in_err-make_ready-clause-still : goal.returns-in_err-make_ready-clause-still
returns-in_err-make_ready-clause-still c =
    on_err c.from_residual-in_err-make_ready.result _ (unmade (goal.at.returns-in_err-make_ready-clause-still c).In_err-make_ready).still

pub returns-in_err-make_ready-clause-err : goal.returns-in_err-make_ready-clause-err
returns-in_err-make_ready-clause-err c =
    on_err c.from_residual-in_err-make_ready.result _ (unmade (goal.at.returns-in_err-make_ready-clause-err c).In_err-make_ready).same

pub returns-clause-out : goal.returns-clause-out
returns-clause-out c =
    made_out c.self.inside.names c.make_ready.new.names c.self.inside.shelves c.make_ready.new.shelves c.self.inside.links.items
    c.make_ready.new.links.items
    c.as_slice.result.now c.make_ready.new.ways.items c.in_ok-make_ready.ensures.made _
    (sym c.as_slice.ensures)
    (c.in_ok-lists.ensures ∙ c.len.ensures ∙ sym (ap length c.as_slice.ensures)) refl

pub returns-clause-after : goal.returns-clause-after
returns-clause-after c = (change_comes_out (goal.at.returns-clause-after c).In_ok-make_ready).after

pub returns-clause-now : goal.returns-clause-now
returns-clause-now c = (change_comes_out (goal.at.returns-clause-now c).In_ok-make_ready).now

pub returns-clause-numbers : goal.returns-clause-numbers
returns-clause-numbers c = (change_comes_out (goal.at.returns-clause-numbers c).In_ok-make_ready).numbers

pub returns-clause-own : goal.returns-clause-own
returns-clause-own c = (change_comes_out (goal.at.returns-clause-own c).In_ok-make_ready).own

pub returns-clause-waits : goal.returns-clause-waits
returns-clause-waits c = (change_comes_out (goal.at.returns-clause-waits c).In_ok-make_ready).waits

pub returns-clause-backs : goal.returns-clause-backs
returns-clause-backs c = (change_comes_out (goal.at.returns-clause-backs c).In_ok-make_ready).backs

pub returns-clause-lean : goal.returns-clause-lean
returns-clause-lean c = (change_comes_out (goal.at.returns-clause-lean c).In_ok-make_ready).lean
