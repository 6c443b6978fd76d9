use Rattle.std.proofs.Common.{length, map, refl, ap, ◌∙◌, sym, subst}
use Rattle.slab.specs.Slab.{get}
use Rattle.ifmap_plans.specs.declared.plans.ItemChange.{ItemChange}
use Rattle.ifmap_view.specs.Rows.{stored_on}
use Rattle.ifmap_graph.specs.Drafted.{AreOut}
use Rattle.ifmap_graph.specs.Out.{items_changed}
use Rattle.ifmap_graph.specs.Shelved.{rows_on_side}
use Rattle.ifmap_graph.specs.Sides.{list_next, list_now}
use Rattle.ifmap_graph.specs.Turning.{AreDrafted, accept_each, backs}
use Rattle.ifmap_graph.proofs.Committed.{IsMadeOf, made_inside, made_lean, made_links, made_own, made_still, made_waits}
use Rattle.ifmap_graph.proofs.Insides.{rows_shown}
use Rattle.ifmap_graph.proofs.Outs.{are_out}
use Rattle.ifmap_graph.proofs.Taking.{can_go_back}
use Rattle.ifmap_graph.proofs.graph.Graph.commit_kept.Goals as goal
use Rattle.ifmap_graph.proofs.graph.Graph.commit_kept.Goals.{After-accept_all}

-- what the two calls did
calls_make_change : (c : After-accept_all) → IsMadeOf c.self.inside.names c.self.inside.shelves c.accept_changes.new.shelves
    c.self.inside.links.items c.accept_all.new.lists.items c.args.ready
calls_make_change c =
    let q = rw (← c.self.view_is) at c.requires
    in record {
      is = c.self.invariant;
      later = c.accept_changes.ensures.left.stays.shelved;
      bare = c.accept_changes.ensures.left.bare;
      stay = c.accept_changes.ensures.left.stays.place;
      rows = c.accept_changes.ensures.now;
      same = c.accept_changes.ensures.next;
      out = are_out c.self.inside.shelves (items_changed c.args.ready.plan.changes) q.drafted q.within q.apart;
      drafted = q.links;
      others = q.no_others;
      turned = c.accept_all.ensures.lists
          ∙ ap (λ w. accept_each w c.self.inside.links.items) c.ways.view_is;
    }

pub accept_changes-requires-clause-out : goal.accept_changes-requires-clause-out
accept_changes-requires-clause-out c =
    let q = rw (← c.self.view_is) at c.requires
    in subst (λ l. AreOut (items_changed l) c.self.inside.shelves) (sym c.as_slice.ensures)
    (are_out c.self.inside.shelves (items_changed c.args.ready.plan.changes) q.drafted q.within q.apart)

pub accept_changes-requires-clause-long : goal.accept_changes-requires-clause-long
accept_changes-requires-clause-long c = ap length c.lists.view_is ∙ c.requires.lists
    ∙ sym (ap length c.as_slice.ensures)

pub accept_all-requires : goal.accept_all-requires
accept_all-requires c =
    let q = rw (← c.self.view_is) at c.requires
    in subst (λ w. AreDrafted w c.self.inside.links.items) (sym c.ways.view_is) q.links

pub invariant_of-self : goal.invariant_of-self
invariant_of-self c = made_inside (calls_make_change (goal.at.invariant_of-self c).After-accept_all)

pub returns-clause-now : goal.returns-clause-now
returns-clause-now c =
    rw (← c.self.view_is)
    (rows_shown list_now (get c.accept_changes.new.shelves.slots) c.accept_changes.new.shelves.places.entries ∙ c.accept_changes.ensures.now
    ∙ sym (rows_shown list_next (get c.self.inside.shelves.slots) c.self.inside.shelves.places.entries))

pub returns-clause-next : goal.returns-clause-next
returns-clause-next c =
    rw (← c.self.view_is)
    (rows_shown list_next (get c.accept_changes.new.shelves.slots) c.accept_changes.new.shelves.places.entries
    ∙ c.accept_changes.ensures.next
    ∙ sym (rows_shown list_next (get c.self.inside.shelves.slots) c.self.inside.shelves.places.entries))

pub returns-clause-links : goal.returns-clause-links
returns-clause-links c = rw (← c.self.view_is) (made_links (calls_make_change (goal.at.returns-clause-links c).After-accept_all))

pub returns-clause-lists : goal.returns-clause-lists
returns-clause-lists c =
    rw (← c.self.view_is)
    (c.accept_changes.ensures.lists
    ∙ ap (λ l. map (λ (x : ItemChange). stored_on x.item (rows_on_side list_now c.self.inside.shelves)) l) c.as_slice.ensures
    ∙ ap (λ rows. map (λ (x : ItemChange). stored_on x.item rows) c.args.ready.plan.changes)
    (sym (rows_shown list_now (get c.self.inside.shelves.slots) c.self.inside.shelves.places.entries)))

pub returns-clause-ways : goal.returns-clause-ways
returns-clause-ways c =
    rw (← c.self.view_is) (c.accept_all.ensures.ways ∙ ap (λ w. backs w c.self.inside.links.items)
    c.ways.view_is)

pub returns-clause-plan : goal.returns-clause-plan
returns-clause-plan c = refl

pub returns-clause-back : goal.returns-clause-back
returns-clause-back c =
    let m = calls_make_change (goal.at.returns-clause-back c).After-accept_all
    in rw (← c.self.view_is)
    (can_go_back c.self.inside.names c.self.inside.shelves c.accept_changes.new.shelves c.self.inside.links.items
    c.accept_all.new.lists.items m.is m.stay.places m.stay.ends m.stay.waits m.rows c.args.ready _ m.out m.drafted m.others m.turned
    (returns-clause-plan c) (rw (← c.self.view_is) at (returns-clause-lists c)) (rw (← c.self.view_is) at (returns-clause-ways c)))

pub returns-clause-still : goal.returns-clause-still
returns-clause-still c = made_still (calls_make_change (goal.at.returns-clause-still c).After-accept_all)

pub returns-clause-own : goal.returns-clause-own
returns-clause-own c = rw (← c.self.view_is) (made_own (calls_make_change (goal.at.returns-clause-own c).After-accept_all))

pub returns-clause-waits : goal.returns-clause-waits
returns-clause-waits c = rw (← c.self.view_is) (made_waits (calls_make_change (goal.at.returns-clause-waits c).After-accept_all))

pub returns-clause-lean : goal.returns-clause-lean
returns-clause-lean c = rw (← c.self.view_is) (made_lean (calls_make_change (goal.at.returns-clause-lean c).After-accept_all))
