use Rattle.std.proofs.Common.{◌≡◌, ◌++◌, ap, ◌∙◌, sym, subst}
use Rattle.std.specs.BTreeMap.{is_at}
use Rattle.std.specs.Map.{lookup}
use Rattle.ifmap_ident.specs.Items.{item_order}
use Rattle.ifmap_view.specs.Rows.{stored_on}
use Rattle.ifmap_graph.specs.Back.{KeepsOtherBacks}
use Rattle.ifmap_graph.specs.Drafted.{AreOut, HaveDraftsWithin}
use Rattle.ifmap_graph.specs.Out.{items_changed}
use Rattle.ifmap_graph.specs.Seen.{AreAwaited, IsLean}
use Rattle.ifmap_graph.specs.Touched.{AreExactlyDrafted}
use Rattle.ifmap_graph.specs.Turning.{sides_at}
use Rattle.ifmap_graph.proofs.Accepting.{drafted_there}
use Rattle.ifmap_graph.proofs.Flipping.{inside_dropped}
use Rattle.ifmap_graph.proofs.Lean.{same_lean}
use Rattle.ifmap_graph.proofs.Outs.{are_out}
use Rattle.ifmap_graph.proofs.Settled.{bare_to, inside_of}
use Rattle.ifmap_graph.proofs.Written.{first_backs, written_backs, written_now, own_stays, waits_stay_seen}
use Rattle.ifmap_graph.proofs.graph.Graph.forget.Goals as goal
use Rattle.ifmap_graph.proofs.graph.Graph.forget.Goals.{After-as_slice, After-as_slice-3}

-- the drafts of the change are out
out : (c : After-as_slice) → AreOut (items_changed c.args.ready.plan.changes) c.self.inside.shelves
out c =
    let q = rw (← c.self.view_is) at c.requires.out
    in are_out c.self.inside.shelves (items_changed c.args.ready.plan.changes) q.drafted q.within q.apart

-- the changes as the last call reads them
same_changes : (c : After-as_slice-3) → c.as_slice-3.result.now ≡ c.args.ready.plan.changes
same_changes c = c.as_slice-3.ensures

pub drop_plan-requires-clause-drafts : goal.drop_plan-requires-clause-drafts
drop_plan-requires-clause-drafts c =
    let all = out (goal.at.drop_plan-requires-clause-drafts c).After-as_slice
    in subst (λ l. HaveDraftsWithin (items_changed l) c.self.inside.shelves) (sym c.as_slice.ensures)
    (record {
      shelved = c.self.invariant.placed;
      there = drafted_there (items_changed c.args.ready.plan.changes) c.self.inside.shelves all.drafted;
      within = all.within;
    })

pub drop_plan-requires-clause-ready : goal.drop_plan-requires-clause-ready
drop_plan-requires-clause-ready c =
    let q = rw (← c.self.view_is) at c.requires.out
    in subst (λ w. AreExactlyDrafted w c.self.inside.links.items) (sym c.as_slice-2.ensures)
    (record { drafted = q.links; no_others = q.no_others })

pub invariant_of-self : goal.invariant_of-self
invariant_of-self c =
    inside_dropped c.self.inside.names c.self.inside.shelves c.drop_plan.new.shelves c.self.inside.links.items c.drop_plan.new.links.items
    c.self.invariant
    c.drop_plan.ensures.drop.left.stays.shelved c.drop_plan.ensures.drop.left.stays.place.places
    c.drop_plan.ensures.drop.left.stays.place.ends c.drop_plan.ensures.drop.now c.drop_plan.ensures.drop.next
    c.drop_plan.ensures.links
    c.drop_plan.ensures.none

pub release_waits-requires : goal.release_waits-requires
release_waits-requires c =
    let w = rw (← c.self.view_is) at c.requires.waits
    in record {
      still = bare_to c.self.inside.names c.drop_plan.new.shelves c.drop_plan.new.links.items c.drop_plan.ensures.drop.left.bare
          c.drop_plan.ensures.none;
      waits = subst (λ l. AreAwaited (items_changed l) (inside_of c.self.inside.names c.drop_plan.new.shelves c.drop_plan.new.links.items))
          (sym (same_changes (goal.at.release_waits-requires c).After-as_slice-3))
          (waits_stay_seen c.self.inside.names c.self.inside.links.items c.drop_plan.new.links.items
          c.drop_plan.ensures.drop.left.stays.place (items_changed c.args.ready.plan.changes) w);
    }

pub returns-clause-now : goal.returns-clause-now
returns-clause-now c =
    rw (← c.self.view_is)
    (c.release_waits.ensures.now
    ∙ written_now c.self.inside.names c.drop_plan.ensures.drop.left.stays.place c.drop_plan.ensures.drop.now c.drop_plan.ensures.links)

pub returns-clause-links : goal.returns-clause-links
returns-clause-links c =
    rw (← c.self.view_is)
    (λ v. ap (λ l. (sides_at l v).now) c.release_waits.ensures.links ∙ c.drop_plan.ensures.links.now v)

pub returns-clause-done : goal.returns-clause-done
returns-clause-done c =
    let last = c.release_waits.ensures.done
    in let same = sym (same_changes (goal.at.returns-clause-done c).After-as_slice-3)
    in rw (← c.self.view_is)
    (record {
      still = last.still;
      numbers = last.numbers;
      own = λ a own h. last.own a own
          (own_stays c.self.inside.names c.self.inside.links.items c.drop_plan.new.links.items
          c.drop_plan.ensures.drop.left.stays.place a own h);
      waits = λ rest a. last.waits rest
          (subst
          (λ l. AreAwaited (items_changed l ++ rest) (inside_of c.self.inside.names c.drop_plan.new.shelves c.drop_plan.new.links.items))
          same
          (waits_stay_seen c.self.inside.names c.self.inside.links.items c.drop_plan.new.links.items
          c.drop_plan.ensures.drop.left.stays.place _ a));
      lean = λ rest lean. last.lean rest
          (subst (λ l. IsLean (items_changed l ++ rest) (inside_of c.self.inside.names c.drop_plan.new.shelves c.drop_plan.new.links.items))
          same
          (same_lean c.self.inside.names c.self.inside.names c.self.inside.shelves c.drop_plan.new.shelves c.self.inside.links.items
          c.drop_plan.new.links.items c.drop_plan.ensures.drop.left.stays.place.waits
          (λ x none. ap (λ p. lookup (is_at (item_order x)) p.entries) c.drop_plan.ensures.drop.left.stays.place.places)
          (λ x none. ap (stored_on x) c.drop_plan.ensures.drop.now) _ lean));
    })

pub returns-clause-backs : goal.returns-clause-backs
returns-clause-backs c =
    rw (← c.self.view_is)
    (first_backs (items_changed c.args.ready.plan.changes) (inside_of c.self.inside.names c.self.inside.shelves c.self.inside.links.items)
    (inside_of c.self.inside.names c.drop_plan.new.shelves c.drop_plan.new.links.items) c.release_waits.new.self
    (λ rest a. waits_stay_seen c.self.inside.names c.self.inside.links.items c.drop_plan.new.links.items
    c.drop_plan.ensures.drop.left.stays.place rest a)
    (written_backs c.self.inside.names c.drop_plan.ensures.drop.left.stays.place c.drop_plan.ensures.drop.now c.drop_plan.ensures.links)
    (subst (λ l. KeepsOtherBacks (items_changed l)
    (inside_of c.self.inside.names c.drop_plan.new.shelves c.drop_plan.new.links.items) c.release_waits.new.self)
    (same_changes (goal.at.returns-clause-backs c).After-as_slice-3) c.release_waits.ensures.backs))
