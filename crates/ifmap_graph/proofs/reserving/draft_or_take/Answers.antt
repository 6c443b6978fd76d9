use Rattle.std.proofs.Common.{◌+◌, IsSome, ap, ◌∙◌, sym, subst, arith}
use Rattle.std.specs.BTreeMap.{is_at}
use Rattle.std.specs.List.{AllByRecursion}
use Rattle.std.specs.Map.{lookup}
use Rattle.ifmap_ident.specs.Identifiers.{identifier_order}
use Rattle.ifmap_ident.specs.Items.{item_order}
use Rattle.slab.specs.Slab.{get}
use Rattle.ifmap_pool.specs.Holdings.{IsHeld}
use Rattle.ifmap_graph.specs.Bringing.{flagged_items, graph_fields}
use Rattle.ifmap_graph.specs.Drafted.{StayInPlace}
use Rattle.ifmap_graph.specs.Inside.{IsInside}
use Rattle.ifmap_graph.specs.Named.{uses_in}
use Rattle.ifmap_graph.specs.Out.{items_changed}
use Rattle.ifmap_graph.proofs.Brought.{brings_written, other_flagged}
use Rattle.ifmap_graph.proofs.Flipping.{inside_dropped}
use Rattle.ifmap_graph.proofs.Made.{made_by, unmade_by}
use Rattle.ifmap_graph.proofs.Touching.{kept_both}
use Rattle.ifmap_graph.proofs.reserving.draft_or_take.Goals as goal
use Rattle.ifmap_graph.proofs.reserving.draft_or_take.Goals.{After-drop_plan}

-- once the drafts are dropped, the shelves are where they were, and all is in order
stay : (c : After-drop_plan) → StayInPlace c.args.shelves.now c.drop_plan.new.shelves
stay c = record {
  ends = λ at. c.drop_plan.ensures.drop.left.stays.place.ends at ∙ c.draft_and_wait.ensures.ends at;
  waits = λ x. c.drop_plan.ensures.drop.left.stays.place.waits x ∙ c.in-Err.ensures.waits x;
  places = c.drop_plan.ensures.drop.left.stays.place.places ∙ c.draft_and_wait.ensures.places;
}

inside : (c : After-drop_plan) → IsInside c.args.names.now (get c.drop_plan.new.shelves.slots) c.drop_plan.new.shelves.places.entries
    c.drop_plan.new.links.items
inside c =
    let drafts = c.draft_and_wait.ensures.drafts
    in inside_dropped c.args.names.now c.args.shelves.now c.drop_plan.new.shelves c.args.links.now.items c.drop_plan.new.links.items
    c.requires.inside c.drop_plan.ensures.drop.left.stays.shelved (stay c).places (stay c).ends (c.drop_plan.ensures.drop.now ∙ drafts.now)
    (c.drop_plan.ensures.drop.next ∙ drafts.now)
    (kept_both c.args.links.now.items c.draft_and_wait.new.links.items c.drop_plan.new.links.items drafts.links c.drop_plan.ensures.links)
    c.drop_plan.ensures.none

pub draft_and_wait-requires : goal.draft_and_wait-requires
draft_and_wait-requires c = record {
  inside = (c.args.names.now, c.requires.inside);
  bare = c.requires.bare;
  none = c.requires.none;
  ready = c.requires.ready;
  there = c.requires.there;
  fits = c.requires.fits;
}

pub drop_plan-requires-clause-drafts : goal.drop_plan-requires-clause-drafts
drop_plan-requires-clause-drafts c = record {
  shelved = c.draft_and_wait.ensures.drafts.shelved;
  there = subst
      (λ p. AllByRecursion (λ x. IsSome (lookup (is_at (item_order x)) p.entries)) (items_changed c.args.coming.now.changes.now))
      (sym c.draft_and_wait.ensures.places)
      c.requires.there;
  within = c.draft_and_wait.ensures.drafts.within;
}

pub take_shelves-requires : goal.take_shelves-requires
take_shelves-requires c =
    let place = (goal.at.take_shelves-requires c).After-drop_plan
    in record {
      inside = (c.drop_plan.new.links.items, inside place);
      bare = c.drop_plan.ensures.drop.left.bare;
      apart = c.requires.fits.apart;
      long = c.requires.long;
      brought = (
        c.requires.brought.0,
        c.requires.brought.1 ∙ sym (c.drop_plan.ensures.drop.now ∙ c.draft_and_wait.ensures.drafts.now),
        brings_written (flagged_items (items_changed c.args.coming.now.changes.now) c.args.coming.now.fresh.now) c.requires.brought.0
            c.args.shelves.now c.drop_plan.new.shelves c.requires.brought.2 (stay place).places (stay place).ends (stay place).waits,
      );
    }

pub returns-in-Ok-clause-made : goal.returns-in-Ok-clause-made
returns-in-Ok-clause-made c = λ first grown brought.
    let drafts = c.draft_and_wait.ensures.drafts
    in let all = c.in-Ok.ensures.all
    in made_by c.args.coming.now.changes.now c.draft_and_wait.new.ways.items (flagged_items (items_changed c.args.coming.now.changes.now)
    c.args.coming.now.fresh.now) first
    (graph_fields c.args.names.now c.args.shelves.now c.args.links.now.items) c.draft_and_wait.new.shelves c.draft_and_wait.new.links.items
    grown brought (all.inside c.args.names.now c.requires.inside) drafts.now all.next all.out drafts.ready drafts.links
    c.draft_and_wait.ensures.ends c.draft_and_wait.ensures.places
    (other_flagged (items_changed c.args.coming.now.changes.now) c.args.coming.now.fresh.now) c.in-Ok.ensures.waited

pub returns-in-Err-clause-unmade : goal.returns-in-Err-clause-unmade
returns-in-Err-clause-unmade c = λ first is grown brought.
    let place = (goal.at.returns-in-Err-clause-unmade c).After-drop_plan
    in let drafts = c.draft_and_wait.ensures.drafts
    in let less = c.take_shelves.ensures.less
    in unmade_by first c.args.names.now c.take_shelves.new.names c.take_shelves.new.shelves c.drop_plan.new.links.items is
    c.requires.inside.pool (less.inside c.drop_plan.new.links.items (inside place))
    (less.bare c.drop_plan.ensures.drop.left.bare) c.drop_plan.ensures.none
    (less.rows ∙ c.drop_plan.ensures.drop.now ∙ drafts.now ∙ grown.now)
    (λ v. c.drop_plan.ensures.links.now v ∙ drafts.links.now v ∙ ap (λ s. s.now) (grown.links v))
    (omega (arith, grown.longer, c.drop_plan.ensures.links.long, drafts.links.long))
    (λ a own h. less.own a own
    (subst (λ p. IsHeld identifier_order c.args.names.now a (uses_in p.entries a + own)) (sym (stay place).places) (grown.own a own h)))
    (c.take_shelves.ensures.taken first.shelves
    (brings_written (flagged_items (items_changed c.args.coming.now.changes.now) c.args.coming.now.fresh.now) first.shelves
    c.args.shelves.now c.drop_plan.new.shelves brought (stay place).places (stay place).ends (stay place).waits))
    grown.kept less.named
