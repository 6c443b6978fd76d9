use Rattle.std.proofs.Common.{ℕ, List, ap, ◌∙◌}
use Rattle.std.proofs.lemmas.Result.{on_ok_weaker}
use Rattle.ifmap_graph.specs.Touched.{draft_of}
use Rattle.ifmap_graph.specs.Turning.{sides_at}
use Rattle.ifmap_graph.proofs.Flipping.{flips_mapped, inside_drafted, pairs_after}
use Rattle.ifmap_graph.proofs.drafting.draft_plan.Goals as goal

pub draft_changes-requires-clause-shelved : goal.draft_changes-requires-clause-shelved
draft_changes-requires-clause-shelved c = c.requires.inside.1.placed

pub touch_slots-requires-clause-pairs : goal.touch_slots-requires-clause-pairs
touch_slots-requires-clause-pairs c =
    pairs_after c.requires.inside.0 c.args.shelves.now c.draft_changes.new.shelves c.args.links.now.items c.requires.inside.1
    c.draft_changes.ensures.stays.shelved
    c.draft_changes.ensures.stays.place.places c.draft_changes.ensures.stays.place.ends

pub returns-clause-all : goal.returns-clause-all
returns-clause-all c =
    on_ok_weaker c.touch_slots.result
    (λ drafts. record {
      inside = λ names is. inside_drafted names c.args.shelves.now c.draft_changes.new.shelves c.args.links.now.items
          c.touch_slots.new.links.items is c.draft_changes.ensures.stays.shelved c.draft_changes.ensures.stays.place.places
          c.draft_changes.ensures.stays.place.ends c.draft_changes.ensures.now c.args.changes.now c.requires.fits
          c.in_ok-draft_changes.ensures.next c.in_ok-draft_changes.ensures.out c.touch_slots.ensures.kept
          (λ v. drafts v
          ∙ ap (λ (l : List ℕ). draft_of c.draft_changes.new.shelves.slots l v (sides_at c.args.links.now.items v).now)
          (c.deref.ensures.value ∙ c.in_ok-touched.ensures ∙ flips_mapped c.draft_changes.new.shelves c.args.changes.now));
      next = c.in_ok-draft_changes.ensures.next;
      out = c.in_ok-draft_changes.ensures.out;
    })
    c.touch_slots.ensures.ok
