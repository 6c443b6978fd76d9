use Rattle.std.proofs.Common.{◌≡◌, ℕ, ◌+◌, ◌-◌, ◌<◌, refl, ap, ◌∙◌, subst}
use Rattle.std.specs.Prelude.{◌^◌}
use Rattle.slab.specs.Slab.{get}
use Rattle.ifmap_graph.specs.Sides.{list_next, list_now}
use Rattle.ifmap_graph.specs.Waits.{waits_at, waits_of, waits_there}
use Rattle.ifmap_graph.proofs.Proposing.{drafts_from, drafts_to}
use Rattle.ifmap_graph.proofs.Staying.{ends_stay}
use Rattle.ifmap_graph.proofs.Writes.{Write, is_shelved, side_stays, slot_live, waits_had, waits_has, waits_others, write_of}
use Rattle.ifmap_graph.proofs.Waited.{waits_one_more}
use Rattle.ifmap_graph.proofs.shelves.Shelves.wait.Goals as goal
use Rattle.ifmap_lemmas.specs.Options.{some_is}

pub wait_at-requires : goal.wait_at-requires
wait_at-requires c =
    let s = some_is (get c.args.self.now.slots c.index-at.result.now)
    (slot_live (get c.args.self.now.slots) c.args.self.now.places.entries c.args.item.now c.index-at.result.now c.requires.shelved
    c.index-at.ensures)
    in let count : waits_at (get c.args.self.now.slots) c.args.self.now.places.entries c.args.item.now ≡ s.0.waits
    = ap (waits_there (get c.args.self.now.slots)) c.index-at.ensures ∙ ap waits_of s.1
    in (s.0, s.1, subst (λ (n : ℕ). n < 2 ^ 64 - 1) count c.requires.few)

pub returns : goal.returns
returns c =
    let w : Write = write_of c.args.self.now.slots c.wait_at.new.slots c.args.self.now.places.entries c.requires.shelved c.args.item.now
    c.index-at.result.now c.index-at.ensures (λ s. record s { waits = s.waits + 1 }) c.wait_at.ensures
    in record {
      keeps = record {
        shelved = is_shelved w;
        now = side_stays w list_now refl;
        next = side_stays w list_next refl;
        ends = ends_stay w refl;
        places = refl;
      };
      waits = waits_one_more (waits_at (get w.slots) w.es) (waits_at (get w.new) w.es) w.item w.was.waits
          w.later.waits (waits_had w) (waits_has w)
          (waits_others w) refl;
      drafts = drafts_from w refl;
      kept = drafts_to w refl;
    }
