use Rattle.std.proofs.Common.{None, refl}
use Rattle.slab.specs.Slab.{get}
use Rattle.ifmap_graph.specs.Sides.{list_next, list_now}
use Rattle.ifmap_graph.proofs.Staying.{ends_stay, waits_stay}
use Rattle.ifmap_graph.proofs.Writes.{Write, comes, drafts_left, is_shelved, side_stays, slot_live, write_of}
use Rattle.ifmap_graph.proofs.shelves.Shelves.discard.Goals as goal

pub discard_at-requires : goal.discard_at-requires
discard_at-requires c =
    slot_live (get c.args.self.now.slots) c.args.self.now.places.entries c.args.item.now c.index-at.result.now c.requires.shelved
    c.index-at.ensures

pub returns : goal.returns
returns c =
    let w : Write = write_of c.args.self.now.slots c.discard_at.new.slots c.args.self.now.places.entries c.requires.shelved c.args.item.now
    c.index-at.result.now c.index-at.ensures (λ s. record s { stored = record s.stored { draft = None } }) c.discard_at.ensures
    in record {
      now = side_stays w list_now refl;
      next = comes w list_next list_now refl;
      drafts = drafts_left w refl;
      stays = record {
        shelved = is_shelved w;
        place = record { ends = ends_stay w refl; waits = waits_stay w refl; places = refl };
      };
    }
