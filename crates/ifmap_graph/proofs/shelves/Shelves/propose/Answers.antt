use Rattle.std.proofs.Common.{Some, refl}
use Rattle.slab.specs.Slab.{get}
use Rattle.ifmap_graph.specs.Sides.{list_next, list_now}
use Rattle.ifmap_graph.proofs.Proposing.{draft_there, drafts_come, drafts_there}
use Rattle.ifmap_graph.proofs.Staying.{ends_stay, waits_stay}
use Rattle.ifmap_graph.proofs.Writes.{Write, is_shelved, shows, side_stays, slot_live, write_of}
use Rattle.ifmap_graph.proofs.shelves.Shelves.propose.Goals as goal

pub propose_at-requires : goal.propose_at-requires
propose_at-requires c =
    slot_live (get c.args.self.now.slots) c.args.self.now.places.entries c.args.item.now c.index-at.result.now c.requires.shelved
    c.index-at.ensures

pub returns : goal.returns
returns c =
    let w : Write = write_of c.args.self.now.slots c.propose_at.new.slots c.args.self.now.places.entries c.requires.shelved c.args.item.now
    c.index-at.result.now c.index-at.ensures (λ s. record s { stored = record s.stored { draft = Some c.args.list.value } })
    c.propose_at.ensures
    in record {
      now = side_stays w list_now refl;
      next = shows w list_next c.args.list.value refl;
      drafts = drafts_come w;
      kept = drafts_there w refl;
      drafted = draft_there w refl;
      stays = record {
        shelved = is_shelved w;
        place = record { ends = ends_stay w refl; waits = waits_stay w refl; places = refl };
      };
    }
