use Rattle.std.proofs.Common.{◌≡◌, ℕ, ◌-◌, ◌<◌, refl, ap, sym, ◌∙◌, subst}
use Rattle.std.proofs.lemmas.Cmp.{tied_itself}
use Rattle.std.specs.Ordering.{is_eq}
use Rattle.slab.specs.Slab.{get}
use Rattle.ifmap_graph.specs.Sides.{list_next, list_now}
use Rattle.ifmap_graph.specs.Waits.{waits_at, waits_of, waits_there}
use Rattle.ifmap_graph.proofs.Staying.{bare_stays, ends_stay}
use Rattle.ifmap_graph.proofs.Writes.{Write, is_shelved, side_stays, slot_live, waits_had, waits_has, waits_others, write_of}
use Rattle.ifmap_graph.proofs.Waited.{waits_one_less}
use Rattle.ifmap_graph.proofs.shelves.Shelves.unwait.Goals as goal
use Rattle.ifmap_lemmas.specs.Options.{some_is}
use Rattle.ifmap_ident.specs.SameLaws.{items_total}

pub unwait_at-requires : goal.unwait_at-requires
unwait_at-requires c =
    let s = some_is (get c.args.self.now.slots c.index-at.result.now)
    (slot_live (get c.args.self.now.slots) c.args.self.now.places.entries c.args.item.now c.index-at.result.now c.requires.shelved
    c.index-at.ensures)
    in let count : waits_at (get c.args.self.now.slots) c.args.self.now.places.entries c.args.item.now ≡ s.0.waits
    = ap (waits_there (get c.args.self.now.slots)) c.index-at.ensures ∙ ap waits_of s.1
    in (s.0, s.1, subst (λ (n : ℕ). 0 < n) count c.requires.waited)

pub returns : goal.returns
returns c =
    let w : Write = write_of c.args.self.now.slots c.unwait_at.new.slots c.args.self.now.places.entries c.requires.shelved c.args.item.now
    c.index-at.result.now c.index-at.ensures (λ s. record s { waits = s.waits - 1 }) c.unwait_at.ensures.slots
    in let tie = ap is_eq (tied_itself items_total c.args.item.now)
    in record {
      keeps = record {
        shelved = is_shelved w;
        now = side_stays w list_now refl;
        next = side_stays w list_next refl;
        ends = ends_stay w refl;
        places = refl;
      };
      left = c.unwait_at.ensures.left w.was w.had ∙ sym (waits_has w c.args.item.now tie);
      waits = waits_one_less (waits_at (get w.slots) w.es) (waits_at (get w.new) w.es) w.item w.was.waits
          w.later.waits (waits_had w) (waits_has w)
          (waits_others w) (subst (λ (n : ℕ). 0 < n) (waits_had w c.args.item.now tie) c.requires.waited) refl;
      bare = bare_stays w refl;
    }
