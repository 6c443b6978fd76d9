use Rattle.std.proofs.lemmas.Cmp.{tied_itself}
use Rattle.ifmap_pool.specs.Index.{slot_at}
use Rattle.ifmap_pool.proofs.Kept.{none_missed, number_found}
use Rattle.ifmap_pool.proofs.places.unlist_number.Goals as goal

pub unreachable-requires : goal.unreachable-requires
unreachable-requires g c =
    let missing = rw c.deref.ensures.value at c.in-Err.ensures in
    none_missed g.met.K.Ord.total (slot_at c.args.slots.now) c.args.order.now.items c.requires.indexed c.slot_of_live.result.now.key
    c.in-Err.field-0 missing
    c.args.number c.slot_of_live.result.now c.slot_of_live.ensures (tied_itself g.met.K.Ord.total c.slot_of_live.result.now.key)

pub returns-clause-items : goal.returns-clause-items
returns-clause-items g c =
    let found = rw c.deref.ensures.value at c.in-Ok.ensures in (
      c.in-Ok.place,
      found.0,
      number_found g.met.K.Ord.total (slot_at c.args.slots.now) c.args.order.now.items c.requires.indexed c.slot_of_live.result.now.key
          c.in-Ok.place found
          c.args.number c.slot_of_live.result.now c.slot_of_live.ensures (tied_itself g.met.K.Ord.total c.slot_of_live.result.now.key),
      c.remove.ensures.items,
    )
