use Rattle.std.proofs.Common.{◌≡◌, ℕ, ◌+◌, ◌<◌, Some, Err, inl, inr, refl, sym, subst, arith, vec_len}
use Rattle.std.specs.declared.cmp.Ordering.TheVariants.{Equal}
use Rattle.ifmap_lemmas.specs.Options.{is_some_of}
use Rattle.ifmap_pool.specs.Holdings.{Holdings, HoldsAgain, HoldsOne, TakesNumber}
use Rattle.ifmap_pool.specs.Index.{IsKept, IsKeyPlace, slot_at, slot_count}
use Rattle.ifmap_pool.specs.declared.slots.HeldKey.{HeldKey}
use Rattle.ifmap_pool.proofs.Changes.{holdings_of, shows_pool, whole_now, room_for_new, write_count, take_number}
use Rattle.ifmap_pool.proofs.Kept.{place_held}
use Rattle.ifmap_pool.proofs.Named.{holds_from_slot, names_from_slot, absent_at}
use Rattle.ifmap_pool.proofs.pools.Pool.hold_one.Given as given
use Rattle.ifmap_pool.proofs.pools.Pool.hold_one.Goals as goal
use Rattle.ifmap_pool.proofs.pools.Pool.hold_one.Goals.{In-Err, After-index-number, After-slot_of_live, After-set_holds, After-list_number}

-- the number at the place stands for a key that equals this one
stands : (g : given.Over) (c : After-index-number g) → (held : HeldKey g.row.K.Denot)
    × (slot_at c.self.inside.slots.items c.index-number.result.now ≡ Some held) × (g.K.Ord.cmp held.key c.args.key ≡ Equal)
stands g c =
    place_held g.met.K.Ord.total (slot_at c.self.inside.slots.items) c.self.inside.order.items c.self.invariant.0.indexed c.args.key
    c.in-Ok.place (rw (c.deref.ensures.value, c.deref-2.ensures.value) at c.in-Ok.ensures) c.index-number.result.now
    c.index-number.ensures

-- what the number has before it
there : (g : given.Over) (c : After-slot_of_live g)
    → slot_at c.self.inside.slots.items c.index-number.result.now ≡ Some c.slot_of_live.result.now
there g c = rw c.deref-in-Ok.ensures.value at c.slot_of_live.ensures

-- its count is one more, and nothing else changes
count_rises : (g : given.Over) (c : After-set_holds g)
    → IsKept g.K.Ord.cmp c.set_holds.new.slots.items c.self.inside.free.items c.self.inside.order.items (vec_len c.self.inside.order)
    c.self.inside.limit
    × HoldsAgain c.args.self.now (holdings_of c.set_holds.new.slots.items (vec_len c.self.inside.order) c.self.inside.limit)
    c.index-number.result.now
count_rises g c =
    let at = rw c.deref-in-Ok.ensures.value at c.slot_of_live.ensures in
    write_count c.self.invariant.0 c.self.view_is g.met.K.Ord.total c.index-number.result.now c.slot_of_live.result.now at (λ n. n + 1)
    (omega arith) (c.set_holds.ensures.items c.slot_of_live.result.now at)

missing : (g : given.Over) (c : In-Err g)
    → IsKeyPlace g.K.Ord.cmp (slot_at c.self.inside.slots.items) c.self.inside.order.items c.args.key (Err c.in-Err.place)
missing g c = rw (c.deref.ensures.value, c.deref-2.ensures.value) at c.in-Err.ensures

room : (g : given.Over) (c : In-Err g) → slot_count c.self.inside.slots.items < c.self.inside.limit
room g c = room_for_new c.self.invariant.0 c.self.view_is g.met.K.Ord.total c.args.key c.in-Err.place (missing g c) c.requires.room

-- the key moves in, under the number of an empty slot
key_moves_in : (g : given.Over) (c : After-list_number g) → slot_count c.self.inside.slots.items < c.self.inside.limit
    → IsKept g.K.Ord.cmp c.fill_slot-number.new.slots.items c.fill_slot-number.new.free.items c.list_number.new.order.items
    (vec_len c.list_number.new.order) c.self.inside.limit
    × TakesNumber c.args.self.now (holdings_of c.fill_slot-number.new.slots.items (vec_len c.list_number.new.order) c.self.inside.limit)
    c.fill_slot-number.result c.args.key
key_moves_in g c small =
    take_number c.self.invariant.0 c.self.view_is g.met.K.Ord.total c.fill_slot-number.result c.in-Err.place c.args.key
    c.fill_slot-number.ensures.vacant small (rw (c.deref.ensures.value, c.deref-2.ensures.value) at c.in-Err.ensures)
    c.fill_slot-number.ensures.writes c.fill_slot-number.ensures.free c.fill_slot-number.ensures.count
    (c.fill_slot-number.ensures.within c.self.inside.limit c.self.invariant.0.within small) c.list_number.ensures.items
    c.list_number.ensures.len

-- the answer is the number in more bytes
holds_wider : (g : given.Over) (old new : Holdings g.row.K.Denot) (key : g.row.K.Denot) (wide number : ℕ) → wide ≡ number
    → HoldsOne g.K.Ord.cmp old new number key → HoldsOne g.K.Ord.cmp old new wide key
holds_wider g old new key wide number same holds = subst (λ (n : ℕ). HoldsOne g.K.Ord.cmp old new n key) (sym same) holds

pub place_of-requires : goal.place_of-requires
place_of-requires g c = rw (c.deref.ensures.value, c.deref-2.ensures.value) c.self.invariant.0.indexed

pub slot_of_live-requires : goal.slot_of_live-requires
slot_of_live-requires g c =
    let entry = stands g (goal.at.slot_of_live-requires g c).After-index-number in
    rw c.deref-in-Ok.ensures.value (is_some_of _ entry.0 entry.1)

pub overflow_add-holds : goal.overflow_add-holds
overflow_add-holds g c =
    let shows = shows_pool c.self.invariant.0 c.self.view_is in
    let place = goal.at.overflow_add-holds g c in
    let entry = stands g place.After-index-number in
    let number = c.index-number.result.now in
    let few = c.requires.few number (names_from_slot shows g.K.Ord.cmp number entry.0 c.args.key entry.1 entry.2) in
    let holds = holds_from_slot shows number c.slot_of_live.result.now (there g place.After-slot_of_live) in
    omega (arith, few, holds)

pub set_holds-requires : goal.set_holds-requires
set_holds-requires g c = is_some_of _ c.slot_of_live.result.now (there g (goal.at.set_holds-requires g c).After-slot_of_live)

pub invariant_of-self : goal.invariant_of-self
invariant_of-self g c = (
  (count_rises g (goal.at.invariant_of-self g c).After-set_holds).0,
  omega (arith, c.self.invariant, c.set_holds.ensures.capacity),
  c.self.invariant.2,
  c.self.invariant.3,
  c.self.invariant.4,
)

pub returns-in-Ok-clause-before : goal.returns-in-Ok-clause-before
returns-in-Ok-clause-before g c = whole_now c.self.invariant.0 c.self.view_is g.met.K.Ord.total

pub returns-in-Ok-clause-whole : goal.returns-in-Ok-clause-whole
returns-in-Ok-clause-whole g c =
    whole_now (count_rises g (goal.at.returns-in-Ok-clause-whole g c).After-set_holds).0 refl g.met.K.Ord.total

pub returns-in-Ok-clause-holds : goal.returns-in-Ok-clause-holds
returns-in-Ok-clause-holds g c =
    let place = goal.at.returns-in-Ok-clause-holds g c in
    let entry = stands g place.After-index-number in
    let shows = shows_pool c.self.invariant.0 c.self.view_is in
    let mine = names_from_slot shows g.K.Ord.cmp c.index-number.result.now entry.0 c.args.key entry.1 entry.2 in
    holds_wider g c.args.self.now _ c.args.key _ _ c.from.ensures (inl (mine, (count_rises g place.After-set_holds).1))

pub fill_slot-number-requires : goal.fill_slot-number-requires
fill_slot-number-requires g c =
    let small = room g (goal.at.fill_slot-number-requires g c).In-Err in
    record {
      free = c.self.invariant.0.free_slots;
      room = omega (arith, small, c.self.invariant.1);
      few = omega (arith, small, c.self.invariant.4);
    }

pub list_number-requires-clause-room : goal.list_number-requires-clause-room
list_number-requires-clause-room g c =
    let small = room g (goal.at.list_number-requires-clause-room g c).In-Err in
    omega (arith, small, c.self.invariant.0.counted, c.self.invariant.3)

pub invariant_of-self-in-Err : goal.invariant_of-self-in-Err
invariant_of-self-in-Err g c =
    let place = goal.at.invariant_of-self-in-Err g c in (
      (key_moves_in g place.After-list_number (room g place.In-Err)).0,
      omega (arith, c.self.invariant.1, c.fill_slot-number.ensures.slots_room),
      omega (arith, c.self.invariant.2, c.fill_slot-number.ensures.free_room),
      omega (arith, c.self.invariant.3, c.list_number.ensures.capacity),
      c.self.invariant.4,
    )

pub returns-in-Err-clause-holds : goal.returns-in-Err-clause-holds
returns-in-Err-clause-holds g c =
    let place = goal.at.returns-in-Err-clause-holds g c in
    let none = absent_at (shows_pool c.self.invariant.0 c.self.view_is) g.met.K.Ord.total c.self.invariant.0.indexed c.args.key
    c.in-Err.place
    (missing g place.In-Err) in
    holds_wider g c.args.self.now _ c.args.key _ _ c.from-in-Err.ensures
    (inr (none, (key_moves_in g place.After-list_number (room g place.In-Err)).1))

pub returns-in-Err-clause-before : goal.returns-in-Err-clause-before
returns-in-Err-clause-before g c = whole_now c.self.invariant.0 c.self.view_is g.met.K.Ord.total

pub returns-in-Err-clause-whole : goal.returns-in-Err-clause-whole
returns-in-Err-clause-whole g c =
    let place = goal.at.returns-in-Err-clause-whole g c in
    whole_now (key_moves_in g place.After-list_number (room g place.In-Err)).0 refl g.met.K.Ord.total
