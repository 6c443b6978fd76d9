use Rattle.std.proofs.Common.{◌≡◌, ◌-◌, ◌<◌, ◌⊎◌, Some, inl, inr, refl, arith, vec_len}
use Rattle.std.specs.Prelude.{IsSome}
use Rattle.ifmap_lemmas.specs.Options.{is_some_of}
use Rattle.ifmap_pool.specs.Holdings.{Holdings, Frees, LetsGo, LetsOneGo}
use Rattle.ifmap_pool.specs.Index.{IsKept, slot_at}
use Rattle.ifmap_pool.proofs.Changes.{holdings_of, shows_pool, limit_is, whole_now, write_count, free_number}
use Rattle.ifmap_pool.proofs.Named.{slot_from_live, entry_from_slot}
use Rattle.ifmap_pool.proofs.pools.Pool.release_one.Given as given
use Rattle.ifmap_pool.proofs.pools.Pool.release_one.Goals as goal
use Rattle.ifmap_pool.proofs.pools.Pool.release_one.Goals.{After-slot_of_live, After-set_holds, After-empty_slot}

-- what the number has before it
there : (g : given.Over) (c : After-slot_of_live g) → slot_at c.self.inside.slots.items c.args.number ≡ Some c.slot_of_live.result.now
there g c = rw c.deref.ensures.value at c.slot_of_live.ensures

is_live : (g : given.Over) (c : After-slot_of_live g) → IsSome (slot_at c.self.inside.slots.items c.args.number)
is_live g c = is_some_of _ c.slot_of_live.result.now (there g c)

-- one hold goes where the number is held once less, or is free
goes : (g : given.Over) (c : After-slot_of_live g) (new : Holdings g.row.K.Denot)
    → ((1 < c.slot_of_live.result.now.holds) × LetsGo c.args.self.now new c.args.number)
    ⊎ ((c.slot_of_live.result.now.holds ≡ 1) × Frees c.args.self.now new c.args.number) → LetsOneGo c.args.self.now new c.args.number
goes g c new either =
    let held = c.slot_of_live.result.now in
    ((held.key, held.holds), entry_from_slot (shows_pool c.self.invariant.0 c.self.view_is) c.args.number held (there g c), either)

-- the count of the number is one less, and nothing else changes
count_falls : (g : given.Over) (c : After-set_holds g)
    → IsKept g.K.Ord.cmp c.set_holds.new.slots.items c.self.inside.free.items c.self.inside.order.items (vec_len c.self.inside.order)
    c.self.inside.limit
    × LetsGo c.args.self.now (holdings_of c.set_holds.new.slots.items (vec_len c.self.inside.order) c.self.inside.limit) c.args.number
count_falls g c =
    let at = rw c.deref.ensures.value at c.slot_of_live.ensures in
    let wrote = write_count c.self.invariant.0 c.self.view_is g.met.K.Ord.total c.args.number c.slot_of_live.result.now at (λ n. n - 1)
    (omega arith) (c.set_holds.ensures.items c.slot_of_live.result.now at) in
    (wrote.0, λ entry there more. wrote.1 entry there)

-- the number is free
number_is_free : (g : given.Over) (c : After-empty_slot g)
    → IsKept g.K.Ord.cmp c.empty_slot.new.slots.items c.empty_slot.new.free.items c.unlist_number.new.order.items
    (vec_len c.unlist_number.new.order) c.self.inside.limit
    × Frees c.args.self.now (holdings_of c.empty_slot.new.slots.items (vec_len c.unlist_number.new.order) c.self.inside.limit) c.args.number
number_is_free g c =
    let listed = c.unlist_number.ensures.items in
    free_number c.self.invariant.0 c.self.view_is g.met.K.Ord.total c.args.number listed.0 listed.1 listed.2
    (vec_len c.unlist_number.new.order)
    c.empty_slot.ensures.writes c.empty_slot.ensures.free c.empty_slot.ensures.count c.empty_slot.ensures.len listed.3
    c.unlist_number.ensures.len

pub prove-unreachable-requires : goal.prove-unreachable-requires
prove-unreachable-requires g c =
    let inside = (whole_now c.self.invariant.0 c.self.view_is g.met.K.Ord.total).below c.args.number c.requires in
    let same = limit_is c.self.invariant.0 c.self.view_is in
    omega (arith, inside, same, c.if-prove.true)

pub slot_of_live-requires : goal.slot_of_live-requires
slot_of_live-requires g c =
    let there = slot_from_live (shows_pool c.self.invariant.0 c.self.view_is) c.args.number c.requires in
    rw c.deref.ensures.value (is_some_of _ there.0 there.1)

pub set_holds-requires : goal.set_holds-requires
set_holds-requires g c = is_live g (goal.at.set_holds-requires g c).After-slot_of_live

pub unlist_number-requires : goal.unlist_number-requires
unlist_number-requires g c = record {
  indexed = rw c.deref-2.ensures.value c.self.invariant.0.indexed;
  live = rw c.deref-2.ensures.value (is_live g (goal.at.unlist_number-requires g c).After-slot_of_live);
}

pub invariant_of-self : goal.invariant_of-self
invariant_of-self g c = (
  (count_falls g (goal.at.invariant_of-self g c).After-set_holds).0,
  omega (arith, c.self.invariant, c.set_holds.ensures.capacity),
  c.self.invariant.2,
  c.self.invariant.3,
  c.self.invariant.4,
)

pub returns-then-holds-gt1-clause-before : goal.returns-then-holds-gt1-clause-before
returns-then-holds-gt1-clause-before g c = whole_now c.self.invariant.0 c.self.view_is g.met.K.Ord.total

pub returns-then-holds-gt1-clause-whole : goal.returns-then-holds-gt1-clause-whole
returns-then-holds-gt1-clause-whole g c =
    whole_now (count_falls g (goal.at.returns-then-holds-gt1-clause-whole g c).After-set_holds).0 refl g.met.K.Ord.total

pub returns-then-holds-gt1-clause-goes : goal.returns-then-holds-gt1-clause-goes
returns-then-holds-gt1-clause-goes g c =
    let place = goal.at.returns-then-holds-gt1-clause-goes g c in
    goes g place.After-slot_of_live _ (inl (c.if-holds-gt1.true, (count_falls g place.After-set_holds).1))

pub empty_slot-requires : goal.empty_slot-requires
empty_slot-requires g c = record {
  free = c.self.invariant.0.free_slots;
  live = is_live g (goal.at.empty_slot-requires g c).After-slot_of_live;
  room = omega (arith, c.self.invariant.0.within, c.self.invariant.2);
}

pub invariant_of-self-2 : goal.invariant_of-self-2
invariant_of-self-2 g c = (
  (number_is_free g (goal.at.invariant_of-self-2 g c).After-empty_slot).0,
  omega (arith, c.self.invariant.1, c.empty_slot.ensures.slots_room),
  omega (arith, c.self.invariant.2, c.empty_slot.ensures.free_room),
  omega (arith, c.self.invariant.3, c.unlist_number.ensures.capacity),
  c.self.invariant.4,
)

pub returns-clause-before : goal.returns-clause-before
returns-clause-before g c = whole_now c.self.invariant.0 c.self.view_is g.met.K.Ord.total

pub returns-clause-whole : goal.returns-clause-whole
returns-clause-whole g c = whole_now (number_is_free g (goal.at.returns-clause-whole g c).After-empty_slot).0 refl g.met.K.Ord.total

pub returns-clause-goes : goal.returns-clause-goes
returns-clause-goes g c =
    let place = goal.at.returns-clause-goes g c in
    let some = c.self.invariant.0.indexed.held c.args.number c.slot_of_live.result.now (there g place.After-slot_of_live) in
    goes g place.After-slot_of_live _ (inr (omega (arith, c.if-holds-gt1.false, some), (number_is_free g place.After-empty_slot).1))
