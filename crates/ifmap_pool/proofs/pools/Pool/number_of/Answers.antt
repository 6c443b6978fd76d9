use Rattle.std.proofs.Common.{◌≡◌, ℕ, get_or, Some, sym, ap, subst, ◌∙◌}
use Rattle.std.proofs.lemmas.List.{get_or_default}
use Rattle.ifmap_pool.specs.Holdings.{Names}
use Rattle.ifmap_pool.proofs.Changes.{shows_pool, whole_now}
use Rattle.ifmap_pool.proofs.Named.{numbers_apart, named_at, absent_at}
use Rattle.ifmap_pool.proofs.pools.Pool.number_of.Goals as goal

pub place_of-requires : goal.place_of-requires
place_of-requires g c = rw (c.deref.ensures.value, c.deref-2.ensures.value) c.self.invariant.0.indexed

pub returns-in-Ok-clause-found : goal.returns-in-Ok-clause-found
returns-in-Ok-clause-found g c =
    let shows = shows_pool c.self.invariant.0 c.self.view_is in
    let found = rw (c.deref.ensures.value, c.deref-2.ensures.value) at c.in-Ok.ensures in
    let at : get_or c.self.inside.order.items c.in-Ok.place 0 ≡ c.index.result.now =
    get_or_default c.self.inside.order.items c.in-Ok.place 0 c.index.result.now found.0 ∙ sym c.index.ensures in
    let P : ℕ → Type 0 = λ n. Names g.K.Ord.cmp c.args.self.now n c.args.key.now in
    subst P (at ∙ sym c.from.ensures)
    (named_at shows g.met.K.Ord.total c.self.invariant.0.indexed
    c.args.key.now c.in-Ok.place found)

pub returns-in-Ok-clause-only : goal.returns-in-Ok-clause-only
returns-in-Ok-clause-only g c number names =
    let shows = shows_pool c.self.invariant.0 c.self.view_is in
    ap Some (numbers_apart shows g.met.K.Ord.total c.self.invariant.0.indexed
    _ _ c.args.key.now (returns-in-Ok-clause-found g c) names)

pub returns-in-Ok-clause-whole : goal.returns-in-Ok-clause-whole
returns-in-Ok-clause-whole g c = whole_now c.self.invariant.0 c.self.view_is g.met.K.Ord.total

pub returns-in-Err-clause-absent : goal.returns-in-Err-clause-absent
returns-in-Err-clause-absent g c =
    let shows = shows_pool c.self.invariant.0 c.self.view_is in
    let missing = rw (c.deref.ensures.value, c.deref-2.ensures.value) at c.in-Err.ensures in
    absent_at shows g.met.K.Ord.total c.self.invariant.0.indexed
    c.args.key.now _ missing

pub returns-in-Err-clause-only : goal.returns-in-Err-clause-only
returns-in-Err-clause-only g c number names = absurd (returns-in-Err-clause-absent g c number names)

pub returns-in-Err-clause-whole : goal.returns-in-Err-clause-whole
returns-in-Err-clause-whole g c = whole_now c.self.invariant.0 c.self.view_is g.met.K.Ord.total
