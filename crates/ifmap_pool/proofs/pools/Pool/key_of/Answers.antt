use Rattle.std.proofs.Common.{refl, sym, ap, ◌∙◌, arith}
use Rattle.std.specs.Prelude.{option_map}
use Rattle.ifmap_pool.specs.declared.slots.HeldKey.{HeldKey}
use Rattle.ifmap_pool.proofs.Changes.{shows_pool, whole_now}
use Rattle.ifmap_pool.proofs.Named.{key_is, holds_from_slot, holds_from_none}
use Rattle.ifmap_pool.proofs.pools.Pool.key_of.Goals as goal

pub returns-in-Some-clause-key : goal.returns-in-Some-clause-key
returns-in-Some-clause-key g c =
    let shows = shows_pool c.self.invariant.0 c.self.view_is in
    let at = rw c.deref.ensures.value at c.in-Some.ensures in
    ap (option_map (λ (held : HeldKey g.row.K.Denot). held.key)) at ∙ sym (key_is shows c.args.number)

pub returns-in-Some-clause-held : goal.returns-in-Some-clause-held
returns-in-Some-clause-held g c =
    let shows = shows_pool c.self.invariant.0 c.self.view_is in
    let at = sym (rw c.deref.ensures.value at c.in-Some.ensures) in
    let holds = holds_from_slot shows c.args.number c.in-Some.held.now at in
    (λ _. omega (arith, holds, c.self.invariant.0.indexed.held c.args.number c.in-Some.held.now at), λ _. refl)

pub returns-in-Some-clause-whole : goal.returns-in-Some-clause-whole
returns-in-Some-clause-whole g c = whole_now c.self.invariant.0 c.self.view_is g.met.K.Ord.total

pub returns-in-None-clause-key : goal.returns-in-None-clause-key
returns-in-None-clause-key g c =
    let shows = shows_pool c.self.invariant.0 c.self.view_is in
    let at = rw c.deref.ensures.value at c.in-None.ensures in
    ap (option_map (λ (held : HeldKey g.row.K.Denot). held.key)) at ∙ sym (key_is shows c.args.number)

pub returns-in-None-clause-held : goal.returns-in-None-clause-held
returns-in-None-clause-held g c =
    let shows = shows_pool c.self.invariant.0 c.self.view_is in
    let none = holds_from_none shows c.args.number (sym (rw c.deref.ensures.value at
    c.in-None.ensures)) in
    (λ live. absurd (cc), λ some. absurd (omega arith))

pub returns-in-None-clause-whole : goal.returns-in-None-clause-whole
returns-in-None-clause-whole g c = whole_now c.self.invariant.0 c.self.view_is g.met.K.Ord.total
