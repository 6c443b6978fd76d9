use Rattle.std.proofs.Common.{ℕ, ◌+◌, ◌^◌, ◌<◌, length, refl, sym, subst, arith}
use Rattle.std.proofs.Math.Nat.{add_assoc}
use Rattle.slab.specs.Slab.{get}
use Rattle.ifmap_ident.specs.Canon.{IsIdentifier}
use Rattle.ifmap_ident.specs.Identifiers.{identifier_order}
use Rattle.ifmap_pool.specs.Holdings.{IsHeld, Names, once}
use Rattle.ifmap_graph.specs.Back.{KeepsShelves}
use Rattle.ifmap_graph.specs.Inside.{IsInside, shown_shelves}
use Rattle.ifmap_graph.specs.Named.{AreIdentifiers, uses_in}
use Rattle.ifmap_graph.specs.Bringing.{graph_fields}
use Rattle.ifmap_graph.proofs.Grown.{few_holds}
use Rattle.ifmap_graph.proofs.Changed.{held_alike, inside_held, keys_alike, names_alike, holds_with_more_room}
use Rattle.ifmap_graph.proofs.KeyHolds.{still_identifiers}
use Rattle.ifmap_graph.proofs.Kept.{shelves_kept}
use Rattle.ifmap_graph.proofs.Settled.{few_from, inside_of}
use Rattle.ifmap_graph.proofs.Own.{held_again, holds_alike, key_kept, key_told}
use Rattle.ifmap_graph.proofs.graph.Graph.hold.Goals as goal
use Rattle.ifmap_graph.proofs.graph.Graph.hold.Goals.{After-reserve, After-lengthen, After-hold}

-- all is in order once there is room
roomy : (c : After-lengthen)
    → IsInside c.reserve.new.self (get c.self.inside.shelves.slots) c.self.inside.shelves.places.entries c.lengthen.new.links.items
roomy c =
    holds_with_more_room c.self.inside.names c.reserve.new.self c.reserve.ensures.live (get c.self.inside.shelves.slots)
    c.self.inside.shelves.places.entries c.self.inside.links.items c.lengthen.new.links.items c.reserve.ensures.whole
    c.lengthen.ensures.same c.lengthen.ensures.longer c.self.invariant

-- what is held is identifiers, with the one that came
identifiers : (c : After-hold) → AreIdentifiers c.hold.new.self
identifiers c =
    still_identifiers c.reserve.new.self c.hold.new.self c.hold.result c.in_ok-key.key c.hold.ensures.present c.hold.ensures.absent
    c.hold.ensures.others (subst IsIdentifier (sym c.in_ok-key.ensures) c.requires.canon)
    (keys_alike c.self.inside.names c.reserve.new.self c.reserve.ensures.live c.self.invariant.keys)

-- the shelves stay, and the links but for room, wherever the call ends
kept_by_room : (c : After-reserve)
    → KeepsShelves c.args.self.now (inside_of c.reserve.new.self c.self.inside.shelves c.self.inside.links.items)
kept_by_room c =
    shelves_kept c.self.inside.names c.reserve.new.self c.self.inside.shelves c.self.inside.links.items c.self.inside.links.items
    c.self.view_is (λ v. refl) (omega arith)

kept_by_links : (c : After-lengthen)
    → KeepsShelves c.args.self.now (inside_of c.reserve.new.self c.self.inside.shelves c.lengthen.new.links.items)
kept_by_links c =
    shelves_kept c.self.inside.names c.reserve.new.self c.self.inside.shelves c.self.inside.links.items c.lengthen.new.links.items
    c.self.view_is c.lengthen.ensures.same c.lengthen.ensures.longer

kept_by_hold : (c : After-hold)
    → KeepsShelves c.args.self.now (inside_of c.hold.new.self c.self.inside.shelves c.lengthen.new.links.items)
kept_by_hold c =
    shelves_kept c.self.inside.names c.hold.new.self c.self.inside.shelves c.self.inside.links.items c.lengthen.new.links.items
    c.self.view_is c.lengthen.ensures.same c.lengthen.ensures.longer

pub invariant_of-self-in_err-lengthen : goal.invariant_of-self-in_err-lengthen
invariant_of-self-in_err-lengthen c = roomy (goal.at.invariant_of-self-in_err-lengthen c).After-lengthen

pub hold-requires-clause-few : goal.hold-requires-clause-few
hold-requires-clause-few c = λ number n.
    let few = rw (← c.self.view_is) at c.requires.few
    in let small : length c.self.inside.shelves.places.entries < 2 ^ 62 = omega (arith, c.if-len-ge-MOST_ITEMS.false, c.len.ensures.len)
    in let held = few_holds (graph_fields c.self.inside.names c.self.inside.shelves c.self.inside.links.items) c.self.invariant
    (few_from c.self.inside.names c.self.inside.shelves c.self.inside.links.items few) small number
    in let same = holds_alike c.self.inside.names c.reserve.new.self c.reserve.ensures.live number
    in omega (arith, held, same)

pub invariant_of-self : goal.invariant_of-self
invariant_of-self c =
    subst (λ n. IsInside n (get c.self.inside.shelves.slots) c.self.inside.shelves.places.entries c.self.inside.links.items)
    (sym c.in_err-reserve.ensures.err) c.self.invariant

pub invariant_of-self-2 : goal.invariant_of-self-2
invariant_of-self-2 c =
    let place = goal.at.invariant_of-self-2 c
    in inside_held c.reserve.new.self c.hold.new.self
    (get c.self.inside.shelves.slots) c.self.inside.shelves.places.entries c.lengthen.new.links.items
    c.in_ok-key.key (roomy place.After-lengthen) c.hold.ensures.kept c.hold.ensures.whole (identifiers place.After-hold)
    (omega (arith, c.in_ok-lengthen.ensures.ok, c.limit.ensures.limit, c.hold.ensures.limit)) c.hold.ensures.held

pub returns-clause-named : goal.returns-clause-named
returns-clause-named c =
    key_told c.hold.new.self c.hold.result c.args.id.now c.bytes_tell_identifiers_apart.ensures
    (identifiers (goal.at.returns-clause-named c).After-hold)
    c.requires.canon (subst (Names identifier_order c.hold.new.self c.hold.result) c.in_ok-key.ensures c.hold.ensures.named)

pub returns-clause-kept : goal.returns-clause-kept
returns-clause-kept c =
    rw (← c.self.view_is)
    (key_kept c.self.inside.names c.hold.new.self
    (λ v a n. c.hold.ensures.kept v a (names_alike c.self.inside.names c.reserve.new.self c.reserve.ensures.live v a n))
    c.bytes_tell_identifiers_apart.ensures c.self.invariant.keys (identifiers (goal.at.returns-clause-kept c).After-hold))

pub returns-clause-again : goal.returns-clause-again
returns-clause-again c =
    rw (← c.self.view_is)
    (held_again c.self.inside.names c.reserve.new.self c.hold.new.self c.self.invariant.pool.held c.reserve.ensures.live c.hold.result
    c.hold.ensures.counted)

pub returns-clause-own : goal.returns-clause-own
returns-clause-own c =
    rw (← c.self.view_is)
    (λ a own h.
    let named = uses_in (shown_shelves (get c.self.inside.shelves.slots) c.self.inside.shelves.places.entries) a
    in subst (λ (n : ℕ). IsHeld identifier_order c.hold.new.self a n) (add_assoc named own (once identifier_order c.args.id.now a))
    (subst (λ k. IsHeld identifier_order c.hold.new.self a ((named + own) + once identifier_order k a)) c.in_ok-key.ensures
    (c.hold.ensures.held a (named + own) (held_alike c.self.inside.names c.reserve.new.self c.reserve.ensures.live a (named + own) h))))

pub returns-clause-links : goal.returns-clause-links
returns-clause-links c = rw (← c.self.view_is) c.lengthen.ensures.same

pub returns-clause-keeps : goal.returns-clause-keeps
returns-clause-keeps c = kept_by_hold (goal.at.returns-clause-keeps c).After-hold

pub returns-in_err-lengthen-clause-keeps : goal.returns-in_err-lengthen-clause-keeps
returns-in_err-lengthen-clause-keeps c = kept_by_links (goal.at.returns-in_err-lengthen-clause-keeps c).After-lengthen

pub returns-in_err-reserve-clause-keeps : goal.returns-in_err-reserve-clause-keeps
returns-in_err-reserve-clause-keeps c = kept_by_room (goal.at.returns-in_err-reserve-clause-keeps c).After-reserve
