use Rattle.std.proofs.Common.{◌≡◌, ◌≤◌, ℕ, None, length, refl, ap, sym, ◌∙◌, subst}
use Rattle.slab.specs.Slab.{Slab, get}
use Rattle.ifmap_lemmas.specs.Results.{on_err}
use Rattle.ifmap_ident.specs.declared.items.Item.{Item}
use Rattle.ifmap_graph.specs.declared.shelves.Shelf.{Shelf}
use Rattle.ifmap_graph.specs.Named.{HoldsEnds}
use Rattle.ifmap_graph.specs.Shelved.{list_at, rows_by}
use Rattle.ifmap_graph.specs.Waits.{waits_at}
use Rattle.ifmap_graph.proofs.Brought.{brings_none}
use Rattle.ifmap_graph.proofs.Placed.{Places, placed_bare, placed_brings, placed_inside, placed_own, placed_rows}
use Rattle.ifmap_graph.proofs.Staying.{ends_of}
use Rattle.ifmap_graph.proofs.placing.place_shelf.Goals as goal
use Rattle.ifmap_graph.proofs.placing.place_shelf.Goals.{After-insert_reserved, After-hold_ends-ends}

-- the slot that was found vacant is the one that the shelf comes to
places : (c : After-insert_reserved)
    → Places c.args.shelves.now (record { places = c.insert.new.self; slots = c.insert_reserved.new.self }) c.args.item
    c.vacant_key-at.result (record { ends = c.hold_ends-ends.result; stored = c.new.result; waits = 0 })
places c =
    let here : c.insert_reserved.result ≡ c.vacant_key-at.result = c.insert_reserved.ensures.key ∙ sym c.vacant_key-at.ensures.value
    in let kept = c.in_ok-reserve.ensures.rest_kept
    in record {
      canon = c.requires.canon;
      none = c.requires.absent;
      vacant = subst (λ (s : Slab Shelf). get s c.vacant_key-at.result ≡ None) kept c.vacant_key-at.ensures.vacant;
      has = ap (get c.insert_reserved.new.self) (sym here) ∙ c.insert_reserved.ensures.updates.changed;
      empty = c.new.ensures;
      idle = refl;
      others = λ o n. c.insert_reserved.ensures.updates.others o (λ q. n (q ∙ here)) ∙ ap (λ (s : Slab Shelf). get s o) kept;
      entries = c.in_ok-insert.ensures.entries;
      rises = c.insert.ensures.ordered;
      updates = c.in_ok-insert.ensures.updates.0;
    }

holds : (c : After-hold_ends-ends) → HoldsEnds c.args.names.now c.hold_ends-ends.new.names c.args.item c.hold_ends-ends.result
holds c =
    subst (λ (i : Item). HoldsEnds c.args.names.now c.hold_ends-ends.new.names i c.hold_ends-ends.result) c.requires.same
    c.hold_ends-ends.ensures

pub returns-in_err-reserve-clause-inside : goal.returns-in_err-reserve-clause-inside
returns-in_err-reserve-clause-inside c = λ links room is. rw c.in_err-reserve.ensures.rest_kept is

pub returns-in_err-reserve-clause-rows : goal.returns-in_err-reserve-clause-rows
returns-in_err-reserve-clause-rows c = λ side nothing.
    ap (λ (s : Slab Shelf). rows_by (λ n. list_at side (get s n)) c.args.shelves.now.places.entries) c.in_err-reserve.ensures.rest_kept

pub returns-in_err-insert-clause-inside : goal.returns-in_err-insert-clause-inside
returns-in_err-insert-clause-inside c = λ links room is. rw (c.in_err-insert.ensures.err, c.in_ok-reserve.ensures.rest_kept) is

pub returns-in_err-insert-clause-rows : goal.returns-in_err-insert-clause-rows
returns-in_err-insert-clause-rows c = λ side nothing. rw (c.in_err-insert.ensures.err, c.in_ok-reserve.ensures.rest_kept) refl

pub returns-clause-inside : goal.returns-clause-inside
returns-clause-inside c = λ links room old.
    let place = goal.at.returns-clause-inside c
    in placed_inside (places place.After-insert_reserved) (holds place.After-hold_ends-ends) links
    (subst (λ (n : ℕ). n ≤ length links) (sym c.hold_ends-ends.ensures.limit) room) old

pub returns-clause-rows : goal.returns-clause-rows
returns-clause-rows c = placed_rows (places (goal.at.returns-clause-rows c).After-insert_reserved) c.requires.inside.1.placed

pub returns-clause-held : goal.returns-clause-held
returns-clause-held c = (holds (goal.at.returns-clause-held c).After-hold_ends-ends).held

pub returns-in_err-reserve-clause-none : goal.returns-in_err-reserve-clause-none
returns-in_err-reserve-clause-none c =
    on_err c.from_residual.result _
    (brings_none c.args.shelves.now (record { places = c.args.shelves.now.places; slots = c.reserve.new.self }) refl
    (λ at. ap (λ (s : Slab Shelf). ends_of (get s at)) c.in_err-reserve.ensures.rest_kept)
    (λ x. ap (λ (s : Slab Shelf). waits_at (get s) c.args.shelves.now.places.entries x) c.in_err-reserve.ensures.rest_kept))

pub returns-in_err-insert-clause-own : goal.returns-in_err-insert-clause-own
returns-in_err-insert-clause-own c = λ a own h. rw c.in_err-insert.ensures.err h

pub returns-in_err-insert-clause-none : goal.returns-in_err-insert-clause-none
returns-in_err-insert-clause-none c =
    on_err c.from_residual-in_err-insert.result _
    (brings_none c.args.shelves.now (record { places = c.insert.new.self; slots = c.reserve.new.self }) c.in_err-insert.ensures.err
    (λ at. ap (λ (s : Slab Shelf). ends_of (get s at)) c.in_ok-reserve.ensures.rest_kept)
    (λ x. rw c.in_err-insert.ensures.err (ap (λ (s : Slab Shelf). waits_at (get s) c.args.shelves.now.places.entries x)
    c.in_ok-reserve.ensures.rest_kept)))

pub returns-clause-own : goal.returns-clause-own
returns-clause-own c =
    let place = goal.at.returns-clause-own c
    in placed_own (places place.After-insert_reserved) (holds place.After-hold_ends-ends)

pub returns-clause-brought : goal.returns-clause-brought
returns-clause-brought c = placed_brings (places (goal.at.returns-clause-brought c).After-insert_reserved) c.requires.inside.1.placed

pub returns-in_err-reserve-clause-bare : goal.returns-in_err-reserve-clause-bare
returns-in_err-reserve-clause-bare c = λ b. rw c.in_err-reserve.ensures.rest_kept b

pub returns-in_err-insert-clause-bare : goal.returns-in_err-insert-clause-bare
returns-in_err-insert-clause-bare c = λ b. rw (c.in_err-insert.ensures.err, c.in_ok-reserve.ensures.rest_kept) b

pub returns-clause-bare : goal.returns-clause-bare
returns-clause-bare c = placed_bare (places (goal.at.returns-clause-bare c).After-insert_reserved) c.requires.inside.1.placed
