use Rattle.std.proofs.Common.{◌≡◌, ◌<◌, ◌-◌, ◌^◌, ◌∷◌, [], ℕ, None, length, refl, ◌∙◌, sym, subst, arith}
use Rattle.std.specs.Result.{OnOk}
use Rattle.slab.specs.Slab.{get}
use Rattle.ifmap_ident.specs.declared.items.Item.{Item}
use Rattle.ifmap_ident.specs.Items.{IsCanonItem}
use Rattle.ifmap_graph.specs.Bringing.{BringsShelves, graph_fields}
use Rattle.ifmap_graph.specs.Inside.{IsInside}
use Rattle.ifmap_graph.specs.Shelved.{slot_of_item}
use Rattle.ifmap_graph.specs.Sides.{list_next, list_now}
use Rattle.ifmap_graph.proofs.Changed.{names_alike, held_alike, holds_with_more_room}
use Rattle.ifmap_graph.proofs.Grown.{few_holds, grown_room}
use Rattle.ifmap_graph.proofs.Own.{holds_alike}
use Rattle.ifmap_graph.proofs.bringing.place_item.Goals as goal

pub returns-in_err-make_room-clause-grown : goal.returns-in_err-make_room-clause-grown
returns-in_err-make_room-clause-grown c =
    grown_room c.args.names.now c.make_room.new.names c.args.shelves.now c.args.links.now.items c.make_room.new.links.items
    c.make_room.ensures.live
    c.make_room.ensures.whole c.make_room.ensures.same c.make_room.ensures.longer c.requires.can.inside

pub place_shelf-requires-clause-inside : goal.place_shelf-requires-clause-inside
place_shelf-requires-clause-inside c = (
  c.make_room.new.links.items,
  holds_with_more_room c.args.names.now c.make_room.new.names c.make_room.ensures.live
      (get c.args.shelves.now.slots) c.args.shelves.now.places.entries c.args.links.now.items
      c.make_room.new.links.items c.make_room.ensures.whole c.make_room.ensures.same c.make_room.ensures.longer c.requires.can.inside,
)

pub place_shelf-requires-clause-canon : goal.place_shelf-requires-clause-canon
place_shelf-requires-clause-canon c = subst IsCanonItem (sym c.in_ok-key.ensures) c.requires.can.canon

pub place_shelf-requires-clause-same : goal.place_shelf-requires-clause-same
place_shelf-requires-clause-same c = c.in_ok-ends.ensures ∙ sym c.in_ok-key.ensures

pub place_shelf-requires-clause-absent : goal.place_shelf-requires-clause-absent
place_shelf-requires-clause-absent c = subst (λ (k : Item). slot_of_item c.args.shelves.now k ≡ None)
    (sym c.in_ok-key.ensures) c.requires.absent

pub place_shelf-requires-clause-few : goal.place_shelf-requires-clause-few
place_shelf-requires-clause-few c = λ v.
    let small : length c.args.shelves.now.places.entries < 2 ^ 62 = omega (arith, c.if-len-ge-MOST_ITEMS.false, c.len.ensures.len)
    in subst (λ (n : ℕ). n < 2 ^ 64 - 2) (sym (holds_alike c.args.names.now c.make_room.new.names c.make_room.ensures.live v))
    (few_holds (graph_fields c.args.names.now c.args.shelves.now c.args.links.now.items) c.requires.can.inside c.requires.can.few small v)

pub returns-clause-grown : goal.returns-clause-grown
returns-clause-grown c =
    let room : IsInside c.make_room.new.names (get c.args.shelves.now.slots) c.args.shelves.now.places.entries c.make_room.new.links.items
    = holds_with_more_room c.args.names.now c.make_room.new.names c.make_room.ensures.live
    (get c.args.shelves.now.slots) c.args.shelves.now.places.entries c.args.links.now.items
    c.make_room.new.links.items c.make_room.ensures.whole c.make_room.ensures.same c.make_room.ensures.longer c.requires.can.inside
    in record {
      inside = c.place_shelf.ensures.inside c.make_room.new.links.items c.in_ok-make_room.ensures.limit room;
      now = c.place_shelf.ensures.rows list_now refl;
      next = c.place_shelf.ensures.rows list_next refl;
      bare = c.place_shelf.ensures.bare;
      links = c.make_room.ensures.same;
      longer = c.make_room.ensures.longer;
      kept = λ v a n. c.place_shelf.ensures.kept v a (names_alike c.args.names.now c.make_room.new.names c.make_room.ensures.live v a n);
      own = λ a own h. c.place_shelf.ensures.own a own (held_alike c.args.names.now c.make_room.new.names c.make_room.ensures.live a _ h);
    }

pub returns-clause-brought : goal.returns-clause-brought
returns-clause-brought c =
    subst (λ (k : Item). OnOk c.place_shelf.result (BringsShelves (k ∷ []) c.args.shelves.now c.place_shelf.new.shelves))
    c.in_ok-key.ensures
    c.place_shelf.ensures.brought
