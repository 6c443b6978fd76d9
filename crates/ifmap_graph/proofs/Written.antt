-- Lists of shelves and of links were written, and no shelf came or went: what contracts see.
use Rattle.std.proofs.Common.{◌≡◌, ℕ, ◌+◌, List, ◌++◌, ap, ◌∙◌, sym, subst, arith}
use Rattle.slab.specs.Slab.{get}
use Rattle.ifmap_ident.specs.declared.identifiers.Identifier.{Identifier}
use Rattle.ifmap_ident.specs.declared.items.Item.{Item}
use Rattle.ifmap_ident.specs.Identifiers.{identifier_order}
use Rattle.ifmap_pool.specs.Holdings.{Holdings, IsHeld}
use Rattle.ifmap_view.specs.declared.views.LinkSeen.{LinkSeen}
use Rattle.ifmap_graph.specs.declared.shelves.Shelves.{Shelves}
use Rattle.ifmap_graph.specs.Back.{KeepsBacks, KeepsOtherBacks}
use Rattle.ifmap_graph.specs.Drafted.{StayInPlace}
use Rattle.ifmap_graph.specs.Inside.{GraphInside}
use Rattle.ifmap_graph.specs.Named.{uses_in}
use Rattle.ifmap_graph.specs.Out.{items_changed}
use Rattle.ifmap_graph.specs.Seen.{AreAwaited, KeepsOwn, rows_now}
use Rattle.ifmap_graph.specs.Shelved.{rows_on_side}
use Rattle.ifmap_graph.specs.Sides.{Sides, list_now}
use Rattle.ifmap_graph.specs.Stays.{HasSameShelf, StayPlaced}
use Rattle.ifmap_graph.specs.Touched.{KeepsLinks}
use Rattle.ifmap_graph.proofs.Backs.{keeps_backs}
use Rattle.ifmap_graph.proofs.Insides.{named_shown, rows_shown}
use Rattle.ifmap_graph.proofs.Seeing.{seen_of, stays_there}
use Rattle.ifmap_graph.proofs.Settled.{inside_of, waits_shown}

-- shelves that stay in their places
module _ (names : Holdings Identifier) {s t : Shelves} (links moved : List (Sides LinkSeen)) (stay : StayInPlace s t) where
  pub own_stays : KeepsOwn (inside_of names s links) (inside_of names t moved)
  own_stays a own h =
      subst (λ (n : ℕ). IsHeld identifier_order names a (n + own))
      (named_shown (get s.slots) s.places.entries a ∙ sym (ap (λ p. uses_in p.entries a) stay.places)
      ∙ sym (named_shown (get t.slots) t.places.entries a)) h

  pub waits_stay_seen : (items : List Item) → AreAwaited items (inside_of names s links) → AreAwaited items (inside_of names t moved)
  waits_stay_seen items a x = omega (arith, a x, waits_shown names s links x, waits_shown names t moved x, stay.waits x)

module _ (names : Holdings Identifier) {s t : Shelves} {links later : List (Sides LinkSeen)} (stay : StayInPlace s t)
    (rows : rows_on_side list_now t ≡ rows_on_side list_now s) (kept : KeepsLinks links later) where
  pub written_now : rows_now (inside_of names t later) ≡ rows_now (inside_of names s links)
  written_now = rows_shown list_now (get t.slots) t.places.entries ∙ rows ∙ sym (rows_shown list_now (get s.slots) s.places.entries)

  there : (x : Item) → HasSameShelf (inside_of names s links) (inside_of names t later) x
  there x =
      subst (λ p. HasSameShelf (inside_of names s links) (seen_of (get t.slots) p.entries names later) x) (sym stay.places)
      (stays_there (get s.slots) (get t.slots) s.places.entries names names links later stay.ends x)

  written_stay : StayPlaced (inside_of names s links) (inside_of names t later)
  written_stay = record { waited = λ x a b. there x; full = λ x a b. there x }

  pub written_backs : KeepsBacks (inside_of names s links) (inside_of names t later)
  written_backs =
      keeps_backs (inside_of names s links) (inside_of names t later) written_now kept.now (omega (arith, kept.long)) written_stay
      (λ rest a. waits_stay_seen names links later stay rest a)

-- ways back stay beside these items, where they stay at first, and beside them then
pub first_backs : (items : List Item) (old mid new : GraphInside) → ((rest : List Item) → AreAwaited rest old → AreAwaited rest mid)
    → KeepsBacks old mid → KeepsOtherBacks items mid new → KeepsOtherBacks items old new
first_backs items old mid new more one other u rows links waits b = other u rows links (more (items ++ items_changed u.plan.changes) waits)
    (one u rows links b)
