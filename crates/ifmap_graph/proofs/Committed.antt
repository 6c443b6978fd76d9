-- A change that was out is made: what was to be is, on both sides.
use Rattle.std.proofs.Common.{◌≡◌, ℕ, List, length, ap, ◌∙◌, sym, subst}
use Rattle.slab.specs.Slab.{get}
use Rattle.ifmap_ident.specs.declared.identifiers.Identifier.{Identifier}
use Rattle.ifmap_ident.specs.declared.items.Item.{Item}
use Rattle.ifmap_pool.specs.Holdings.{Holdings}
use Rattle.ifmap_view.specs.declared.views.LinkSeen.{LinkSeen}
use Rattle.ifmap_graph.specs.declared.changes.Ready.{Ready}
use Rattle.ifmap_graph.specs.declared.shelves.Shelves.{Shelves}
use Rattle.ifmap_graph.specs.Drafted.{AreBare, AreOut, StayInPlace}
use Rattle.ifmap_graph.specs.Inside.{IsInside, links_at}
use Rattle.ifmap_graph.specs.Out.{items_changed}
use Rattle.ifmap_graph.specs.Seen.{AreAwaited, IsStill, KeepsOwn, StaysLean}
use Rattle.ifmap_graph.specs.Shelved.{AreShelved, rows_on_side}
use Rattle.ifmap_graph.specs.Sides.{Sides, list_next, list_now}
use Rattle.ifmap_graph.specs.Turning.{AreDrafted, NoOthers, accept_each, sides_at}
use Rattle.ifmap_graph.proofs.Lean.{turned_lean}
use Rattle.ifmap_graph.proofs.Moved.{inside_moved, lists_stay}
use Rattle.ifmap_graph.proofs.Settled.{bare_to, inside_of}
use Rattle.ifmap_graph.proofs.Turns.{accepted_all, next_same, none_drafted, same_length}
use Rattle.ifmap_graph.proofs.Written.{own_stays, waits_stay_seen}

-- shelves stay in their places, their drafts come to be their lists, and so do those of the links
pub record IsMadeOf (names : Holdings Identifier) (s t : Shelves) (links moved : List (Sides LinkSeen)) (ready : Ready) : Type 0 where
  pub is : IsInside names (get s.slots) s.places.entries links
  pub later : AreShelved t
  pub bare : AreBare t
  pub stay : StayInPlace s t
  pub rows : rows_on_side list_now t ≡ rows_on_side list_next s
  pub same : rows_on_side list_next t ≡ rows_on_side list_next s
  pub out : AreOut (items_changed ready.plan.changes) s
  pub drafted : AreDrafted ready.ways links
  pub others : NoOthers ready.ways links
  pub turned : moved ≡ accept_each ready.ways links

module _ {names : Holdings Identifier} {s t : Shelves} {links moved : List (Sides LinkSeen)} {ready : Ready}
    (made : IsMadeOf names s t links moved ready) where
  pub made_links : (v : ℕ) → links_at list_now moved v ≡ links_at list_next links v
  made_links v = ap (λ l. links_at list_now l v) made.turned ∙ accepted_all ready.ways links v made.drafted made.others

  kept_links : (v : ℕ) → links_at list_next moved v ≡ links_at list_next links v
  kept_links v = ap (λ l. links_at list_next l v) made.turned ∙ next_same ready.ways links v made.drafted

  pub made_inside : IsInside names (get t.slots) t.places.entries moved
  made_inside =
      let is = made.is
      in let places = made.stay.places
      in let ends = made.stay.ends
      in subst (λ p. IsInside names (get t.slots) p.entries moved) (sym places)
      (inside_moved (get s.slots) (get t.slots) ends names s.places.entries links moved list_next list_next list_next list_next
      (lists_stay s t is.placed made.later places is.used ends list_next list_now made.rows)
      (lists_stay s t is.placed made.later places is.used ends list_next list_next made.same)
      made_links kept_links (ap length made.turned ∙ same_length ready.ways links) is.next_side is.next_side is)

  pub made_still : IsStill (inside_of names t moved)
  made_still =
      bare_to names t moved made.bare
      (λ v. ap (λ l. (sides_at l v).draft) made.turned ∙ none_drafted ready.ways links v made.drafted made.others)

  pub made_own : KeepsOwn (inside_of names s links) (inside_of names t moved)
  made_own = own_stays names links moved made.stay

  pub made_waits : (items : List Item) → AreAwaited items (inside_of names s links) → AreAwaited items (inside_of names t moved)
  made_waits = waits_stay_seen names links moved made.stay

  pub made_lean : AreAwaited (items_changed ready.plan.changes) (inside_of names s links)
      → StaysLean (inside_of names s links) (inside_of names t moved)
  made_lean awaits =
      turned_lean names names s t links moved (items_changed ready.plan.changes) awaits made.is.placed made.out made.stay.waits
      made.stay.places made.rows
