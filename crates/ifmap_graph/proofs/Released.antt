-- Items are waited for once less, and shelves that are empty and not waited for go: what contracts see.
use Rattle.std.proofs.Common.{◌≡◌, List, refl, subst, arith}
use Rattle.ifmap_ident.specs.declared.identifiers.Identifier.{Identifier}
use Rattle.ifmap_ident.specs.declared.items.Item.{Item}
use Rattle.ifmap_pool.specs.Holdings.{Holdings}
use Rattle.ifmap_view.specs.declared.views.LinkSeen.{LinkSeen}
use Rattle.ifmap_graph.specs.declared.shelves.Shelves.{Shelves}
use Rattle.ifmap_graph.specs.Back.{KeepsOtherBacks}
use Rattle.ifmap_graph.specs.Inside.{GraphInside}
use Rattle.ifmap_graph.specs.Releasing.{AreFilled, IsLess}
use Rattle.ifmap_graph.specs.Seen.{AwaitsLess, IsStill, KeepsOwn, StaysLeanWithout, rows_next, rows_now}
use Rattle.ifmap_graph.specs.Shelved.{AreShelved}
use Rattle.ifmap_graph.specs.Sides.{Sides}
use Rattle.ifmap_graph.specs.Stays.{StayPlaced}
use Rattle.ifmap_graph.specs.Waits.{WaitsFor}
use Rattle.ifmap_graph.proofs.Backs.{keeps_other_backs}
use Rattle.ifmap_graph.proofs.Lean.{less_lean}
use Rattle.ifmap_graph.proofs.Settled.{bare_from, bare_to, inside_of, less_next, less_now, less_own, less_stay, less_waits}

-- nothing is out, and these items are waited for once less
pub record AreReleased (items : List Item) (old new : GraphInside) : Type 0 where
  pub now : rows_now new ≡ rows_now old
  pub next : rows_next new ≡ rows_next old
  pub still : IsStill new
  pub own : KeepsOwn old new
  pub waits : AwaitsLess items old new
  pub stay : StayPlaced old new
  pub backs : KeepsOtherBacks items old new
  pub lean : StaysLeanWithout items old new

module _ (names left : Holdings Identifier) (s t : Shelves) (links : List (Sides LinkSeen)) (items : List Item)
    (less : IsLess names left s t) (is : AreShelved s) (waits : WaitsFor items t s) (filled : AreFilled s → AreFilled t) where
  releases_still : IsStill (inside_of names s links) → AreReleased items (inside_of names s links) (inside_of left t links)
  releases_still still =
      let bare = bare_from names s links is still
      in let rows = less_now names left s t links less
      in let stay = less_stay names left s t links less
      in let fewer = less_waits names left s t links less items waits
      in record {
        now = rows;
        next = less_next names left s t links less bare;
        still = bare_to left t links (less.bare bare) still.links;
        own = less_own names left s t links less;
        waits = fewer;
        stay = stay;
        backs = keeps_other_backs (inside_of names s links) (inside_of left t links) rows (λ v. refl) (omega arith) stay items fewer;
        lean = less_lean names left s t links links items waits filled;
      }

  pub are_released : {old : GraphInside} → inside_of names s links ≡ old → IsStill (inside_of names s links)
      → AreReleased items old (inside_of left t links)
  are_released seen still = subst (λ (h : GraphInside). AreReleased items h (inside_of left t links)) seen (releases_still still)
