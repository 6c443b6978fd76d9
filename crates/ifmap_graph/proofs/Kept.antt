-- Shelves and links that are the same: what contracts see of them.
use Rattle.std.proofs.Common.{◌≡◌, ℕ, ◌≤◌, List, [], IsSome, length, refl, ap, ◌∙◌, sym, subst, arith}
use Rattle.std.specs.BTreeMap.{is_at}
use Rattle.std.specs.Map.{lookup}
use Rattle.ifmap_ident.specs.declared.identifiers.Identifier.{Identifier}
use Rattle.ifmap_ident.specs.declared.items.Item.{Item}
use Rattle.ifmap_ident.specs.Items.{item_order}
use Rattle.ifmap_pool.specs.Holdings.{Holdings}
use Rattle.ifmap_view.specs.declared.views.LinkSeen.{LinkSeen}
use Rattle.ifmap_view.specs.Rows.{stored_on}
use Rattle.ifmap_graph.specs.declared.shelves.Shelves.{Shelves}
use Rattle.ifmap_graph.specs.Back.{KeepsBacks, KeepsShelves}
use Rattle.ifmap_graph.specs.Inside.{GraphInside}
use Rattle.ifmap_graph.specs.Out.{IsDrafted}
use Rattle.ifmap_graph.specs.Seen.{AwaitsMore, IsStill, StaysLean, waits_in, waits_there_in}
use Rattle.ifmap_graph.specs.Shelved.{list_at, rows_by}
use Rattle.ifmap_graph.specs.Sides.{Sides, list_now}
use Rattle.ifmap_graph.specs.Stays.{HasSameShelf, StayPlaced, ends_there_in}
use Rattle.ifmap_graph.specs.Turning.{sides_at}
use Rattle.ifmap_graph.proofs.Backs.{keeps_backs}
use Rattle.ifmap_graph.proofs.Settled.{inside_of}

module _ (old new : GraphInside) (shelves : new.shelves ≡ old.shelves) (places : new.places ≡ old.places)
    (links : (v : ℕ) → sides_at new.links v ≡ sides_at old.links v) (long : length old.links ≤ length new.links) where
  there : (x : Item) → HasSameShelf old new x
  there x = (
    ap (λ l. lookup (is_at (item_order x)) l) places,
    ap (λ l. ends_there_in (lookup (is_at (item_order x)) l)) shelves,
  )

  kept_stay : StayPlaced old new
  kept_stay = record { waited = λ x a b. there x; full = λ x a b. there x }

  kept_still : IsStill old → IsStill new
  kept_still still = record {
    shelves = λ x d. still.shelves x (subst (λ l. IsDrafted l x) shelves d);
    links = λ v. ap (λ s. s.draft) (links v) ∙ still.links v;
  }

  waits_same : (x : Item) → waits_in new x ≡ waits_in old x
  waits_same x = ap (λ l. waits_there_in (lookup (is_at (item_order x)) l)) shelves

  kept_waits : AwaitsMore [] old new
  kept_waits rest a x = omega (arith, a x, waits_same x)

  kept_backs : KeepsBacks old new
  kept_backs = keeps_backs old new (ap (rows_by (list_at list_now)) shelves) (λ v. ap list_now (links v)) long kept_stay kept_waits

  kept_lean : StaysLean old new
  kept_lean rest lean = record {
    waits = λ x. omega (arith, lean.waits x, waits_same x);
    full = λ x h w e.
        lean.full x (subst (λ l. IsSome (lookup (is_at (item_order x)) l)) shelves h) (sym (waits_same x) ∙ w)
        (sym (ap (λ l. stored_on x (rows_by (list_at list_now) l)) shelves) ∙ e);
  }

  kept_shelves : KeepsShelves old new
  kept_shelves = record {
    shelves = shelves;
    places = places;
    still = kept_still;
    waits = kept_waits;
    backs = kept_backs;
    lean = kept_lean;
  }

-- identifiers were held or let go, and links may have more room
pub shelves_kept : (names later : Holdings Identifier) (s : Shelves) (links longer : List (Sides LinkSeen)) {old : GraphInside}
    → inside_of names s links ≡ old → ((v : ℕ) → sides_at longer v ≡ sides_at links v) → length links ≤ length longer
    → KeepsShelves old (inside_of later s longer)
shelves_kept names later s links longer is same long =
    subst (λ (h : GraphInside). KeepsShelves h (inside_of later s longer)) is
    (kept_shelves (inside_of names s links) (inside_of later s longer) refl refl same long)

-- nothing changed
pub shelves_same : (h : GraphInside) → KeepsShelves h h
shelves_same h = kept_shelves h h refl refl (λ v. refl) (omega arith)
