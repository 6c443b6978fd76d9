-- Items that are flagged, as flags come and as they are gone through; and the shelves that go.
use Rattle.std.proofs.Common.{◌≡◌, ℕ, ◌+◌, ◌<◌, ◌≤◌, Bool, true, false, cond, List, [], ◌∷◌, ◌++◌, length, get_or, drop, refl, ap, ◌∙◌, sym, subst, arith}
use Rattle.std.proofs.lemmas.List.{drop_all}
use Rattle.std.specs.List.{AllByRecursion, IsDistinct}
use Rattle.slab.specs.Slab.{get}
use Rattle.ifmap_ident.specs.declared.identifiers.Identifier.{Identifier}
use Rattle.ifmap_ident.specs.declared.items.Item.{Item}
use Rattle.ifmap_ident.specs.Items.{same_item}
use Rattle.ifmap_pool.specs.Holdings.{Holdings}
use Rattle.ifmap_view.specs.declared.views.LinkSeen.{LinkSeen}
use Rattle.ifmap_view.specs.Rows.{stored_on}
use Rattle.ifmap_graph.specs.declared.shelves.Shelves.{Shelves}
use Rattle.ifmap_graph.specs.Bringing.{BringsShelves, flagged_items}
use Rattle.ifmap_graph.specs.Drafted.{AreBare}
use Rattle.ifmap_graph.specs.Inside.{IsInside}
use Rattle.ifmap_graph.specs.Releasing.{IsLess}
use Rattle.ifmap_graph.specs.Shelved.{HasEmptyShelf, list_at, slot_of_item, rows_on_side}
use Rattle.ifmap_graph.specs.Sides.{Sides, list_now}
use Rattle.ifmap_graph.specs.Waits.{waits_on}
use Rattle.ifmap_graph.proofs.Brought.{brings_less, brings_unless, never_waited}
use Rattle.ifmap_graph.proofs.Finding.{unlisted_empty}
use Rattle.ifmap_graph.proofs.Lessening.{is_bare, less_itself, less_on}
use Rattle.ifmap_lemmas.specs.Options.{some_is}
use Rattle.ifmap_graph.proofs.Accepting.{apart_after}

-- where nothing is flagged
pub flagged_none : (xs : List Item) → flagged_items xs [] ≡ []
flagged_none [] = refl
flagged_none (x ∷ xs) = refl

-- one flag more
pub flagged_more : (xs : List Item) (fs : List Bool) (f : Bool) (d : Item) → length fs < length xs
    → flagged_items xs (fs ++ f ∷ []) ≡ flagged_items xs fs ++ cond f (get_or xs (length fs) d ∷ []) []
flagged_more [] fs f d h = absurd (omega (arith, h))
flagged_more (x ∷ xs) [] true d h = ap (λ l. x ∷ l) (flagged_none xs)
flagged_more (x ∷ xs) [] false d h = flagged_none xs
flagged_more (x ∷ xs) (true ∷ fs) f d h = ap (λ l. x ∷ l) (flagged_more xs fs f d (omega (arith, h)))
flagged_more (x ∷ xs) (false ∷ fs) f d h = flagged_more xs fs f d (omega (arith, h))

-- what holds of all items holds of those that are flagged
pub all_flagged : (P : Item → Type 0) (xs : List Item) (fs : List Bool) → AllByRecursion P xs → AllByRecursion P (flagged_items xs fs)
all_flagged P [] fs a = tt
all_flagged P (x ∷ xs) [] a = tt
all_flagged P (x ∷ xs) (true ∷ fs) a = (a.0, all_flagged P xs fs a.1)
all_flagged P (x ∷ xs) (false ∷ fs) a = all_flagged P xs fs a.1

module _ (items : List Item) (flags : List Bool) (names : Holdings Identifier) (first : Shelves) where
  -- of the shelves that came, so many went again
  pub record Taking (left : Holdings Identifier) (s : Shelves) (i : ℕ) : Type 0 where
    pub less : IsLess names left first s
    pub apart : IsDistinct same_item (drop i items)
    pub brought : (origin : Shelves) → BringsShelves (flagged_items items flags) origin first
        → BringsShelves (flagged_items (drop i items) (drop i flags)) origin s

  pub begins_taking : IsDistinct same_item items → Taking names first 0
  begins_taking apart = record { less = less_itself names first; apart = apart; brought = λ origin b. b }

  module _ (left : Holdings Identifier) (s : Shelves) (i : ℕ) (x : Item) (came : Bool) (here : drop i items ≡ x ∷ drop (i + 1) items)
      (flag : drop i flags ≡ came ∷ drop (i + 1) flags) (g : Taking left s i) where
    left_of : (origin : Shelves) → BringsShelves (flagged_items items flags) origin first
        → BringsShelves (cond came (x ∷ flagged_items (drop (i + 1) items) (drop (i + 1) flags))
        (flagged_items (drop (i + 1) items) (drop (i + 1) flags))) origin s
    left_of origin b =
        subst (λ l. BringsShelves (flagged_items l (came ∷ drop (i + 1) flags)) origin s) here
        (subst (λ l. BringsShelves (flagged_items (drop i items) l) origin s) flag (g.brought origin b))

    came_here : (origin : Shelves) → BringsShelves (flagged_items items flags) origin first → came ≡ true
        → BringsShelves (x ∷ flagged_items (drop (i + 1) items) (drop (i + 1) flags)) origin s
    came_here origin b t =
        subst (λ c. BringsShelves (cond c (x ∷ flagged_items (drop (i + 1) items) (drop (i + 1) flags))
        (flagged_items (drop (i + 1) items) (drop (i + 1) flags))) origin s) t
        (left_of origin b)

    -- the shelf that goes is empty, and nobody waits for it
    pub takes_empty : (links : List (Sides LinkSeen)) → IsInside names (get first.slots) first.places.entries links → AreBare first
        → (origin : Shelves) → rows_on_side list_now origin ≡ rows_on_side list_now first
        → BringsShelves (flagged_items items flags) origin first →
        came ≡ true
        → HasEmptyShelf s x
    takes_empty links is bare origin rows b t =
        let p = came_here origin b t
        in let at = some_is (slot_of_item s x) p.there.0
        in is_bare s x at.0 (g.less.inside links is).placed (g.less.bare bare) at.1
        (ap (stored_on x) (g.less.rows ∙ sym rows)
        ∙ sym (unlisted_empty (λ n. list_at list_now (get origin.slots n)) x origin.places.entries p.absent.0))

    pub takes_idle : (origin : Shelves) → BringsShelves (flagged_items items flags) origin first → came ≡ true → waits_on s x ≡ 0
    takes_idle origin b t = let p = came_here origin b t in p.waits x ∙ never_waited origin x p.absent.0

    module _ (later : Holdings Identifier) (t : Shelves) (less : IsLess left later s t)
        (taken : BringsShelves (cond came (x ∷ []) []) t s) where
      goes_by : (c : Bool) (origin : Shelves)
          → BringsShelves (cond c (x ∷ flagged_items (drop (i + 1) items) (drop (i + 1) flags))
          (flagged_items (drop (i + 1) items) (drop (i + 1) flags)))
          origin s
          → BringsShelves (cond c (x ∷ []) []) t s → BringsShelves (flagged_items (drop (i + 1) items) (drop (i + 1) flags)) origin t
      goes_by true origin p q =
          brings_less x (flagged_items (drop (i + 1) items) (drop (i + 1) flags)) origin t s p q
          (all_flagged (λ y. same_item x y ≡ false) (drop (i + 1) items) (drop (i + 1) flags) (apart_after items i x here g.apart).0)
      goes_by false origin p q = brings_unless (flagged_items (drop (i + 1) items) (drop (i + 1) flags)) origin t s p q

      pub takes_on : Taking later t (i + 1)
      takes_on = record {
        less = less_on names left later first s t g.less less;
        apart = (apart_after items i x here g.apart).1;
        brought = λ origin b. goes_by came origin (left_of origin b) taken;
      }

  pub taken_all : (left : Holdings Identifier) (s : Shelves) (i : ℕ) → length flags ≤ i → Taking left s i → (origin : Shelves)
      → BringsShelves (flagged_items items flags) origin first → BringsShelves [] origin s
  taken_all left s i h g origin b =
      subst (λ l. BringsShelves l origin s) (flagged_none (drop i items))
      (subst (λ l. BringsShelves (flagged_items (drop i items) l) origin s) (drop_all i flags h) (g.brought origin b))
