-- The links that a change makes match, or match no more, and which of its items are near what has a
-- mark. No public clause cites this module.
use Rattle.std.specs.Prelude.{◌≡◌, ℕ, Bool, true, false, not, ◌||◌, List, Option, None, Some, is_some}
use Rattle.ifmap_ident.specs.declared.items.Item.{Item}
use Rattle.ifmap_ident.specs.declared.items.Item.TheVariants.{One, Pair}
use Rattle.ifmap_lemmas.specs.Having.{Has}
use Rattle.ifmap_plans.specs.declared.plans.ItemChange.{ItemChange}
use Rattle.ifmap_region.specs.declared.flips.Flip.{Flip}
use Rattle.ifmap_search.specs.declared.searches.Search.{Search}
use Rattle.ifmap_view.specs.Rows.{stored_on}
use Rattle.ifmap_fresh.specs.Matching.{one_meets}
use Rattle.ifmap_delta.specs.declared.locating.LocatedChange.{LocatedChange}
use Rattle.ifmap_delta.specs.SeenViews.{ViewSeen}

-- a number is there and has a mark
abbrev pub is_marked : (ℕ → Option ℕ) → Option ℕ → Bool
is_marked mark None = false
is_marked mark (Some v) = is_some (mark v)

-- one of two numbers has a mark
abbrev pub is_one_marked : (ℕ → Option ℕ) → Option ℕ → Option ℕ → Bool
is_one_marked mark v w = is_marked mark v || is_marked mark w

-- the number of an end of the item has a mark
abbrev pub is_near : (ℕ → Option ℕ) → LocatedChange → Bool
is_near mark l = is_one_marked mark l.after.first l.after.second

module _ (old new : ViewSeen) (s : Search) where
  -- the flip joins the numbers of the item's identifiers, and its link matches in one of the two
  -- alone
  abbrev pub IsFlipAt : Item → Flip → Type 0
  IsFlipAt (One a) flip = ⊥
  IsFlipAt (Pair a b) flip =
      (new.id_at flip.a ≡ Some a) × (new.id_at flip.b ≡ Some b)
      × (one_meets s.match_links (stored_on (Pair a b) old.rows) ≡ not flip.added)
      × (one_meets s.match_links (stored_on (Pair a b) new.rows) ≡ flip.added)

  -- flips are of items that change, and each is there of which an end has a mark
  pub record AreFlipsOf (mark : ℕ → Option ℕ) (changes : List ItemChange) (flips : List Flip)
      : Type 0 where
    pub only : (flip : Flip) → Has flips flip
        → (c : ItemChange) × Has changes c × IsFlipAt c.item flip
    pub each : (c : ItemChange) (flip : Flip) → Has changes c → IsFlipAt c.item flip
        → is_one_marked mark (Some flip.a) (Some flip.b) ≡ true → Has flips flip
