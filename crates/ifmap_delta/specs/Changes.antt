-- What subscriptions are told, and what a change does to one.
use Rattle.std.specs.Prelude.{◌≡◌, ◌<◌, ◌≤◌, ℕ, List, Option, Some}
use Rattle.std.specs.List.{AllByRecursion}
use Rattle.ifmap_ident.specs.declared.identifiers.Identifier.{Identifier}
use Rattle.ifmap_ident.specs.Items.{IsCanonItem}
use Rattle.ifmap_plans.specs.declared.plans.ItemChange.{ItemChange}
use Rattle.ifmap_plans.specs.Plans.{IsAfter}
use Rattle.ifmap_region.specs.Marks.{mark_of, mark_over, AllMarked}
use Rattle.ifmap_search.specs.declared.searches.Search.{Search}
use Rattle.ifmap_fresh.specs.Fresh.{fresh, fresh_size}
use Rattle.ifmap_delta.specs.declared.subscriptions.Moved.{Moved}
use Rattle.ifmap_delta.specs.declared.subscriptions.Subscribed.{Subscribed}
use Rattle.ifmap_delta.specs.declared.subscriptions.Subscribed.TheVariants.{Kept, TooBig}
use Rattle.ifmap_delta.specs.declared.subscriptions.Subscription.{Subscription}
use Rattle.ifmap_folds.specs.Differences.{difference}
use Rattle.ifmap_delta.specs.SeenViews.{AreMarks, IsUpToDate, ViewSeen}

-- a kept subscription is one of the search from the start, with its result; it is refused exactly
-- where the size of the result is greater than the search allows
abbrev pub IsSubscribed : ViewSeen → Search → ℕ → Subscribed → Type 0
IsSubscribed g s start (Kept sub found) =
    (sub.search ≡ s) × (sub.region.start ≡ start) × IsUpToDate g sub
    × AllMarked sub.region.marks.entries
    × (found.entries ≡ fresh g.rows s) × (found.size ≡ sub.size) × (sub.size ≤ s.max_size)
IsSubscribed g s start (TooBig size) = (size ≡ fresh_size g.rows s) × (s.max_size < size)

-- one view shows what another shows with these changes made: the attachments after them, and each
-- number that has an identifier before has it still
pub record ShowsAfter (old new : ViewSeen) (changes : List ItemChange) : Type 0 where
  pub canon : AllByRecursion (λ c. IsCanonItem c.item) changes
  pub after : IsAfter changes old.rows new.rows
  pub numbers : (v : ℕ) (a : Identifier) → old.id_at v ≡ Some a → new.id_at v ≡ Some a

-- once this patch and size are taken over, a subscription keeps what the view has
pub record WouldKeep (g : ViewSeen) (sub : Subscription) (patch : List (ℕ × Option ℕ))
    (new_size : ℕ) : Type 0 where
  pub marks : AreMarks g sub.search sub.region.start sub.region.max_depth
      (mark_over patch (mark_of sub.region.marks.entries))
  pub size : new_size ≡ fresh_size g.rows sub.search

-- what a change does to a subscription: what its result loses and gains, and what it keeps
-- afterwards
pub record IsMovedBetween (old new : ViewSeen) (sub : Subscription) (moved : Moved) : Type 0 where
  pub deleted : moved.deleted ≡ difference (fresh old.rows sub.search) (fresh new.rows sub.search)
  pub updated : moved.updated ≡ difference (fresh new.rows sub.search) (fresh old.rows sub.search)
  pub keeps : WouldKeep new sub moved.patch moved.new_size
