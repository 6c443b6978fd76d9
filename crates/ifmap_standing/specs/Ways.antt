-- Ways back: what subscriptions kept before they took over a change.
use Rattle.std.specs.Prelude.{◌≡◌, ◌≤◌, ℕ, List, Option, Some, None, IsSome, length, slice_get}
use Rattle.ifmap_delta.specs.declared.subscriptions.Subscription.{Subscription}
use Rattle.ifmap_delta.specs.SameSearches.{HasSameSearch}
use Rattle.ifmap_delta.specs.ifmap_region.Marks.{mark_of, row_of}
use Rattle.ifmap_delta.specs.ifmap_region.Ways.{HasRoom, IsWayBack, Sweeps}
use Rattle.ifmap_standing.specs.Kept.{AtEach, KeepsSame, StaysRelated}
use Rattle.ifmap_standing.specs.declared.standing.Standing.{Standing}

-- the marks and the size of before, as contracts see a `SubUndo`
abbrev pub Way : Type 0
Way = List (ℕ × Option ℕ) × ℕ

-- a way leads a subscription back to what it kept before. Which rows stand without a mark does not matter
pub record LeadsBack (before : Subscription) (way : Way) (now : Subscription) : Type 0 where
  pub search : HasSameSearch before now
  pub size : way.1 ≡ before.size
  pub patch : List (ℕ × Option ℕ)
  pub marks : IsWayBack way.0 patch (mark_of before.region.marks.entries) (mark_of now.region.marks.entries)
  pub room : HasRoom way.0 now.region.marks.entries
  pub rows : (v : ℕ) → IsSome (row_of before.region.marks.entries v) → IsSome (row_of now.region.marks.entries v)

-- the same where there may be a way; where there is none the subscription keeps what it kept
abbrev pub LeadsBackWhere : Option (Option Way) → Subscription → Subscription → Type 0
LeadsBackWhere None before now = KeepsSame before now
LeadsBackWhere (Some None) before now = KeepsSame before now
LeadsBackWhere (Some (Some way)) before now = LeadsBack before way now

-- and of each in a list
pub record LeadBack (before : List Standing) (ways : List (Option Way)) (now : List Standing) : Type 0 where
  pub long : length ways ≤ length now
  pub each : AtEach (λ i. StaysRelated (LeadsBackWhere (slice_get ways i))) before now

-- a way back is given up: the subscription keeps what it keeps, no number of the change has a row without a mark any more, and
-- all other rows stay. Where there is no way it stays as it is
abbrev pub IsWayGivenUp : Option (Option Way) → Subscription → Subscription → Type 0
IsWayGivenUp None old new = new ≡ old
IsWayGivenUp (Some None) old new = new ≡ old
IsWayGivenUp (Some (Some way)) old new =
    HasSameSearch old new × (new.size ≡ old.size)
    × ((v : ℕ) → mark_of new.region.marks.entries v ≡ mark_of old.region.marks.entries v)
    × Sweeps way.0 old.region.marks.entries new.region.marks.entries
