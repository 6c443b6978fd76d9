-- What subscriptions keep from one state of a list of them to another, and which can be told of a change.
use Rattle.std.specs.Prelude.{◌≡◌, ℕ, Bool, true, false, List, length, Some, IsSome, slice_get}
use Rattle.ifmap_delta.specs.declared.subscriptions.Subscription.{Subscription}
use Rattle.ifmap_delta.specs.SameSearches.{HasSameSearch}
use Rattle.ifmap_delta.specs.ifmap_region.Marks.{mark_of, row_of}
use Rattle.ifmap_standing.specs.declared.standing.Standing.{Standing}
use Rattle.ifmap_delta.specs.SeenViews.{IsUpToDate, ViewSeen}

-- a relation holds at each place of two lists of one length
pub record AtEach {X : Type 0} (R : ℕ → X → X → Type 0) (old new : List X) : Type 0 where
  pub long : length new ≡ length old
  pub at : (i : ℕ) (x y : X) → slice_get old i ≡ Some x → slice_get new i ≡ Some y → R i x y

-- the serial and the name stay, and a relation holds of the subscription before and after
pub record StaysRelated (R : Subscription → Subscription → Type 0) (old new : Standing) : Type 0 where
  pub serial : new.serial ≡ old.serial
  pub name : new.name ≡ old.name
  pub subscription : R old.subscription new.subscription

-- a subscription keeps what it kept: the search, the size and the marks. Each number that had a row has one still
pub record KeepsSame (old new : Subscription) : Type 0 where
  pub search : HasSameSearch old new
  pub size : new.size ≡ old.size
  pub marks : (v : ℕ) → mark_of new.region.marks.entries v ≡ mark_of old.region.marks.entries v
  pub rows : (v : ℕ) → IsSome (row_of old.region.marks.entries v) → IsSome (row_of new.region.marks.entries v)

-- P holds of each subscription that is kept: whose flag is down
abbrev pub AllKept : (Standing → Type 0) → List Bool → List Standing → Type 0
AllKept P flags standing = (i : ℕ) (x : Standing) → slice_get standing i ≡ Some x → slice_get flags i ≡ Some false → P x

-- there is a flag for each subscription, and those that are not skipped are up to date
pub record CanBeTold (g : ViewSeen) (skipped : List Bool) (standing : List Standing) : Type 0 where
  pub flags : length skipped ≡ length standing
  pub kept : AllKept (λ x. IsUpToDate g x.subscription) skipped standing

-- those that are not skipped are up to date, and the others as they were
pub record AreBroughtUpToDate (g : ViewSeen) (skipped : List Bool) (old new : List Standing) : Type 0 where
  pub kept : AllKept (λ x. IsUpToDate g x.subscription) skipped new
  pub same : AtEach (λ i x y. slice_get skipped i ≡ Some true → y ≡ x) old new

abbrev pub StaysSame : Type 0
StaysSame = (g : ViewSeen) (old new : Subscription) → KeepsSame old new → IsUpToDate g old → IsUpToDate g new
