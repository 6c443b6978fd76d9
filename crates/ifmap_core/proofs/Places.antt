-- Subscriptions place by place: those that are not gone, and what stays from one list of them to another.
-- First what is not gone (`all_are_kept`), also once more is gone (`kept_fewer`). Then subscriptions of the same searches, and what they
-- keep.
use Rattle.std.proofs.Common.{◌≡◌, ◌∙◌, ap, ℕ, Bool, true, List, length, Some, slice_get}
use Rattle.std.specs.List.{AllByRecursion}
use Rattle.ifmap_lemmas.specs.Flags.{was_kept}
use Rattle.ifmap_lemmas.specs.Places.{all_got}
use Rattle.ifmap_subscribes.specs.ifmap_delta.SameSearches.{HasSameSearch}
use Rattle.ifmap_subscribes.specs.ifmap_standing.declared.standing.Standing.{Standing}
use Rattle.ifmap_subscribes.specs.ifmap_standing.Kept.{AtEach, KeepsSame, StaysRelated}
use Rattle.ifmap_subscribes.specs.ifmap_standing.Standing.{standing_of}
use Rattle.ifmap_subscribes.specs.ifmap_tellings.Tellings.{AllKept}
use Rattle.ifmap_subscribes.specs.ifmap_standing.PlaceLaws.{at_each_same, search_itself, stands_itself}

-- ---- what is not gone

module _ (P : Standing → Type 0) where
  pub all_are_kept : (gone : List Bool) (xs : List Standing) → AllByRecursion P xs → AllKept P gone xs
  all_are_kept gone xs h = λ i x p q. all_got P xs i x h p

pub kept_both : (P Q R : Standing → Type 0) → ((x : Standing) → P x → Q x → R x) → (gone : List Bool) (xs : List Standing)
    → AllKept P gone xs
    → AllKept Q gone xs → AllKept R gone xs
kept_both P Q R f gone xs h k = λ i x p q. f x (h i x p q) (k i x p q)

-- flags of which more are up
abbrev pub Rises : List Bool → List Bool → Type 0
Rises old new = (i : ℕ) → slice_get old i ≡ Some true → slice_get new i ≡ Some true

pub kept_fewer : (P : Standing → Type 0) (old new : List Bool) (xs : List Standing) → length new ≡ length old → Rises old new
    → AllKept P old xs → AllKept P new xs
kept_fewer P old new xs long up h = λ i x p q. h i x p (was_kept old new long up i q)

-- ---- what stays

-- subscriptions of the same searches are shown the same
pub same_shown : (x y : Standing) → y.serial ≡ x.serial → y.name ≡ x.name → y.subscription.search ≡ x.subscription.search
    → standing_of y ≡ standing_of x
same_shown x y serial name search =
    ap (λ (n : ℕ). record { serial = n; name = y.name; search = y.subscription.search }) serial
    ∙ ap (λ (t : List ℕ). record { serial = x.serial; name = t; search = y.subscription.search }) name
    ∙ ap (λ s. record { serial = x.serial; name = x.name; search = s }) search

pub shown_kept : (i : ℕ) (x y : Standing) → StaysRelated KeepsSame x y → standing_of y ≡ standing_of x
shown_kept i x y s = same_shown x y s.serial s.name s.subscription.search.search

pub searched_itself : (a : List Standing) → AtEach (λ _. StaysRelated HasSameSearch) a a
searched_itself a = at_each_same (λ _. StaysRelated HasSameSearch) (λ i. stands_itself HasSameSearch search_itself) a
