-- Taking back, as a walk down of ways.
use Rattle.std.proofs.Common.{◌≡◌, ℕ, Option, Some, List, [], ◌∷◌, ◌++◌, length, get_or, slice_get, sym, subst}
use Rattle.ifmap_delta.specs.declared.subscriptions.Subscription.{Subscription}
use Rattle.ifmap_lemmas.specs.Places.{something_at}
use Rattle.ifmap_standing.specs.declared.standing.Standing.{Standing}
use Rattle.ifmap_standing.specs.Kept.{AtEach, KeepsSame, StaysRelated}
use Rattle.ifmap_standing.specs.Ways.{LeadBack, LeadsBackWhere, Way}
use Rattle.ifmap_standing.proofs.Places.{Down, stand_joined, there_old, way_there}
use Rattle.ifmap_standing.specs.PlaceLaws.{at_each_joined}

-- whatever the way leads back to is kept again
abbrev pub IsUndone : Option (Option Way) → Subscription → Subscription → Type 0
IsUndone way now new = (before : Subscription) → LeadsBackWhere way before now → KeepsSame before new

pub leads_all_back : (ways : List (Option Way)) (now new before : List Standing)
    → AtEach (λ i. StaysRelated (IsUndone (slice_get ways i))) now new
    → LeadBack before ways now → AtEach (λ _. StaysRelated KeepsSame) before new
leads_all_back ways now new before u l =
    at_each_joined (λ i. StaysRelated (LeadsBackWhere (slice_get ways i))) (λ i. StaysRelated (IsUndone (slice_get ways i)))
    (λ _. StaysRelated KeepsSame)
    (λ i x y z r s. stand_joined (LeadsBackWhere (slice_get ways i)) (IsUndone (slice_get ways i)) KeepsSame (λ a b c h k. k a h)
    x y z r s) before now new l.each u

-- at the place that is next, something is led back to
pub lead_at : (ways : List (Option Way)) (old : List Standing) (left less : List (Option Way)) (now : List Standing) (way : Option Way)
    (at : ℕ) (x : Standing) → Down IsUndone (λ x before k. k) ways old left now → left ≡ less ++ way ∷ [] → at ≡ length less
    → x ≡ get_or now at x → (before : List Standing) × LeadBack before ways old
    → (b : Subscription) × LeadsBackWhere (Some way) b (get_or now at x).subscription
lead_at ways old left less now way at x d cut place is b =
    let here = there_old IsUndone (λ x before k. k) ways old left less now way at x d cut place is
    in let by = way_there IsUndone (λ x before k. k) ways old left less now way at x d cut place is
    in let was = something_at old b.0 at x (sym b.1.each.long) here
    in let leads = (b.1.each.at at was.0 x was.1 here).subscription
    in (
      was.0.subscription,
      subst (λ z. LeadsBackWhere (Some way) was.0.subscription z.subscription) is
          (subst (λ o. LeadsBackWhere o was.0.subscription x.subscription) by leads),
    )
