-- The weights of the numbers of a list, up to a place.
use Rattle.std.proofs.Common.{◌≡◌, ℕ, ◌+◌, ◌≤◌, List, Some, sum_by, take, ap, subst, ◌∙◌}
use Rattle.std.proofs.lemmas.List.Sums.{sum_by_more, sum_by_more_le}
use Rattle.std.proofs.lemmas.Option.{get_or_from_slice_get, slice_get_within}
use Rattle.std.specs.List.{slice_get}

-- the weight of one number more
pub weight_more : (w : ℕ → ℕ) (ns : List ℕ) (i n : ℕ) → slice_get ns i ≡ Some n → sum_by w (take (i + 1) ns) ≡ sum_by w (take i ns) + w n
weight_more w ns i n e =
    sum_by_more w ns i 0 (slice_get_within ns i n e) ∙ ap (λ x. sum_by w (take i ns) + w x) (get_or_from_slice_get ns i n 0 e)

pub weight_within : (w : ℕ → ℕ) (ns : List ℕ) (i n : ℕ) → slice_get ns i ≡ Some n → sum_by w (take i ns) + w n ≤ sum_by w ns
weight_within w ns i n e =
    subst (λ x. sum_by w (take i ns) + w x ≤ sum_by w ns) (get_or_from_slice_get ns i n 0 e)
    (sum_by_more_le w ns i 0 (slice_get_within ns i n e))
