-- The sizes of queues.
use Rattle.std.proofs.Common.{◌≡◌, refl, ℕ, ◌+◌, ◌-◌, ◌*◌, ◌^◌, ◌<◌, ◌≤◌, min, not, Bool, List, [], ◌∷◌, length, arith}
use Rattle.std.proofs.lemmas.List.Filters.{sum_by-filter_both}
use Rattle.std.proofs.lemmas.List.Sums.{sum_by-cons}
use Rattle.std.specs.List.{filter, sum_by}
use Rattle.ifmap_search.specs.declared.results.PollItem.{PollItem}
use Rattle.ifmap_search.specs.Sizes.{poll_size, queue_size}
use Rattle.ifmap_session.specs.Seats.{counted_size}

small : (a : ℕ) → min a (2 ^ 64 - 1) ≤ 2 ^ 64 - 1
small a = omega arith

-- each counted size is below 2^64
pub counted_few : (queue : List PollItem) → sum_by counted_size queue ≤ (2 ^ 64 - 1) * length queue
counted_few [] = omega arith
counted_few (item ∷ queue) =
    let h = counted_few queue in let s = small (poll_size item) in rw (sum_by-cons counted_size item queue) (omega arith)

pub one_more_fits : (queue : List PollItem) (size more : ℕ) → size ≡ sum_by counted_size queue → length queue < 2 ^ 64 → more < 2 ^ 64
    → size + more < 2 ^ 128
one_more_fits queue size more e few low = let h = counted_few queue in omega arith

-- what passes a test and what does not, together
pub sizes_add_up : (p : PollItem → Bool) (queue : List PollItem)
    → sum_by counted_size (filter p queue) + sum_by counted_size (filter (λ item. not (p item)) queue) ≡ sum_by counted_size queue
sizes_add_up p queue = sum_by-filter_both p (λ item. not (p item)) (λ item. refl) counted_size queue

pub named_more_fits : (p : PollItem → Bool) (queue : List PollItem) (size more : ℕ) → size ≡ sum_by counted_size (filter p queue)
    → length queue < 2 ^ 64 → more < 2 ^ 64 → size + more < 2 ^ 128
named_more_fits p queue size more e few low = let h = sizes_add_up p queue in let f = counted_few queue in omega arith

pub rest_size : (p : PollItem → Bool) (queue rest : List PollItem) (size named : ℕ) → size ≡ sum_by counted_size queue
    → named ≡ sum_by counted_size (filter p queue) → rest ≡ filter (λ item. not (p item)) queue → size - named ≡ sum_by counted_size rest
rest_size p queue rest size named e f g = let h = sizes_add_up p queue in rw g (omega arith)

pub named_within : (p : PollItem → Bool) (queue : List PollItem) (size named : ℕ) → size ≡ sum_by counted_size queue
    → named ≡ sum_by counted_size (filter p queue) → named ≤ size
named_within p queue size named e f = let h = sizes_add_up p queue in omega arith

two_stops : (a b c : ℕ) → min b (2 ^ 64 - 1) ≡ min c (2 ^ 64 - 1) → min (min a (2 ^ 64 - 1) + b) (2 ^ 64 - 1) ≡ min (a + c) (2 ^ 64 - 1)
two_stops a b c e = omega arith

-- a size that stops at its type's end is that of the whole
pub counted_whole : (queue : List PollItem) → min (sum_by counted_size queue) (2 ^ 64 - 1) ≡ min (queue_size queue) (2 ^ 64 - 1)
counted_whole [] = refl
counted_whole (item ∷ queue) =
    rw (sum_by-cons counted_size item queue, sum_by-cons poll_size item queue)
    (two_stops (poll_size item) (sum_by counted_size queue) (queue_size queue) (counted_whole queue))
