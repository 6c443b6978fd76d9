use Rattle.std.proofs.Common.{rules, ◌≡◌, ℕ, List, Result, Ok, Err, length}
use Rattle.std.proofs.lemmas.Fn.{always_returns_same}
use Rattle.std.specs.Cmp.Lexicographic.{slice_cmp}
use Rattle.std.specs.List.Sorted.{IsBinarySearchResult, IsSearchInRange, IsStrictlySortedBy}
use Rattle.std.specs.Ordering.{nat_cmp}
use Rattle.std.specs.Result.{IfErr}
use Rattle.ifmap_session.specs.declared.holders.Holder.{Holder}
use Rattle.ifmap_session.specs.Rows.{client_order}
use Rattle.ifmap_session.specs.Places.{IsPlaceFor}
use Rattle.ifmap_session.proofs.SessionLaws.{holder_gap, holder_placed}
use Rattle.ifmap_session.proofs.holders.place_of_client.Goals as goal

gap_at : (holders : List Holder) (client : List ℕ) (r : Result ℕ ℕ) → IsStrictlySortedBy client_order holders
    → IsSearchInRange r (length holders) → IsBinarySearchResult (λ (h : Holder). slice_cmp nat_cmp h.client client) holders r
    → IfErr r (IsPlaceFor client holders)
gap_at holders client (Ok i) up within is = tt
gap_at holders client (Err i) up within is = holder_gap holders client i up within is

pub returns : goal.returns
returns c =
    let found = c.binary_search_by.ensures.position (λ h. slice_cmp nat_cmp h.client c.args.client.now) (always_returns_same _
    (λ a r. r ≡ slice_cmp nat_cmp a.0.now.client c.args.client.now) _ (λ a r q k. search rules)) in
    record {
      place = holder_placed _ _ _ c.requires c.binary_search_by.ensures.bound found;
      gap = gap_at _ _ _ c.requires c.binary_search_by.ensures.bound found;
    }
