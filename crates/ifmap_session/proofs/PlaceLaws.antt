-- Where the row of a serial stands, as a search by halving tells.
use Rattle.std.proofs.Common.{◌≡◌, sym, ◌∙◌, ap, subst, ℕ, ◌<◌, ◌==◌, true, false, List, length, get_or, Option, None, Some, Result, Ok, Err}
use Rattle.std.proofs.lemmas.Cmp.{nat_cmp_total}
use Rattle.std.proofs.lemmas.Option.{slice_get-get_or}
use Rattle.std.specs.List.{slice_get}
use Rattle.std.specs.List.Sorted.{IsBinarySearchResult, IsSearchInRange}
use Rattle.std.specs.Option.{is_some, option_map, unwrap_or}
use Rattle.std.specs.Ordering.{is_eq, nat_cmp}
use Rattle.std.specs.Result.{result_ok}
use Rattle.ifmap_lemmas.specs.Numbers.{equal_by_order, ties_where_equal}
use Rattle.ifmap_session.specs.declared.rows.SessionRow.{SessionRow}
use Rattle.ifmap_session.specs.Rows.{AreOwn, live_in, serial_at}
use Rattle.ifmap_session.specs.Places.{IsPlaceOf}
use Rattle.ifmap_session.specs.Seats.{Seat}
use Rattle.ifmap_session.specs.Sessions.{session_with_serial}
use Rattle.ifmap_session.proofs.Halving.{search_gives_place}
use Rattle.ifmap_session.proofs.RowLaws.{none_in_row, none_of, row_of}
use Rattle.ifmap_lemmas.specs.Finding.{none_passes}

module _ (rows : List SessionRow) (n : ℕ) (o : AreOwn rows) where
  pub no_place_no_session : (r : Result ℕ ℕ) → IsSearchInRange r (length rows)
      → IsBinarySearchResult (λ (x : SessionRow). nat_cmp x.serial n) rows r
      → result_ok r ≡ None → session_with_serial n (live_in rows) ≡ None
  no_place_no_session (Ok i) within is e = cc
  no_place_no_session (Err i) within is e =
      let place : IsPlaceOf (λ (x : SessionRow). x.serial == n) rows (Err i) =
      search_gives_place SessionRow ℕ (λ (x : SessionRow). x.serial) nat_cmp nat_cmp_total (λ a b. a == b) equal_by_order rows n
      (Err i) o.rising within is in
      none_of n rows o.own (none_passes (λ (x : SessionRow). x.serial == n) rows place.1)

  -- a place that the search gave, with the row there
  at_place : (r : Result ℕ ℕ) (i : ℕ) (x : SessionRow) → IsSearchInRange r (length rows)
      → IsBinarySearchResult (λ (x : SessionRow). nat_cmp x.serial n) rows r → result_ok r ≡ Some i → x ≡ get_or rows i x
      → (i < length rows) × (slice_get rows i ≡ Some (record { serial = n; kept = x.kept }))
  at_place (Err j) i x within is e at = cc
  at_place (Ok j) i x within is e at =
      let same : j ≡ i = cc in
      let low : i < length rows = subst (λ k. k < length rows) same within in
      let serial : x.serial ≡ n = ap (λ (y : SessionRow). y.serial) at ∙ subst (λ k. (get_or rows k x).serial ≡ n) same
      ((ties_where_equal (get_or rows j x).serial n).0 (ap is_eq (is x))) in
      (low, slice_get-get_or rows i x low ∙ ap Some (sym at) ∙ ap (λ s. Some (record { serial = s; kept = x.kept })) serial)

  some_at : (i : ℕ) (kept : Option Seat) → is_some kept ≡ true → slice_get rows i ≡ Some (record { serial = n; kept = kept })
      → (seat : Seat) × (slice_get rows i ≡ Some (row_of n seat))
  some_at i None some e = cc
  some_at i (Some seat) some e = (seat, e)

  pub row_there : (r : Result ℕ ℕ) (i : ℕ) (x : SessionRow) → IsSearchInRange r (length rows)
      → IsBinarySearchResult (λ (x : SessionRow). nat_cmp x.serial n) rows r → result_ok r ≡ Some i → x ≡ get_or rows i x
      → is_some (get_or rows i x).kept ≡ true → (i < length rows) × ((seat : Seat) × (slice_get rows i ≡ Some (row_of n seat)))
  row_there r i x within is e at some = let p = at_place r i x within is e at in
      (p.0, some_at i x.kept (subst (λ (y : SessionRow). is_some y.kept ≡ true) (sym at) some) p.1)

  none_at : (i : ℕ) (kept : Option Seat) → is_some kept ≡ false → slice_get rows i ≡ Some (record { serial = n; kept = kept })
      → session_with_serial n (live_in rows) ≡ None
  none_at i None none e = none_in_row n rows i o.rising o.own e
  none_at i (Some seat) none e = cc

  pub row_empty : (r : Result ℕ ℕ) (i : ℕ) (x : SessionRow) → IsSearchInRange r (length rows)
      → IsBinarySearchResult (λ (x : SessionRow). nat_cmp x.serial n) rows r → result_ok r ≡ Some i → x ≡ get_or rows i x
      → is_some (get_or rows i x).kept ≡ false → session_with_serial n (live_in rows) ≡ None
  row_empty r i x within is e at none = let p = at_place r i x within is e at in
      none_at i x.kept (subst (λ (y : SessionRow). is_some y.kept ≡ false) (sym at) none) p.1

pub serial_got : (rows : List SessionRow) (i : ℕ) (x : SessionRow) → i < length rows → (get_or rows i x).serial ≡ serial_at rows i
serial_got rows i x within =
    sym (ap (λ (o : Option SessionRow). unwrap_or (option_map (λ (r : SessionRow). r.serial) o) 0) (slice_get-get_or rows i x within))
