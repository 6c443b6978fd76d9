-- Rows, as the session of one changes, ends or begins.
-- First, over any view of what rows keep: what looks for one serial passes over the rows of others (`find_past`,
-- `filter_past`, `map_past`). Then, for the row at a place: its session is found (`found_in_row`), or none is (`none_in_row`, `none_of`);
-- it changes (`changed_in_row`), ends (`ended_in_row`) or begins (`begun_last`), and so does the room of its queue (`spare_found`,
-- `spare_other`). Last: the order of rows and what holds of each stay (`own_set`, `own_push`, `own_filter`).
use Rattle.std.proofs.Common.{◌≡◌, ◌≢◌, refl, sym, ◌∙◌, ap, subst, ℕ, zero, suc, ◌+◌, ◌<◌, ◌≤◌, ◌==◌, Bool, true, false, not, cond, List, [], ◌∷◌, ◌++◌, length, map, set, Option, None, Some, arith}
use Rattle.std.proofs.lemmas.Bool.{eqb-true, eq-eqb, false_from_ne_true}
use Rattle.std.proofs.lemmas.Bool.Decides.{nat_tests}
use Rattle.std.proofs.lemmas.List.Kept.{IsStrictlySortedBy-filter}
use Rattle.std.proofs.lemmas.List.{map-append}
use Rattle.std.specs.List.{AllByRecursion, filter, find, list_any, slice_get}
use Rattle.std.specs.List.Sorted.{IsStrictlySortedBy}
use Rattle.std.specs.Option.{IfSome, is_some, option_map, option_to_list, unwrap_or}
use Rattle.std.specs.declared.cmp.Ordering.TheVariants.{Less}
use Rattle.ifmap_lemmas.specs.Filters.{all_filter, all_weaker}
use Rattle.ifmap_lemmas.specs.Found.{find_push}
use Rattle.ifmap_lemmas.specs.Inserted.{all_set}
use Rattle.ifmap_lemmas.specs.Places.{all_got}
use Rattle.ifmap_session.specs.declared.rows.SessionRow.{SessionRow}
use Rattle.ifmap_session.specs.Rows.{AreOwn, HasOwnSerial, live_in, serial_order, seats_of, spare_in}
use Rattle.ifmap_session.specs.Seats.{Seat}
use Rattle.ifmap_session.specs.Sessions.{Session, change, session_with_serial, spare_of, without_sessions}
use Rattle.ifmap_lemmas.specs.Members.{all_last}

-- rows rise by their serials
abbrev pub Up : List SessionRow → Type 0
Up rows = IsStrictlySortedBy serial_order rows

-- each row's session has its serial, with which its id begins
abbrev pub Own : List SessionRow → Type 0
Own rows = AllByRecursion (λ (r : SessionRow). IfSome r.kept (HasOwnSerial r.serial)) rows

-- no row has that serial
abbrev pub Others : ℕ → List SessionRow → Type 0
Others n rows = AllByRecursion (λ (r : SessionRow). (r.serial == n) ≡ false) rows

-- the row of a live session
abbrev pub row_of : ℕ → Seat → SessionRow
row_of n seat = record { serial = n; kept = Some seat }

-- a row whose session ended
abbrev pub empty_row : ℕ → SessionRow
empty_row n = record { serial = n; kept = None }

-- the session of a seat
abbrev pub the_session : Seat → Session
the_session s = s.session

-- the room of its queue, beside its serial
abbrev pub the_spare : Seat → ℕ × ℕ
the_spare s = (s.session.serial, s.spare)

module _ {X : Type 0} (g : Seat → X) where
  abbrev front : Option Seat → List Seat → List X
  front kept seats = map g (option_to_list kept ++ seats)

  front_is : (kept : Option Seat) (seats : List Seat) → front kept seats ≡ map g (option_to_list kept) ++ map g seats
  front_is None seats = refl
  front_is (Some s) seats = refl

  find_past : (p : X → Bool) (kept : Option Seat) (seats : List Seat) → IfSome kept (λ s. p (g s) ≡ false)
      → find p (front kept seats) ≡ find p (map g seats)
  find_past p None seats h = refl
  find_past p (Some s) seats h = rw h refl

  find_alike : (p : X → Bool) (kept : Option Seat) (seats others : List Seat) → find p (map g seats) ≡ find p (map g others)
      → find p (front kept seats) ≡ find p (front kept others)
  find_alike p None seats others e = e
  find_alike p (Some s) seats others e = ap (λ o. cond (p (g s)) (Some (g s)) o) e

  filter_past : (p : X → Bool) (kept : Option Seat) (seats : List Seat) (rest : List X) → IfSome kept (λ s. p (g s) ≡ true)
      → filter p (map g seats) ≡ rest → filter p (front kept seats) ≡ map g (option_to_list kept) ++ rest
  filter_past p None seats rest h e = e
  filter_past p (Some s) seats rest h e = rw (h, e) refl

  map_past : (f : X → X) (kept : Option Seat) (seats : List Seat) (rest : List X) → IfSome kept (λ s. f (g s) ≡ g s)
      → map f (map g seats) ≡ rest → map f (front kept seats) ≡ map g (option_to_list kept) ++ rest
  map_past f None seats rest h e = e
  map_past f (Some s) seats rest h e = rw (h, e) refl

-- a row with another serial keeps a session with another one
weaker_own : (serial : ℕ) (P : Seat → Type 0) → ((s : Seat) → s.session.serial ≡ serial → P s) → (kept : Option Seat)
    → IfSome kept (HasOwnSerial serial) → IfSome kept P
weaker_own serial P f None own = tt
weaker_own serial P f (Some s) own = f s own.numbered

differs : (n serial : ℕ) (kept : Option Seat) → IfSome kept (HasOwnSerial serial) → (serial == n) ≡ false
    → IfSome kept (λ s. (s.session.serial == n) ≡ false)
differs n serial kept own e = weaker_own serial (λ s. (s.session.serial == n) ≡ false) (λ s is. rw is e) kept own

pub above_differ : (r : SessionRow) (rows : List SessionRow) → AllByRecursion (λ z. serial_order r z ≡ Less) rows → (n : ℕ) → r.serial ≡ n
    → Others n rows
above_differ r [] up n e = tt
above_differ r (z ∷ rows) up n e = (grind (arith, nat_tests, up.0), above_differ r rows up.1 n e)

serial_is : (z : SessionRow) (n : ℕ) (kept : Option Seat) → ◌≡◌ {A = Option SessionRow} (Some z) (Some (record { serial = n; kept = kept }))
    → z.serial ≡ n
serial_is z n kept e = ap (λ (o : Option SessionRow). unwrap_or (option_map (λ (x : SessionRow). x.serial) o) n) e

below_differs : (r : SessionRow) (rows : List SessionRow) (i n : ℕ) (kept : Option Seat)
    → AllByRecursion (λ z. serial_order r z ≡ Less) rows
    → slice_get rows i ≡ Some (record { serial = n; kept = kept }) → (r.serial == n) ≡ false
below_differs r [] i n kept up e = cc
below_differs r (z ∷ rows) zero n kept up e =
    let same : z.serial ≡ n = serial_is z n kept e in
    let less : serial_order r z ≡ Less = up.0 in
    grind (arith, nat_tests)
below_differs r (z ∷ rows) (suc i) n kept up e = below_differs r rows i n kept up.1 e

pub none_of : (n : ℕ) (rows : List SessionRow) → Own rows → Others n rows → session_with_serial n (live_in rows) ≡ None
none_of n [] own others = refl
none_of n (r ∷ rows) own others =
    find_past the_session (λ s. s.serial == n) r.kept (seats_of rows) (differs n r.serial r.kept own.0 others.0)
    ∙ none_of n rows own.1 others.1

module _ (n : ℕ) where
  own_is : (r : SessionRow) (a : Seat) → IfSome r.kept (HasOwnSerial r.serial) → r ≡ row_of n a → HasOwnSerial n a
  own_is r a own same = subst (λ (x : SessionRow). IfSome x.kept (HasOwnSerial x.serial)) same own

  pub found_in_row : (rows : List SessionRow) (i : ℕ) (a : Seat) → Up rows → Own rows → slice_get rows i ≡ Some (row_of n a)
      → session_with_serial n (live_in rows) ≡ Some a.session
  unfolding IsStrictlySortedBy
  found_in_row [] i a up own e = cc
  found_in_row (r ∷ rows) zero a up own e =
      let same : r ≡ row_of n a = cc in
      let mine = own_is r a own.0 same in
      rw (same, eq-eqb a.session.serial n mine.numbered) refl
  found_in_row (r ∷ rows) (suc i) a up own e =
      find_past the_session (λ s. s.serial == n) r.kept (seats_of rows)
      (differs n r.serial r.kept own.0 (below_differs r rows i n (Some a) up.0 e))
      ∙ found_in_row rows i a up.1 own.1 e

  pub none_in_row : (rows : List SessionRow) (i : ℕ) → Up rows → Own rows → slice_get rows i ≡ Some (empty_row n)
      → session_with_serial n (live_in rows) ≡ None
  unfolding IsStrictlySortedBy
  none_in_row [] i up own e = cc
  none_in_row (r ∷ rows) zero up own e =
      let same : r ≡ empty_row n = cc in
      let serial : r.serial ≡ n = serial_is r n None e in
      rw same (none_of n rows own.1 (above_differ r rows up.0 n serial))
  none_in_row (r ∷ rows) (suc i) up own e =
      find_past the_session (λ s. s.serial == n) r.kept (seats_of rows)
      (differs n r.serial r.kept own.0 (below_differs r rows i n None up.0 e))
      ∙ none_in_row rows i up.1 own.1 e

  -- the session of the row changes
  module _ (f : Session → Session) where
    others_stay : (rows : List SessionRow) → Own rows → Others n rows → change n f (live_in rows) ≡ live_in rows
    others_stay [] own others = refl
    others_stay (r ∷ rows) own others =
        map_past the_session (λ s. cond (s.serial == n) (f s) s) r.kept (seats_of rows) (live_in rows)
        (weaker_own r.serial (λ s. cond (s.session.serial == n) (f s.session) s.session ≡ s.session)
        (λ s is. rw (is, others.0) refl) r.kept own.0) (others_stay rows own.1 others.1)
        ∙ sym (front_is the_session r.kept (seats_of rows))

    pub changed_in_row : (rows : List SessionRow) (i : ℕ) (a b : Seat) → Up rows → Own rows → slice_get rows i ≡ Some (row_of n a)
        → b.session ≡ f a.session → live_in (set rows i (row_of n b)) ≡ change n f (live_in rows)
    unfolding IsStrictlySortedBy
    changed_in_row [] i a b up own e is = cc
    changed_in_row (r ∷ rows) zero a b up own e is =
        let same : r ≡ row_of n a = cc in
        let mine = own_is r a own.0 same in
        let serial : r.serial ≡ n = serial_is r n (Some a) e in
        rw (same, eq-eqb a.session.serial n mine.numbered, is)
        (ap (λ xs. f a.session ∷ xs) (sym (others_stay rows own.1 (above_differ r rows up.0 n serial))))
    changed_in_row (r ∷ rows) (suc i) a b up own e is =
        front_is the_session r.kept (seats_of (set rows i (row_of n b)))
        ∙ ap (λ xs. map the_session (option_to_list r.kept) ++ xs) (changed_in_row rows i a b up.1 own.1 e is)
        ∙ sym (map_past the_session (λ s. cond (s.serial == n) (f s) s) r.kept (seats_of rows) (change n f (live_in rows))
        (weaker_own r.serial (λ s. cond (s.session.serial == n) (f s.session) s.session ≡ s.session)
        (λ s is. rw (is, below_differs r rows i n (Some a) up.0 e) refl) r.kept own.0) refl)

  -- the session of the row ends
  stays : (s : Session) → (s.serial == n) ≡ false → not (list_any (λ m. m == s.serial) (n ∷ [])) ≡ true
  stays s e = grind (arith, nat_tests)

  goes : (s : Session) → s.serial ≡ n → not (list_any (λ m. m == s.serial) (n ∷ [])) ≡ false
  goes s e = grind (arith, nat_tests)

  others_left : (rows : List SessionRow) → Own rows → Others n rows → without_sessions (n ∷ []) (live_in rows) ≡ live_in rows
  others_left [] own others = refl
  others_left (r ∷ rows) own others =
      filter_past the_session (λ s. not (list_any (λ m. m == s.serial) (n ∷ []))) r.kept (seats_of rows) (live_in rows)
      (weaker_own r.serial (λ s. not (list_any (λ m. m == s.session.serial) (n ∷ [])) ≡ true)
      (λ s is. stays s.session (rw is others.0)) r.kept own.0) (others_left rows own.1 others.1)
      ∙ sym (front_is the_session r.kept (seats_of rows))

  pub ended_in_row : (rows : List SessionRow) (i : ℕ) (a : Seat) → Up rows → Own rows → slice_get rows i ≡ Some (row_of n a)
      → live_in (set rows i (empty_row n)) ≡ without_sessions (n ∷ []) (live_in rows)
  unfolding IsStrictlySortedBy
  ended_in_row [] i a up own e = cc
  ended_in_row (r ∷ rows) zero a up own e =
      let same : r ≡ row_of n a = cc in
      let mine = own_is r a own.0 same in
      let serial : r.serial ≡ n = serial_is r n (Some a) e in
      rw (same, goes a.session mine.numbered) (sym (others_left rows own.1 (above_differ r rows up.0 n serial)))
  ended_in_row (r ∷ rows) (suc i) a up own e =
      front_is the_session r.kept (seats_of (set rows i (empty_row n)))
      ∙ ap (λ xs. map the_session (option_to_list r.kept) ++ xs) (ended_in_row rows i a up.1 own.1 e)
      ∙ sym (filter_past the_session (λ s. not (list_any (λ m. m == s.serial) (n ∷ []))) r.kept (seats_of rows)
      (without_sessions (n ∷ []) (live_in rows))
      (weaker_own r.serial (λ s. not (list_any (λ m. m == s.session.serial) (n ∷ [])) ≡ true)
      (λ s is. stays s.session (rw is (below_differs r rows i n (Some a) up.0 e))) r.kept own.0) refl)

  -- the room of queues
  pub spare_found : (rows : List SessionRow) (i : ℕ) (a : Seat) → Up rows → Own rows → slice_get rows i ≡ Some (row_of n a)
      → spare_of n (spare_in rows) ≡ a.spare
  unfolding IsStrictlySortedBy
  spare_found rows i a up own e = ap (λ (o : Option (ℕ × ℕ)). unwrap_or (option_map (λ p. p.1) o) 0) (pair rows i up own e) where
    pair : (rows : List SessionRow) (i : ℕ) → Up rows → Own rows → slice_get rows i ≡ Some (row_of n a)
        → find (λ p. p.0 == n) (spare_in rows) ≡ Some (the_spare a)
    pair [] i up own e = cc
    pair (r ∷ rows) zero up own e =
        let same : r ≡ row_of n a = cc in
        let mine = own_is r a own.0 same in
        rw (same, eq-eqb a.session.serial n mine.numbered) refl
    pair (r ∷ rows) (suc i) up own e =
        find_past the_spare (λ p. p.0 == n) r.kept (seats_of rows)
        (differs n r.serial r.kept own.0 (below_differs r rows i n (Some a) up.0 e))
        ∙ pair rows i up.1 own.1 e

  pub spare_other : (rows : List SessionRow) (i : ℕ) (a : Seat) (kept : Option Seat) → Own rows → slice_get rows i ≡ Some (row_of n a)
      → IfSome kept (λ s. s.session.serial ≡ n) → (other : ℕ) → other ≢ n
      → spare_of other (spare_in (set rows i (record { serial = n; kept = kept }))) ≡ spare_of other (spare_in rows)
  spare_other rows i a kept own e mine other apart =
      ap (λ (o : Option (ℕ × ℕ)). unwrap_or (option_map (λ p. p.1) o) 0) (pair rows i own e) where
        not_other : (serial : ℕ) → serial ≡ n → (serial == other) ≡ false
        not_other serial is = false_from_ne_true (serial == other) (λ h. apart (sym (eqb-true serial other h) ∙ is))

        mine_differs : (o : Option Seat) → IfSome o (λ s. s.session.serial ≡ n) → IfSome o (λ s. (s.session.serial == other) ≡ false)
        mine_differs None h = tt
        mine_differs (Some s) h = not_other s.session.serial h

        pair : (rows : List SessionRow) (i : ℕ) → Own rows → slice_get rows i ≡ Some (row_of n a)
            → find (λ p. p.0 == other) (spare_in (set rows i (record { serial = n; kept = kept })))
            ≡ find (λ p. p.0 == other) (spare_in rows)
        pair [] i own e = cc
        pair (r ∷ rows) zero own e =
            let same : r ≡ row_of n a = cc in
            let its = own_is r a own.0 same in
            find_past the_spare (λ p. p.0 == other) kept (seats_of rows) (mine_differs kept mine)
            ∙ rw (same, not_other a.session.serial its.numbered) refl
        pair (r ∷ rows) (suc i) own e =
            find_alike the_spare (λ p. p.0 == other) r.kept (seats_of (set rows i (record { serial = n; kept = kept }))) (seats_of rows)
            (pair rows i own.1 e)

  map_alike : {X : Type 0} (g : Seat → X) (kept : Option Seat) (seats others : List Seat) → map g seats ≡ map g others
      → map g (option_to_list kept ++ seats) ≡ map g (option_to_list kept ++ others)
  map_alike g None seats others e = e
  map_alike g (Some s) seats others e = ap (λ xs. g s ∷ xs) e

  pub spare_same : (rows : List SessionRow) (i : ℕ) (a b : Seat) → slice_get rows i ≡ Some (row_of n a) → the_spare b ≡ the_spare a
      → spare_in (set rows i (row_of n b)) ≡ spare_in rows
  spare_same [] i a b e same = cc
  spare_same (r ∷ rows) zero a b e same =
      let is : r ≡ row_of n a = cc in rw is (ap (λ p. p ∷ spare_in rows) same)
  spare_same (r ∷ rows) (suc i) a b e same =
      map_alike the_spare r.kept (seats_of (set rows i (row_of n b))) (seats_of rows) (spare_same rows i a b e same)

-- order
same_order : (x r q : SessionRow) → q.serial ≡ r.serial → serial_order x r ≡ Less → serial_order x q ≡ Less
same_order x r q e less = rw e less

same_order_left : (r q : SessionRow) → q.serial ≡ r.serial → (rows : List SessionRow) → AllByRecursion (λ z. serial_order r z ≡ Less) rows
    → AllByRecursion (λ z. serial_order q z ≡ Less) rows
same_order_left r q e rows all = all_weaker (λ z. serial_order r z ≡ Less) (λ z. serial_order q z ≡ Less) (λ z less. rw e less) rows all

up_set : (rows : List SessionRow) (i : ℕ) (r q : SessionRow) → Up rows → slice_get rows i ≡ Some r → q.serial ≡ r.serial → Up (set rows i q)
unfolding IsStrictlySortedBy
up_set [] i r q up e same = tt
up_set (x ∷ rows) zero r q up e same =
    let is : x ≡ r = cc in (same_order_left x q (same ∙ ap (λ (y : SessionRow). y.serial) (sym is)) rows up.0, up.1)
up_set (x ∷ rows) (suc i) r q up e same = (
  all_set (λ z. serial_order x z ≡ Less) rows i q up.0 (same_order x r q same (all_got (λ z. serial_order x z ≡ Less) rows i r up.0 e)),
  up_set rows i r q up.1 e same,
)

pub own_set : (n : ℕ) (rows : List SessionRow) (i : ℕ) (a : Seat) (kept : Option Seat) → AreOwn rows → slice_get rows i ≡ Some (row_of n a)
    → IfSome kept (HasOwnSerial n) → AreOwn (set rows i (record { serial = n; kept = kept }))
own_set n rows i a kept o e mine = record {
  rising = up_set rows i (row_of n a) (record { serial = n; kept = kept }) o.rising e refl;
  own = all_set (λ (r : SessionRow). IfSome r.kept (HasOwnSerial r.serial)) rows i (record { serial = n; kept = kept }) o.own mine;
}

pub counted_set : (counter n : ℕ) (rows : List SessionRow) (i : ℕ) (a : Seat) (kept : Option Seat)
    → AllByRecursion (λ (r : SessionRow). r.serial ≤ counter) rows → slice_get rows i ≡ Some (row_of n a)
    → AllByRecursion (λ (r : SessionRow). r.serial ≤ counter) (set rows i (record { serial = n; kept = kept }))
counted_set counter n rows i a kept all e =
    all_set (λ (r : SessionRow). r.serial ≤ counter) rows i (record { serial = n; kept = kept }) all
    (all_got (λ (r : SessionRow). r.serial ≤ counter) rows i (row_of n a) all e)

up_push : (counter : ℕ) (rows : List SessionRow) (y : SessionRow) → Up rows → AllByRecursion (λ (r : SessionRow). r.serial ≤ counter) rows
    → counter < y.serial → Up (rows ++ y ∷ [])
unfolding IsStrictlySortedBy
up_push counter [] y up counted above = (tt, tt)
up_push counter (x ∷ rows) y up counted above =
    (all_last (λ z. serial_order x z ≡ Less) rows y up.0 (grind (arith, nat_tests, counted.0)), up_push counter rows y up.1 counted.1 above)

pub own_push : (counter : ℕ) (rows : List SessionRow) (y : SessionRow) → AreOwn rows
    → AllByRecursion (λ (r : SessionRow). r.serial ≤ counter) rows
    → counter < y.serial → IfSome y.kept (HasOwnSerial y.serial) → AreOwn (rows ++ y ∷ [])
own_push counter rows y o counted above mine = record {
  rising = up_push counter rows y o.rising counted above;
  own = all_last (λ (r : SessionRow). IfSome r.kept (HasOwnSerial r.serial)) rows y o.own mine;
}

pub counted_push : (counter : ℕ) (rows : List SessionRow) (y : SessionRow) → AllByRecursion (λ (r : SessionRow). r.serial ≤ counter) rows
    → y.serial ≡ counter + 1 → AllByRecursion (λ (r : SessionRow). r.serial ≤ counter + 1) (rows ++ y ∷ [])
counted_push counter rows y counted e =
    all_last (λ (r : SessionRow). r.serial ≤ counter + 1) rows y
    (all_weaker (λ (r : SessionRow). r.serial ≤ counter) (λ (r : SessionRow). r.serial ≤ counter + 1) (λ r h. omega arith) rows counted)
    (omega arith)

seats_push : (rows : List SessionRow) (n : ℕ) (a : Seat) → seats_of (rows ++ row_of n a ∷ []) ≡ seats_of rows ++ a ∷ []
seats_push [] n a = refl
seats_push (r ∷ rows) n a =
    elim r.kept as (λ (o : Option Seat). option_to_list o ++ seats_of (rows ++ row_of n a ∷ [])
    ≡ (option_to_list o ++ seats_of rows) ++ a ∷ []) [
      | None ↦ seats_push rows n a
      | Some s ↦ ap (λ xs. s ∷ xs) (seats_push rows n a)
    ]

pub begun_last : (rows : List SessionRow) (n : ℕ) (a : Seat) → live_in (rows ++ row_of n a ∷ []) ≡ live_in rows ++ a.session ∷ []
begun_last rows n a = ap (map the_session) (seats_push rows n a) ∙ map-append the_session (seats_of rows) (a ∷ [])

pub spare_begun : (rows : List SessionRow) (n : ℕ) (a : Seat) → a.session.serial ≡ n → (other : ℕ) → other ≢ n
    → spare_of other (spare_in (rows ++ row_of n a ∷ [])) ≡ spare_of other (spare_in rows)
spare_begun rows n a mine other apart =
    ap (spare_of other) (ap (map the_spare) (seats_push rows n a) ∙ map-append the_spare (seats_of rows) (a ∷ []))
    ∙ ap (λ (o : Option (ℕ × ℕ)). unwrap_or (option_map (λ p. p.1) o) 0)
    (find_push (λ (p : ℕ × ℕ). p.0 == other) (spare_in rows) (the_spare a)
    (false_from_ne_true (a.session.serial == other) (λ h. apart (sym (eqb-true a.session.serial other h) ∙ mine))))

-- without the empty rows
filter_one : (r : SessionRow) (o : Option Seat) (rows rest : List SessionRow) → r.kept ≡ o → seats_of rest ≡ seats_of rows
    → seats_of (cond (is_some o) (r ∷ rest) rest) ≡ option_to_list o ++ seats_of rows
filter_one r None rows rest e same = same
filter_one r (Some s) rows rest e same = rw (e, same) refl

pub seats_filter : (rows : List SessionRow) → seats_of (filter (λ (r : SessionRow). is_some r.kept) rows) ≡ seats_of rows
seats_filter [] = refl
seats_filter (r ∷ rows) = filter_one r r.kept rows (filter (λ (r : SessionRow). is_some r.kept) rows) refl (seats_filter rows)

pub own_filter : (rows : List SessionRow) → AreOwn rows → AreOwn (filter (λ (r : SessionRow). is_some r.kept) rows)
own_filter rows o = record {
  rising = IsStrictlySortedBy-filter serial_order (λ (r : SessionRow). is_some r.kept) rows o.rising;
  own = all_filter (λ (r : SessionRow). IfSome r.kept (HasOwnSerial r.serial)) (λ (r : SessionRow). is_some r.kept) rows o.own;
}

pub counted_filter : (counter : ℕ) (rows : List SessionRow) → AllByRecursion (λ (r : SessionRow). r.serial ≤ counter) rows
    → AllByRecursion (λ (r : SessionRow). r.serial ≤ counter) (filter (λ (r : SessionRow). is_some r.kept) rows)
counted_filter counter rows all = all_filter (λ (r : SessionRow). r.serial ≤ counter) (λ (r : SessionRow). is_some r.kept) rows all

-- as many rows as sessions, where none is empty
count_one : (r : SessionRow) (o : Option Seat) (rest : List SessionRow) (seats : List Seat) → length rest ≡ length (map the_session seats)
    → length (cond (is_some o) (r ∷ rest) rest) ≡ length (map the_session (option_to_list o ++ seats))
count_one r None rest seats same = same
count_one r (Some s) rest seats same = ap (λ n. suc n) same

pub full_length : (rows : List SessionRow) → length (filter (λ (r : SessionRow). is_some r.kept) rows) ≡ length (live_in rows)
full_length [] = refl
full_length (r ∷ rows) = count_one r r.kept (filter (λ (r : SessionRow). is_some r.kept) rows) (seats_of rows) (full_length rows)

pub few_rows : (rows new : List SessionRow) (live : ℕ) → new ≡ filter (λ (r : SessionRow). is_some r.kept) rows
    → live ≡ length (live_in rows)
    → length new ≡ live
few_rows rows new live e counts = ap length e ∙ full_length rows ∙ sym counts

kept_few : (o : Option Seat) (rows : List SessionRow) (seats : List Seat) → length (map the_session seats) ≤ length rows
    → length (map the_session (option_to_list o ++ seats)) ≤ suc (length rows)
kept_few None rows seats h = omega arith
kept_few (Some s) rows seats h = omega arith

pub live_few : (rows : List SessionRow) → length (live_in rows) ≤ length rows
live_few [] = omega arith
live_few (r ∷ rows) = kept_few r.kept rows (seats_of rows) (live_few rows)
