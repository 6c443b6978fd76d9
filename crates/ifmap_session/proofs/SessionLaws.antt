-- The live sessions and the holders, as sessions change, end and begin.
-- First: what a client is found to have after a session ended (`client_after`,
-- `holder_after`, `client_gone`), began (`begun_indexed`) or changed (`client_changed`). Then: the session that an id names
-- (`none_unread`, `none_of_serial`, `one_in_row`). Last: rows and holders as they are kept, where a session changed (`rows_changed`,
-- `holders_changed`), ended, began, or empty rows went.
use Rattle.std.proofs.Common.{◌≡◌, refl, sym, ◌∙◌, ap, subst, ℕ, zero, suc, ◌+◌, ◌-◌, ◌<◌, ◌≤◌, ◌^◌, ◌==◌, Bool, true, false, not, cond, List, [], ◌∷◌, ◌++◌, length, map, set, Option, None, Some, Result, Ok, Err, inl, inr, arith}
use Rattle.std.proofs.lemmas.Bool.{both_ways, cases_Bool, eqb-true, eqb-false, eq-eqb, false_from_ne_true, not-true}
use Rattle.std.proofs.lemmas.Bool.Decides.{nat_tests}
use Rattle.std.proofs.lemmas.Cmp.{nat_list_cmp_total, nat_list_eq_equiv}
use Rattle.std.proofs.lemmas.List.Folds.{find-append}
use Rattle.std.proofs.lemmas.List.Kept.{IsStrictlySortedBy-filter}
use Rattle.std.proofs.lemmas.Map.Text.{is_eq-slice_cmp}
use Rattle.std.specs.Cmp.Lexicographic.{slice_cmp}
use Rattle.std.specs.Fmt.{decimal}
use Rattle.std.specs.List.{AllByRecursion, IsDistinct, filter, find, insert, list_any, remove, slice_get}
use Rattle.std.specs.List.Sorted.{IsStrictlySortedBy, IsBinarySearchResult, IsSearchInRange}
use Rattle.std.specs.Option.{IfSome, IsSome, is_some, option_map, option_to_list}
use Rattle.std.specs.Result.{IfErr, IsErr, IsOk}
use Rattle.std.specs.Ordering.{nat_cmp}
use Rattle.std.specs.declared.cmp.Ordering.TheVariants.{Less}
use Rattle.ifmap_lemmas.specs.Choices.{map_choice, map_none, same_choice, some_alike, swap_choices}
use Rattle.ifmap_lemmas.specs.Filtered.{filter_agrees}
use Rattle.ifmap_lemmas.specs.Found.{find_none, found_again, key_found}
use Rattle.ifmap_lemmas.specs.Inserted.{find_insert, place_for}
use Rattle.ifmap_lemmas.specs.Options.{or_none, some_none}
use Rattle.ifmap_session.specs.declared.holders.Holder.{Holder}
use Rattle.ifmap_session.specs.declared.rows.SessionRow.{SessionRow}
use Rattle.ifmap_session.specs.Rows.{AreHolders, AreOwn, AreRows, HasOwnSerial, client_order, holder_of, live_in, serial_order, seats_of}
use Rattle.ifmap_session.specs.Places.{IsPlaceFor, IsPlaceOf}
use Rattle.ifmap_session.specs.Seats.{Seat}
use Rattle.ifmap_session.specs.SessionIds.{BeginsWithSerial, hyphen}
use Rattle.ifmap_session.specs.Sessions.{IsLive, Session, change, is_same_text, most_sessions, session_of_client, session_order, session_with_id, session_with_serial, without_sessions}
use Rattle.ifmap_session.specs.laws.TableLaws.{KeepsIdAndClient, clients_same, length_same, one_changed, one_numbered}
use Rattle.ifmap_lemmas.specs.Keyed.{keys_filter, keys_push, rest_differ}
use Rattle.ifmap_session.specs.laws.TextLaws.{text_is, text_itself}
use Rattle.ifmap_session.proofs.Halving.{search_gives_place}
use Rattle.ifmap_session.proofs.RowLaws.{Own, Up, begun_last, changed_in_row, counted_filter, counted_push, counted_set, empty_row, ended_in_row, found_in_row, own_filter, own_push, own_set, row_of, seats_filter}
use Rattle.ifmap_lemmas.specs.Filters.{all_weaker, filter_all, filter_passes, filter_shorter, found_all}
use Rattle.ifmap_lemmas.specs.Finding.{none_passes}

pub holder_placed : (holders : List Holder) (client : List ℕ) (r : Result ℕ ℕ) → IsStrictlySortedBy client_order holders
    → IsSearchInRange r (length holders) → IsBinarySearchResult (λ (h : Holder). slice_cmp nat_cmp h.client client) holders r → IsPlaceOf
    (λ (h : Holder). is_same_text h.client client) holders r
holder_placed holders client r up within is =
    search_gives_place Holder (List ℕ) (λ (h : Holder). h.client) (slice_cmp nat_cmp) nat_list_cmp_total is_same_text
    (λ a b. sym (is_eq-slice_cmp a b)) holders client r up within is

pub holder_gap : (holders : List Holder) (client : List ℕ) (i : ℕ) → IsStrictlySortedBy client_order holders → i ≤ length holders
    → IsBinarySearchResult (λ (h : Holder). slice_cmp nat_cmp h.client client) holders (Err i) → IsPlaceFor client holders i
holder_gap holders client i up within is =
    λ serial. place_for Holder (List ℕ) (λ (h : Holder). h.client) (slice_cmp nat_cmp) nat_list_cmp_total is_same_text
    (λ a b. sym (is_eq-slice_cmp a b)) holders i (record { client = client; serial = serial }) up within is

-- the sessions without one serial
pub without_one : (serial : ℕ) (live : List Session) → filter (λ (s : Session). not (s.serial == serial)) live
    ≡ without_sessions (serial ∷ []) live
without_one serial live =
    filter_agrees (λ (s : Session). not (s.serial == serial)) (λ (s : Session). not (list_any (λ n. n == s.serial) (serial ∷ []))) live
    (λ s h. alike s)
  where
    alike : (s : Session) → not (s.serial == serial) ≡ not (list_any (λ n. n == s.serial) (serial ∷ []))
    alike s = grind (arith, nat_tests)

not_both : (a b c : List ℕ) → is_same_text a b ≡ false → is_same_text a c ≡ true → is_same_text b c ≡ true → ⊥
not_both a b c differ one other = both_ways (is_same_text a b) differ (subst (λ t. is_same_text a t ≡ true) (sym (text_is b c other)) one)

-- a client's session after the one of a serial ended
later_stays : (serial : ℕ) (x t : Session) → x.serial ≡ serial → session_order x t ≡ Less → not (t.serial == serial) ≡ true
later_stays serial x t hit less = grind (arith, nat_tests)

at_first : (x : Session) (xs : List Session) (c : List ℕ) → AllByRecursion
    (λ k. is_same_text x.client k ≡ false) (map (λ (t : Session). t.client) xs)
    → session_of_client c xs ≡ cond (is_same_text x.client c) None (session_of_client c (x ∷ xs))
at_first x xs c differ =
    elim (cases_Bool (is_same_text x.client c)) [
      | inl hit ↦ rw hit
          (find_none (λ (t : Session). is_same_text t.client c) xs
          (rest_differ is_same_text (λ (t : Session). t.client) nat_list_eq_equiv x c xs differ hit))
      | inr miss ↦ rw miss refl
    ]

pub client_after : (live : List Session) (serial : ℕ) (s : Session) (c : List ℕ) → IsStrictlySortedBy session_order live
    → IsDistinct is_same_text (map (λ (t : Session). t.client) live) → session_with_serial serial live ≡ Some s
    → session_of_client c (filter (λ (t : Session). not (t.serial == serial)) live)
    ≡ cond (is_same_text s.client c) None (session_of_client c live)
unfolding IsStrictlySortedBy IsDistinct
client_after [] serial s c up apart e = cc
client_after (x ∷ xs) serial s c up apart e =
    elim (cases_Bool (x.serial == serial)) [
      | inl hit ↦
          let same : x ≡ s = cc (rw hit at e) in
          let kept : filter (λ (t : Session). not (t.serial == serial)) xs ≡ xs =
          filter_all (λ (t : Session). not (t.serial == serial)) xs (all_weaker (λ z. session_order x z ≡ Less)
          (λ t. not (t.serial == serial) ≡ true) (λ t l. later_stays serial x t (eqb-true x.serial serial hit) l) xs up.0) in
          rw (hit, kept) (subst (λ t. session_of_client c xs ≡ cond (is_same_text t.client c) None (session_of_client c (x ∷ xs))) same
          (at_first x xs c apart.0))
      | inr miss ↦
          let there : session_with_serial serial xs ≡ Some s = rw miss at e in
          let differ : is_same_text x.client s.client ≡ false = key_found (λ (t : Session). t.client)
          (λ k. is_same_text x.client k ≡ false)
          (λ (t : Session). t.serial == serial) xs s apart.0 there in
          rw (miss, client_after xs serial s c up.1 apart.1 there)
          (swap_choices (is_same_text x.client c) (is_same_text s.client c) (Some x) None (session_of_client c xs)
          (not_both x.client s.client c differ))
    ]

no_choice : (a : Bool) → ◌≡◌ {A = Option Holder} None (cond a None None)
no_choice true = refl
no_choice false = refl

-- a client's holder after the one of a client went
pub holder_after : (holders : List Holder) (k c : List ℕ) → holder_of c (filter (λ (h : Holder). not (is_same_text h.client k)) holders)
    ≡ cond (is_same_text k c) None (holder_of c holders)
holder_after [] k c = no_choice (is_same_text k c)
holder_after (x ∷ xs) k c =
    elim (cases_Bool (is_same_text x.client k)) [
      | inl hit ↦ rw (hit, holder_after xs k c) (subst (λ t. cond (is_same_text k c) None (holder_of c xs)
          ≡ cond (is_same_text k c) None (cond (is_same_text t c) (Some x) (holder_of c xs))) (sym (text_is x.client k hit))
          (same_choice {A = Option Holder} (is_same_text k c) None (Some x) (holder_of c xs)))
      | inr miss ↦ rw (miss, holder_after xs k c) (swap_choices (is_same_text x.client c) (is_same_text k c) (Some x) None (holder_of c xs)
          (not_both x.client k c miss))
    ]

still_there : (serial : ℕ) (c : List ℕ) (o : Option Session) (rest : List Session) → AllByRecursion
    (λ (t : Session). not (t.serial == serial) ≡ true) rest → session_of_client c rest ≡ o → option_map
    (λ (t : Session). t.serial) o ≡ Some serial → ⊥
still_there serial c None rest h e held = cc
still_there serial c (Some t) rest h e held =
    let same : t.serial ≡ serial = cc in
    let other : not (t.serial == serial) ≡ true = found_all (λ (t : Session). not (t.serial == serial) ≡ true)
    (λ (t : Session). is_same_text t.client c) rest h t e in
    both_ways (t.serial == serial) (not-true (t.serial == serial) other) (eq-eqb t.serial serial same)

-- the client whose session ended has none
pub client_gone : (live : List Session) (serial : ℕ) (s : Session) (c : List ℕ) → IsStrictlySortedBy session_order live
    → IsDistinct is_same_text (map (λ (t : Session). t.client) live) → session_with_serial serial live ≡ Some s → option_map
    (λ (t : Session). t.serial) (session_of_client c live) ≡ Some serial
    → session_of_client c (filter (λ (t : Session). not (t.serial == serial)) live) ≡ None
client_gone live serial s c up apart e held =
    let after = client_after live serial s c up apart e in
    elim (cases_Bool (is_same_text s.client c)) [
      | inl hit ↦ rw hit at after
      | inr miss ↦ absurd (still_there serial c (session_of_client c live) (filter
          (λ (t : Session). not (t.serial == serial)) live) (filter_passes
          (λ (t : Session). not (t.serial == serial)) live) (rw miss at after) held)
    ]

-- a client's session after one began
pub begun_indexed : (y : Session) (live : List Session) (holders : List Holder) (i : ℕ) (c : List ℕ)
    → session_of_client y.client live ≡ None → ((k : List ℕ) → option_map (λ (h : Holder). h.serial) (holder_of k holders) ≡ option_map
    (λ (s : Session). s.serial) (session_of_client k live)) → option_map
    (λ (h : Holder). h.serial) (holder_of c (insert holders i (record { client = y.client; serial = y.serial }))) ≡ option_map
    (λ (s : Session). s.serial) (session_of_client c (live ++ y ∷ []))
begun_indexed y live holders i c none indexed =
    let no_session : is_same_text y.client c ≡ true → session_of_client c live ≡ None =
    λ e. subst (λ t. session_of_client t live ≡ None) (text_is y.client c e) none in
    let no_holder : is_same_text y.client c ≡ true → holder_of c holders ≡ None =
    λ e. map_none (λ (h : Holder). h.serial) (holder_of c holders) (indexed c
    ∙ ap (option_map (λ (s : Session). s.serial)) (no_session e)) in
    let entry : holder_of c (insert holders i (record { client = y.client; serial = y.serial }))
    ≡ cond (is_same_text y.client c) (Some (record { client = y.client; serial = y.serial })) (holder_of c holders) =
    find_insert (λ (h : Holder). is_same_text h.client c) holders i (record { client = y.client; serial = y.serial }) no_holder in
    let session = find-append (λ (s : Session). is_same_text s.client c) live (y ∷ []) in
    elim (cases_Bool (is_same_text y.client c)) [
      | inl hit ↦ rw (entry, session, hit, no_session hit) refl
      | inr miss ↦ rw (entry, session, miss, or_none (session_of_client c live)) (indexed c)
    ]

-- a client's session after one changed
choose_serial : (b : Bool) (x y : Session) (o p : Option Session) → x.serial ≡ y.serial
    → option_map (λ (s : Session). s.serial) o ≡ option_map (λ (s : Session). s.serial) p
    → option_map (λ (s : Session). s.serial) (cond b (Some x) o) ≡ option_map (λ (s : Session). s.serial) (cond b (Some y) p)
choose_serial true x y o p e h = ap Some e
choose_serial false x y o p e h = h

pub client_changed : (n : ℕ) (f : Session → Session) → KeepsIdAndClient f → (c : List ℕ) (live : List Session)
    → option_map (λ (s : Session). s.serial) (session_of_client c (change n f live)) ≡ option_map
    (λ (s : Session). s.serial) (session_of_client c live)
client_changed n f k c [] = refl
client_changed n f k c (x ∷ live) =
    rw (one_changed n f k x)
    (choose_serial (is_same_text x.client c) (cond (x.serial == n) (f x) x) x (session_of_client c (change n f live))
    (session_of_client c live) (one_numbered n f k x) (client_changed n f k c live))

-- the session that an id names
with_serial_none : (live : List Session) (n : ℕ) (id : List ℕ) → AllByRecursion
    (λ (s : Session). is_same_text s.id id ≡ true → s.serial ≡ n) live → AllByRecursion (λ (s : Session). (s.serial == n) ≡ false) live
    → session_with_id id live ≡ None
with_serial_none [] n id leads none = refl
with_serial_none (x ∷ xs) n id leads none =
    rw (false_from_ne_true (is_same_text x.id id) (λ e. eqb-false x.serial n none.0 (leads.0 e))) (with_serial_none xs n id leads.1 none.1)

id_nowhere : (live : List Session) (n : ℕ) (id : List ℕ) → AllByRecursion (λ (s : Session). is_same_text s.id id ≡ true → s.serial ≡ n)
    live
    → session_with_serial n live ≡ None → session_with_id id live ≡ None
id_nowhere live n id leads e = with_serial_none live n id leads (none_passes (λ (s : Session). s.serial == n) live e)

id_at : (live : List Session) (n : ℕ) (id : List ℕ) (s : Session) → IsStrictlySortedBy session_order live → AllByRecursion
    (λ (t : Session). is_same_text t.id id ≡ true → t.serial ≡ n) live → session_with_serial n live ≡ Some s
    → session_with_id id live ≡ cond (is_same_text s.id id) (Some s) None
unfolding IsStrictlySortedBy
id_at [] n id s up leads e = cc
id_at (x ∷ xs) n id s up leads e =
    elim (cases_Bool (x.serial == n)) [
      | inl hit ↦
          let same : x ≡ s = cc (rw hit at e) in
          let none : session_with_id id xs ≡ None = with_serial_none xs n id leads.1 (all_weaker (λ z. session_order x z ≡ Less)
          (λ (t : Session). (t.serial == n) ≡ false) (λ t l. not-true (t.serial == n) (later_stays n x t (eqb-true x.serial n hit) l))
          xs up.0) in
          rw none (subst (λ t. cond (is_same_text x.id id) (Some x) None ≡ cond (is_same_text t.id id) (Some t) None) same refl)
      | inr miss ↦
          let there : session_with_serial n xs ≡ Some s = rw miss at e in
          rw (false_from_ne_true (is_same_text x.id id) (λ h. eqb-false x.serial n miss (leads.0 h))) (id_at xs n id s up.1 leads.1 there)
    ]

-- an id that a live session has leads to that session's serial
id_leads : (counter : ℕ) (live : List Session) (id : List ℕ) (r : Option ℕ) → counter < 2 ^ 64 → AllByRecursion
    (λ (s : Session). s.serial ≤ counter) live → AllByRecursion (λ (s : Session). BeginsWithSerial s.serial s.id) live
    → ((n : ℕ) (rest : List ℕ) → n < 2 ^ 64 → id ≡ decimal n ++ hyphen ∷ rest → r ≡ Some n) → AllByRecursion
    (λ (s : Session). is_same_text s.id id ≡ true → r ≡ Some s.serial) live
id_leads counter [] id r small counted ids f = tt
id_leads counter (x ∷ xs) id r small counted ids f = (
  (λ e. f x.serial ids.0.0 (omega (arith, counted.0)) (sym (text_is x.id id e) ∙ ids.0.1)),
  id_leads counter xs id r small counted.1 ids.1 f,
)

id_of_none : (live : List Session) (id : List ℕ) (r : Option ℕ) → AllByRecursion
    (λ (s : Session). is_same_text s.id id ≡ true → r ≡ Some s.serial) live → r ≡ None → session_with_id id live ≡ None
id_of_none [] id r leads e = refl
id_of_none (x ∷ xs) id r leads e =
    rw (false_from_ne_true (is_same_text x.id id) (λ h. let t = leads.0 h in cc)) (id_of_none xs id r leads.1 e)

leads_to : (n : ℕ) (live : List Session) (id : List ℕ) (r : Option ℕ) → r ≡ Some n → AllByRecursion
    (λ (s : Session). is_same_text s.id id ≡ true → r ≡ Some s.serial) live → AllByRecursion
    (λ (s : Session). is_same_text s.id id ≡ true → s.serial ≡ n) live
leads_to n live id r e leads = all_weaker (λ (s : Session). is_same_text s.id id ≡ true → r ≡ Some s.serial)
    (λ (s : Session). is_same_text s.id id ≡ true → s.serial ≡ n) (λ s f h. let t = f h in cc) live leads

-- what a search answers where something, or nothing, passes
pub place_is_ok : {X : Type 0} (test : X → Bool) (xs : List X) (r : Result ℕ ℕ) → IsPlaceOf test xs r → IsSome (find test xs) → IsOk r
place_is_ok test xs (Ok i) place some = refl
place_is_ok test xs (Err i) place some = absurd (some_none (find test xs) some place.1)

pub place_is_err : {X : Type 0} (test : X → Bool) (xs : List X) (r : Result ℕ ℕ) → IsPlaceOf test xs r → find test xs ≡ None → IsErr r
place_is_err test [] (Ok i) place none = absurd (omega (arith, place.0))
place_is_err test (x ∷ xs) (Ok i) place none = let found = place.1 x in cc
place_is_err test xs (Err i) place none = refl

-- a client's session is live by its serial
pub client_live : (live : List Session) (c : List ℕ) (serial : ℕ)
    → option_map (λ (s : Session). s.serial) (session_of_client c live) ≡ Some serial → IsLive serial live
client_live live c serial e = go (session_of_client c live) refl e where
  go : (o : Option Session) → session_of_client c live ≡ o → option_map (λ (s : Session). s.serial) o ≡ Some serial → IsLive serial live
  go None same e = cc
  go (Some s) same e =
      let is : s.serial ≡ serial = cc in
      found_again (λ (t : Session). is_same_text t.client c) (λ (t : Session). t.serial == serial) live s same (eq-eqb s.serial serial is)

-- what holds of the sessions of rows
pub all_live : (P : Session → Type 0) (rows : List SessionRow)
    → AllByRecursion (λ (r : SessionRow). IfSome r.kept (λ (s : Seat). P s.session)) rows
    → AllByRecursion P (live_in rows)
all_live P [] all = tt
all_live P (r ∷ rows) all = one r.kept all.0 (all_live P rows all.1) where
  one : (o : Option Seat) → IfSome o (λ (s : Seat). P s.session) → AllByRecursion P (live_in rows)
      → AllByRecursion P (map (λ (s : Seat). s.session) (option_to_list o ++ seats_of rows))
  one None h rest = rest
  one (Some s) h rest = (h, rest)

if_some : (o : Option Seat) (P Q : Seat → Type 0) → ((s : Seat) → P s → Q s) → IfSome o P → IfSome o Q
if_some None P Q f h = tt
if_some (Some s) P Q f h = f s h

pub live_counted : (counter : ℕ) (rows : List SessionRow) → AllByRecursion (λ (r : SessionRow). r.serial ≤ counter) rows → Own rows
    → AllByRecursion (λ (s : Session). s.serial ≤ counter) (live_in rows)
live_counted counter rows counted own = all_live (λ s. s.serial ≤ counter) rows (both rows counted own) where
  both : (rows : List SessionRow) → AllByRecursion (λ (r : SessionRow). r.serial ≤ counter) rows → Own rows
      → AllByRecursion (λ (r : SessionRow). IfSome r.kept (λ (s : Seat). s.session.serial ≤ counter)) rows
  both [] c o = tt
  both (r ∷ rows) c o =
      (if_some r.kept (HasOwnSerial r.serial) (λ s. s.session.serial ≤ counter) (λ s h. rw h.numbered c.0) o.0, both rows c.1 o.1)

pub live_ids : (rows : List SessionRow) → Own rows → AllByRecursion (λ (s : Session). BeginsWithSerial s.serial s.id) (live_in rows)
live_ids rows own = all_live (λ s. BeginsWithSerial s.serial s.id) rows (all_weaker
    (λ (r : SessionRow). IfSome r.kept (HasOwnSerial r.serial))
    (λ (r : SessionRow). IfSome r.kept (λ (s : Seat). BeginsWithSerial s.session.serial s.session.id))
    (λ r h. if_some r.kept (HasOwnSerial r.serial) (λ s. BeginsWithSerial s.session.serial s.session.id) (λ s k. rw k.numbered k.id) h)
    rows own)

pub live_up : (rows : List SessionRow) → Up rows → Own rows → IsStrictlySortedBy session_order (live_in rows)
unfolding IsStrictlySortedBy
live_up [] up own = tt
live_up (r ∷ rows) up own = one r.kept own.0 (live_up rows up.1 own.1) where
  above : (s : Seat) → s.session.serial ≡ r.serial → (rows : List SessionRow) → AllByRecursion (λ z. serial_order r z ≡ Less) rows
      → Own rows
      → AllByRecursion (λ (z : SessionRow). IfSome z.kept (λ (t : Seat). session_order s.session t.session ≡ Less)) rows
  above s e [] all own = tt
  above s e (z ∷ rows) all own = (
    if_some z.kept (HasOwnSerial z.serial) (λ t. session_order s.session t.session ≡ Less) (λ t h. rw (e, h.numbered) all.0) own.0,
    above s e rows all.1 own.1,
  )

  one : (o : Option Seat) → IfSome o (HasOwnSerial r.serial) → IsStrictlySortedBy session_order (live_in rows)
      → IsStrictlySortedBy session_order (map (λ (s : Seat). s.session) (option_to_list o ++ seats_of rows))
  one None h rest = rest
  one (Some s) h rest = (all_live (λ t. session_order s.session t ≡ Less) rows (above s h.numbered rows up.0 own.1), rest)

-- rows and holders, as they are kept
pub rows_changed : (counter n : ℕ) (f : Session → Session) (rows : List SessionRow) (i : ℕ) (a b : Seat) → KeepsIdAndClient f → AreRows
    counter rows
    → slice_get rows i ≡ Some (row_of n a) → HasOwnSerial n a → b.session ≡ f a.session → AreRows counter (set rows i (row_of n b))
rows_changed counter n f rows i a b k kept e own is =
    let live : live_in (set rows i (row_of n b)) ≡ change n f (live_in rows) =
    changed_in_row n f rows i a b kept.own.rising kept.own.own e is in
    record {
      small = kept.small;
      own = own_set n rows i a (Some b) kept.own e (record {
        numbered = ap (λ (s : Session). s.serial) is ∙ k.serial a.session ∙ own.numbered;
        id = rw (is, k.id a.session) own.id;
      });
      counted = counted_set counter n rows i a (Some b) kept.counted e;
      apart = rw (live, clients_same n f k (live_in rows)) kept.apart;
      few = rw (live, length_same n f (live_in rows)) kept.few;
    }

pub holders_changed : (n : ℕ) (f : Session → Session) (rows : List SessionRow) (holders : List Holder) (i : ℕ) (a b : Seat) →
    KeepsIdAndClient f
    → AreOwn rows
    → AreHolders rows holders → slice_get rows i ≡ Some (row_of n a) → b.session ≡ f a.session
    → AreHolders (set rows i (row_of n b)) holders
holders_changed n f rows holders i a b k own h e is =
    let live : live_in (set rows i (row_of n b)) ≡ change n f (live_in rows) = changed_in_row n f rows i a b own.rising own.own e is in
    record {
      ordered = h.ordered;
      indexed = λ c. h.indexed c ∙ sym (ap (λ xs. option_map (λ (s : Session). s.serial) (session_of_client c xs)) live
          ∙ client_changed n f k c (live_in rows));
      counts = h.counts ∙ sym (ap length live ∙ length_same n f (live_in rows));
    }

pub rows_ended : (counter n : ℕ) (rows : List SessionRow) (i : ℕ) (a : Seat) → AreRows counter rows → slice_get rows i ≡ Some (row_of n a)
    → AreRows counter (set rows i (empty_row n))
rows_ended counter n rows i a kept e =
    let live : live_in (set rows i (empty_row n)) ≡ filter (λ (t : Session). not (t.serial == n)) (live_in rows) =
    ended_in_row n rows i a kept.own.rising kept.own.own e ∙ sym (without_one n (live_in rows)) in
    record {
      small = kept.small;
      own = own_set n rows i a None kept.own e tt;
      counted = counted_set counter n rows i a None kept.counted e;
      apart = rw live (keys_filter is_same_text (λ (t : Session). t.client) (λ (t : Session). not (t.serial == n)) (live_in rows)
          kept.apart);
      few = let less = filter_shorter (λ (t : Session). not (t.serial == n)) (live_in rows) in let few = kept.few in rw live (omega arith);
    }

pub own_at : (n : ℕ) (rows : List SessionRow) (i : ℕ) (a : Seat) → Own rows → slice_get rows i ≡ Some (row_of n a) → HasOwnSerial n a
own_at n [] i a own e = cc
own_at n (r ∷ rows) zero a own e =
    let same : r ≡ row_of n a = cc in subst (λ (x : SessionRow). IfSome x.kept (HasOwnSerial x.serial)) same own.0
own_at n (r ∷ rows) (suc i) a own e = own_at n rows i a own.1 e

-- the session that an id names, by the serial that is read from the id
module _ (counter : ℕ) (rows : List SessionRow) (id : List ℕ) (read : Option ℕ) (kept : AreRows counter rows)
    (reads : (n : ℕ) (rest : List ℕ) → n < 2 ^ 64 → id ≡ decimal n ++ hyphen ∷ rest → read ≡ Some n) where
  id_leads_in_rows : AllByRecursion (λ (s : Session). is_same_text s.id id ≡ true → read ≡ Some s.serial) (live_in rows)
  id_leads_in_rows = id_leads counter (live_in rows) id read kept.small (live_counted counter rows kept.counted kept.own.own)
      (live_ids rows kept.own.own) reads

  -- none where no serial is read
  pub none_unread : read ≡ None → session_with_id id (live_in rows) ≡ None
  none_unread is = id_of_none (live_in rows) id read id_leads_in_rows is

  -- none where no session has the serial
  pub none_of_serial : (n : ℕ) → read ≡ Some n → session_with_serial n (live_in rows) ≡ None → session_with_id id (live_in rows) ≡ None
  none_of_serial n is none = id_nowhere (live_in rows) n id (leads_to n (live_in rows) id read is id_leads_in_rows) none

  -- that of the serial's row, if it has the id
  pub one_in_row : (n i : ℕ) (seat : Seat) → read ≡ Some n → slice_get rows i ≡ Some (row_of n seat)
      → session_with_id id (live_in rows) ≡ cond (is_same_text seat.session.id id) (Some seat.session) None
  one_in_row n i seat is there = id_at (live_in rows) n id seat.session (live_up rows kept.own.rising kept.own.own)
      (leads_to n (live_in rows) id read is id_leads_in_rows) (found_in_row n rows i seat kept.own.rising kept.own.own there)

count_less : (n : ℕ) (live : List Session) (s : Session) → IsStrictlySortedBy session_order live → session_with_serial n live ≡ Some s
    → suc (length (filter (λ (t : Session). not (t.serial == n)) live)) ≡ length live
unfolding IsStrictlySortedBy
count_less n [] s up e = cc
count_less n (x ∷ live) s up e =
    elim (cases_Bool (x.serial == n)) [
      | inl hit ↦
          let kept : filter (λ (t : Session). not (t.serial == n)) live ≡ live =
          filter_all (λ (t : Session). not (t.serial == n)) live (all_weaker (λ z. session_order x z ≡ Less)
          (λ t. not (t.serial == n) ≡ true) (λ t l. later_stays n x t (eqb-true x.serial n hit) l) live up.0) in
          rw (hit, kept) refl
      | inr miss ↦
          let there : session_with_serial n live ≡ Some s = rw miss at e in
          rw miss (ap (λ m. suc m) (count_less n live s up.1 there))
    ]

holder_less : (k : List ℕ) (holders : List Holder) (j : ℕ) → j < length holders → suc (length (remove holders j)) ≡ length holders
holder_less k [] j less = absurd (omega arith)
holder_less k (x ∷ holders) zero less = refl
holder_less k (x ∷ holders) (suc j) less = ap (λ m. suc m) (holder_less k holders j (omega arith))

pub holders_ended : (n : ℕ) (rows : List SessionRow) (holders holders2 : List Holder) (i : ℕ) (a : Seat) (q : Result ℕ ℕ) (j : ℕ)
    → IsDistinct is_same_text (map (λ (t : Session). t.client) (live_in rows)) → AreOwn rows → AreHolders rows holders
    → slice_get rows i ≡ Some (row_of n a) → IsPlaceOf (λ (h : Holder). is_same_text h.client a.session.client) holders q → q ≡ Ok j
    → holders2 ≡ remove holders j → AreHolders (set rows i (empty_row n)) holders2
holders_ended n rows holders holders2 i a q j apart own h e place is rest =
    let up = live_up rows own.rising own.own in
    let there : session_with_serial n (live_in rows) ≡ Some a.session = found_in_row n rows i a own.rising own.own e in
    let live : live_in (set rows i (empty_row n)) ≡ filter (λ (t : Session). not (t.serial == n)) (live_in rows) =
    ended_in_row n rows i a own.rising own.own e ∙ sym (without_one n (live_in rows)) in
    let at = subst (IsPlaceOf (λ (x : Holder). is_same_text x.client a.session.client) holders) is place in
    let left : holders2 ≡ filter (λ (x : Holder). not (is_same_text x.client a.session.client)) holders = rest ∙ at.2 in
    record {
      ordered = rw left
          (IsStrictlySortedBy-filter client_order (λ (x : Holder). not (is_same_text x.client a.session.client)) holders h.ordered);
      indexed = λ c.
          rw (left, live)
          (ap (option_map (λ (x : Holder). x.serial)) (holder_after holders a.session.client c)
          ∙ map_choice (λ (x : Holder). x.serial) (is_same_text a.session.client c) (holder_of c holders)
          ∙ ap (λ o. cond (is_same_text a.session.client c) None o) (h.indexed c)
          ∙ sym (map_choice (λ (t : Session). t.serial) (is_same_text a.session.client c) (session_of_client c (live_in rows)))
          ∙ sym (ap (option_map (λ (t : Session). t.serial)) (client_after (live_in rows) n a.session c up apart there)));
      counts =
          let one : suc (length holders2) ≡ length holders =
          ap (λ xs. suc (length xs)) rest ∙ holder_less a.session.client holders j at.0 in
          let other : suc (length (live_in (set rows i (empty_row n)))) ≡ length (live_in rows) =
          ap (λ xs. suc (length xs)) live ∙ count_less n (live_in rows) a.session up there in
          let was = h.counts in
          omega arith;
    }

pub rows_begun : (counter : ℕ) (rows : List SessionRow) (y : Seat) → AreRows counter rows → counter < 2 ^ 64 - 1
    → session_of_client y.session.client (live_in rows) ≡ None → length (live_in rows) < most_sessions → HasOwnSerial (counter + 1) y
    → AreRows (counter + 1) (rows ++ row_of (counter + 1) y ∷ [])
rows_begun counter rows y kept small none few own =
    let live = begun_last rows (counter + 1) y in
    record {
      small = omega arith;
      own = own_push counter rows (row_of (counter + 1) y) kept.own kept.counted (omega arith) own;
      counted = counted_push counter rows (row_of (counter + 1) y) kept.counted refl;
      apart = rw live (keys_push is_same_text (λ (s : Session). s.client) (live_in rows) y.session kept.apart none);
      few = rw live (length_more (live_in rows) y.session few);
    } where
      length_more : (xs : List Session) (x : Session) → length xs < most_sessions → length (xs ++ x ∷ []) ≤ most_sessions
      length_more xs x less = let e = pushed xs x in omega arith where
        pushed : (xs : List Session) (x : Session) → length (xs ++ x ∷ []) ≡ suc (length xs)
        pushed [] x = refl
        pushed (z ∷ xs) x = ap (λ m. suc m) (pushed xs x)

inserted_length : (holders : List Holder) (j : ℕ) (h : Holder) → j ≤ length holders → length (insert holders j h) ≡ suc (length holders)
inserted_length [] zero h le = refl
inserted_length [] (suc j) h le = absurd (omega arith)
inserted_length (x ∷ holders) zero h le = refl
inserted_length (x ∷ holders) (suc j) h le = ap (λ m. suc m) (inserted_length holders j h (omega arith))

pushed_length : (xs : List Session) (x : Session) → length (xs ++ x ∷ []) ≡ suc (length xs)
pushed_length [] x = refl
pushed_length (z ∷ xs) x = ap (λ m. suc m) (pushed_length xs x)

pub holders_begun : (n : ℕ) (rows : List SessionRow) (holders holders2 : List Holder) (y : Seat) (j : ℕ) (r : Result ℕ ℕ)
    → AreHolders rows holders
    → session_of_client y.session.client (live_in rows) ≡ None → y.session.serial ≡ n
    → IsPlaceOf (λ (h : Holder). is_same_text h.client y.session.client) holders r → IfErr r (IsPlaceFor y.session.client holders) → r ≡
    Err j
    → holders2 ≡ insert holders j (record { client = y.session.client; serial = n })
    → AreHolders (rows ++ row_of n y ∷ []) holders2
holders_begun n rows holders holders2 y j r h none same place gap is entry =
    let live = begun_last rows n y in
    let at = subst (IsPlaceOf (λ (x : Holder). is_same_text x.client y.session.client) holders) is place in
    let open_at = subst (λ t. IfErr t (IsPlaceFor y.session.client holders)) is gap in
    record {
      ordered = rw entry (open_at n);
      indexed = λ c. rw (entry, live) (subst (λ m. option_map
          (λ (x : Holder). x.serial) (holder_of c (insert holders j (record { client = y.session.client; serial = m }))) ≡ option_map
          (λ (s : Session). s.serial) (session_of_client c (live_in rows ++ y.session ∷ []))) same
          (begun_indexed y.session (live_in rows) holders j c none h.indexed));
      counts = rw (
        entry,
        live,
        inserted_length holders j (record { client = y.session.client; serial = n }) at.0,
        pushed_length (live_in rows) y.session,
      ) (ap (λ m. suc m) h.counts);
    }

pub live_filter : (rows : List SessionRow) → live_in (filter (λ (r : SessionRow). is_some r.kept) rows) ≡ live_in rows
live_filter rows = ap (map (λ (s : Seat). s.session)) (seats_filter rows)

pub rows_filled : (counter : ℕ) (rows : List SessionRow) → AreRows counter rows
    → AreRows counter (filter (λ (r : SessionRow). is_some r.kept) rows)
rows_filled counter rows kept = record {
  small = kept.small;
  own = own_filter rows kept.own;
  counted = counted_filter counter rows kept.counted;
  apart = rw (live_filter rows) kept.apart;
  few = rw (live_filter rows) kept.few;
}

pub holders_filled : (rows : List SessionRow) (holders : List Holder) → AreHolders rows holders
    → AreHolders (filter (λ (r : SessionRow). is_some r.kept) rows) holders
holders_filled rows holders h = record {
  ordered = h.ordered;
  indexed = λ c. rw (live_filter rows) (h.indexed c);
  counts = rw (live_filter rows) h.counts;
}

-- where a client has no session its holder is missing, and where it has one it is there
pub no_holder : (rows : List SessionRow) (holders : List Holder) (c : List ℕ) → AreHolders rows holders
    → session_of_client c (live_in rows) ≡ None → holder_of c holders ≡ None
no_holder rows holders c h none = map_none (λ (x : Holder). x.serial) (holder_of c holders) (h.indexed c
    ∙ ap (option_map (λ (s : Session). s.serial)) none)

pub holder_is_there : (n : ℕ) (rows : List SessionRow) (holders : List Holder) (i : ℕ) (a : Seat) → AreOwn rows → AreHolders rows holders
    → slice_get rows i ≡ Some (row_of n a) → IsSome (holder_of a.session.client holders)
holder_is_there n rows holders i a own h e =
    some_alike (λ (x : Holder). x.serial) (λ (t : Session). t.serial) (holder_of a.session.client holders)
    (session_of_client a.session.client (live_in rows)) (h.indexed a.session.client)
    (found_again (λ (t : Session). t.serial == n) (λ (t : Session). is_same_text t.client a.session.client) (live_in rows) a.session
    (found_in_row n rows i a own.rising own.own e) (text_itself a.session.client))
