-- What holds of the live sessions at every moment goes on to hold as one begins, ends or changes.
-- First: one ends (`ended_table`), and its client has none then (`client_freed`) and fewer are left (`one_fewer`). Then: one begins
-- (`begun_table`). Then: one changes, by a function that keeps its serial, id and client (`changed_table`). Last: what is found by a
-- serial (`found_by_serial`), and is found still (`found_beside_ended`, `found_beside_begun`, `found_changed`).
use Rattle.std.proofs.Common.{◌≡◌, refl, sym, ◌∙◌, ap, subst, ℕ, suc, ◌+◌, ◌-◌, ◌^◌, ◌<◌, ◌≤◌, ◌==◌, Bool, true, false, not, cond, List, [], ◌∷◌, ◌++◌, length, map, None, Some, inl, inr, arith, length-append}
use Rattle.std.proofs.lemmas.Bool.{cases_Bool, eq-eqb, not_from_true, or_left, eqb-true, or_parts}
use Rattle.std.proofs.lemmas.Bool.Decides.{nat_tests}
use Rattle.std.proofs.lemmas.Cmp.{nat_list_eq_equiv}
use Rattle.std.proofs.lemmas.List.Folds.{find-append}
use Rattle.std.proofs.lemmas.List.Kept.{IsStrictlySortedBy-filter}
use Rattle.std.specs.Int.{to_be_bytes, w128}
use Rattle.std.specs.List.{AllByRecursion, IsDistinct, filter, find, list_any}
use Rattle.std.specs.List.Sorted.{IsStrictlySortedBy}
use Rattle.std.specs.declared.cmp.Ordering.TheVariants.{Less}
use Rattle.ifmap_lemmas.specs.Filters.{all_filter, all_weaker, filter_shorter, found_all}
use Rattle.ifmap_lemmas.specs.Found.{find_in_filter, find_none, one_less}
use Rattle.ifmap_lemmas.specs.Members.{both_all, map_of_all}
use Rattle.ifmap_session.specs.SessionIds.{BeginsWithSerial, session_id}
use Rattle.ifmap_session.specs.Sessions.{IsTable, Session, SessionTable, change, is_same_text, most_sessions, session_of_client, session_order, session_with_serial, with_last, without_sessions, IsLive, expired_serials, is_expired}
use Rattle.ifmap_lemmas.specs.Keyed.{keys_filter, keys_push, rest_differ}
use Rattle.uuid.specs.Text.{hyphenated_text, lower}

-- a session that these numbers are not of
abbrev pub is_left : List ℕ → Session → Bool
is_left serials s = not (list_any (λ n. n == s.serial) serials)

-- whether a session is not that of a serial
abbrev remains : ℕ → Session → Bool
remains serial s = not (list_any (λ n. n == s.serial) (serial ∷ []))

goes_itself : (s : Session) → remains s.serial s ≡ false
goes_itself s = not_from_true (list_any (λ n. n == s.serial) (s.serial ∷ []))
    (or_left (s.serial == s.serial) false (eq-eqb s.serial s.serial refl))

-- one ends
pub ended_table : (serial : ℕ) (table : SessionTable) → IsTable table → IsTable
    (record table { live = without_sessions (serial ∷ []) table.live })
ended_table serial table h = record {
  rising = IsStrictlySortedBy-filter session_order (remains serial) table.live h.rising;
  counted = all_filter (λ (s : Session). s.serial ≤ table.counter) (remains serial) table.live h.counted;
  small = h.small;
  ids = all_filter (λ (s : Session). BeginsWithSerial s.serial s.id) (remains serial) table.live h.ids;
  apart = keys_filter is_same_text (λ (s : Session). s.client) (remains serial) table.live h.apart;
  few = let less = filter_shorter (remains serial) table.live in omega (arith, less, h.few);
}

-- a client that has a session has one alone: without it fewer are left, and none of the client's
pub one_fewer : (live : List Session) (client : List ℕ) (s : Session) → session_of_client client live ≡ Some s
    → length (without_sessions (s.serial ∷ []) live) < length live
one_fewer live client s e = one_less (λ (t : Session). is_same_text t.client client) (remains s.serial) live s e (goes_itself s)

pub client_freed : (live : List Session) (client : List ℕ) (s : Session) → IsDistinct is_same_text (map (λ (t : Session). t.client) live)
    → session_of_client client live ≡ Some s → session_of_client client (without_sessions (s.serial ∷ []) live) ≡ None
unfolding IsDistinct
client_freed [] client s apart e = refl
client_freed (x ∷ live) client s apart e =
    elim (cases_Bool (is_same_text x.client client)) [
      | inl hit ↦
          let same : x ≡ s = cc (rw hit at e) in
          let goes : remains s.serial x ≡ false = subst (λ (t : Session). remains s.serial t ≡ false) (sym same) (goes_itself s) in
          rw goes (find_none (λ (t : Session). is_same_text t.client client) (filter (remains s.serial) live) (all_filter
          (λ (t : Session). is_same_text t.client client ≡ false) (remains s.serial) live (rest_differ is_same_text
          (λ (t : Session). t.client) nat_list_eq_equiv x client live apart.0 hit)))
      | inr miss ↦
          elim (cases_Bool (remains s.serial x)) [
            | inl stays ↦ rw (stays, miss) (client_freed live client s apart.1 (rw miss at e))
            | inr goes ↦ rw goes (client_freed live client s apart.1 (rw miss at e))
          ]
    ]

-- an id begins with its serial
pub id_begins : (serial random : ℕ) → BeginsWithSerial serial (session_id serial random)
id_begins serial random = (hyphenated_text lower (to_be_bytes w128 random), refl)

-- one begins
sorted_push : (counter : ℕ) (live : List Session) (y : Session) → IsStrictlySortedBy session_order live → AllByRecursion
    (λ (s : Session). s.serial ≤ counter) live → counter < y.serial → IsStrictlySortedBy session_order (live ++ y ∷ [])
unfolding IsStrictlySortedBy
sorted_push counter [] y up counted above = (tt, tt)
sorted_push counter (x ∷ live) y up counted above = (
  both_all (λ z. session_order x z ≡ Less) live (y ∷ []) up.0 (grind (arith, nat_tests, counted.0), tt),
  sorted_push counter live y up.1 counted.1 above,
)

pub begun_table : (table : SessionTable) (s : Session) → IsTable table → s.serial ≡ table.counter + 1 → BeginsWithSerial s.serial s.id
    → table.counter < 2 ^ 64 - 1 → session_of_client s.client table.live ≡ None → length table.live < most_sessions
    → IsTable (record table { counter = table.counter + 1; live = table.live ++ s ∷ [] })
begun_table table s h next id small none room = record {
  rising = sorted_push table.counter table.live s h.rising h.counted (omega (arith, next));
  counted = both_all (λ (t : Session). t.serial ≤ table.counter + 1) table.live (s ∷ [])
      (all_weaker (λ (t : Session). t.serial ≤ table.counter) (λ (t : Session). t.serial ≤ table.counter + 1)
      (λ t le. omega (arith, le)) table.live h.counted) (omega (arith, next), tt);
  small = omega (arith, small);
  ids = both_all (λ (t : Session). BeginsWithSerial t.serial t.id) table.live (s ∷ []) h.ids (id, tt);
  apart = keys_push is_same_text (λ (t : Session). t.client) table.live s h.apart none;
  few = let long = length-append table.live (s ∷ []) in omega (arith, long, room);
}

-- one changes, by a function that keeps its serial, id and client
pub record KeepsIdAndClient (f : Session → Session) : Type 0 where
  pub serial : (s : Session) → (f s).serial ≡ s.serial
  pub id : (s : Session) → (f s).id ≡ s.id
  pub client : (s : Session) → (f s).client ≡ s.client

pub renewed_keeps : (moment : ℕ) → KeepsIdAndClient (with_last moment)
renewed_keeps moment = record { serial = λ s. refl; id = λ s. refl; client = λ s. refl }

-- what a change makes of one session
abbrev pub changed_one : ℕ → (Session → Session) → Session → Session
changed_one n f s = cond (s.serial == n) (f s) s

module _ (n : ℕ) (f : Session → Session) (k : KeepsIdAndClient f) where
  pub one_numbered : (s : Session) → (changed_one n f s).serial ≡ s.serial
  one_numbered s = elim (cases_Bool (s.serial == n)) [ inl hit ↦ rw hit (k.serial s) | inr miss ↦ rw miss refl ]

  pub one_named : (s : Session) → (changed_one n f s).id ≡ s.id
  one_named s = elim (cases_Bool (s.serial == n)) [ inl hit ↦ rw hit (k.id s) | inr miss ↦ rw miss refl ]

  pub one_changed : (s : Session) → (changed_one n f s).client ≡ s.client
  one_changed s = elim (cases_Bool (s.serial == n)) [ inl hit ↦ rw hit (k.client s) | inr miss ↦ rw miss refl ]

  pub clients_same : (live : List Session)
      → map (λ (s : Session). s.client) (change n f live) ≡ map (λ (s : Session). s.client) live
  clients_same [] = refl
  clients_same (x ∷ live) = rw (one_changed x, clients_same live) refl

  all_changed : (P Q : Session → Type 0) → ((s : Session) → P s → Q (changed_one n f s)) → (live : List Session)
      → AllByRecursion P live → AllByRecursion Q (change n f live)
  all_changed P Q g live h = map_of_all Q (changed_one n f) live (all_weaker P (λ s. Q (changed_one n f s)) g live h)

  changed_rising : (live : List Session) → IsStrictlySortedBy session_order live → IsStrictlySortedBy session_order (change n f live)
  unfolding IsStrictlySortedBy
  changed_rising [] up = tt
  changed_rising (x ∷ live) up = (
    all_changed (λ z. session_order x z ≡ Less) (λ z. session_order (changed_one n f x) z ≡ Less)
        (λ z l. rw (one_numbered x, one_numbered z) l) live up.0,
    changed_rising live up.1,
  )

  pub found_changed : (m : ℕ) (live : List Session) (s : Session) → session_with_serial m live ≡ Some s
      → session_with_serial m (change n f live) ≡ Some (changed_one n f s)
  found_changed m [] s e = cc
  found_changed m (x ∷ live) s e =
      elim (cases_Bool (x.serial == m)) [
        | inl hit ↦
            let same : x ≡ s = cc (rw hit at e) in
            rw (one_numbered x, hit) (ap (λ t. Some (changed_one n f t)) same)
        | inr miss ↦ rw (one_numbered x, miss) (found_changed m live s (rw miss at e))
      ]

pub length_same : (n : ℕ) (f : Session → Session) (live : List Session) → length (change n f live) ≡ length live
length_same n f [] = refl
length_same n f (x ∷ live) = ap (λ m. suc m) (length_same n f live)

pub changed_table : (n : ℕ) (f : Session → Session) → KeepsIdAndClient f → (table : SessionTable) → IsTable table
    → IsTable (record table { live = change n f table.live })
changed_table n f k table h = record {
  rising = changed_rising n f k table.live h.rising;
  counted = all_changed n f k (λ (s : Session). s.serial ≤ table.counter) (λ (s : Session). s.serial ≤ table.counter)
      (λ s le. subst (λ m. m ≤ table.counter) (sym (one_numbered n f k s)) le) table.live h.counted;
  small = h.small;
  ids = all_changed n f k (λ (s : Session). BeginsWithSerial s.serial s.id) (λ (s : Session). BeginsWithSerial s.serial s.id)
      (λ s id. rw (one_numbered n f k s, one_named n f k s) id) table.live h.ids;
  apart = subst (IsDistinct is_same_text) (sym (clients_same n f k table.live)) h.apart;
  few = subst (λ m. m ≤ most_sessions) (sym (length_same n f table.live)) h.few;
}

-- a session found by any test is found by its serial
pub found_by_serial : (q : Session → Bool) (live : List Session) (s : Session) → IsStrictlySortedBy session_order live
    → find q live ≡ Some s → session_with_serial s.serial live ≡ Some s
unfolding IsStrictlySortedBy
found_by_serial q [] s up e = cc
found_by_serial q (x ∷ live) s up e =
    elim (cases_Bool (q x)) [
      | inl hit ↦
          let same : x ≡ s = cc (rw hit at e) in
          rw (eq-eqb x.serial s.serial (ap (λ (t : Session). t.serial) same)) (ap Some same)
      | inr miss ↦
          let there : find q live ≡ Some s = rw miss at e in
          let less : session_order x s ≡ Less = found_all (λ z. session_order x z ≡ Less) q live up.0 s there in
          let other : (x.serial == s.serial) ≡ false = grind (arith, nat_tests, less) in
          rw other (found_by_serial q live s up.1 there)
    ]

-- it is found still where another ends, or one begins
other_remains : (serial n : ℕ) (s : Session) → (n == serial) ≡ false → (s.serial == n) ≡ true → remains serial s ≡ true
other_remains serial n s other is = grind (arith, nat_tests, other, is)

pub found_beside_ended : (serial n : ℕ) (live : List Session) (s : Session) → (n == serial) ≡ false → session_with_serial n live ≡ Some s
    → session_with_serial n (without_sessions (serial ∷ []) live) ≡ Some s
found_beside_ended serial n live s other e =
    find_in_filter (λ (t : Session). t.serial == n) (remains serial) (λ t. other_remains serial n t other) live s e

pub found_beside_begun : (n : ℕ) (live : List Session) (y s : Session) → session_with_serial n live ≡ Some s
    → session_with_serial n (live ++ y ∷ []) ≡ Some s
found_beside_begun n live y s e = find-append (λ (t : Session). t.serial == n) live (y ∷ []) ∙ rw e refl

pub found_serial : (n : ℕ) (live : List Session) (s : Session) → session_with_serial n live ≡ Some s → s.serial ≡ n
found_serial n [] s e = cc
found_serial n (x ∷ live) s e =
    elim (cases_Bool (x.serial == n)) [
      | inl hit ↦ let same : x ≡ s = cc (rw hit at e) in ap (λ (t : Session). t.serial) (sym same) ∙ eqb-true x.serial n hit
      | inr miss ↦ found_serial n live s (rw miss at e)
    ]

-- who is live among the sessions that are left is live
pub left_live : (p : Session → Bool) (n : ℕ) (live : List Session) → IsLive n (filter p live) → IsLive n live
left_live p n [] l = l
left_live p n (s ∷ live) l = elim (cases_Bool (s.serial == n)) [
  | inl hit ↦ rw hit refl
  | inr miss ↦ elim (cases_Bool (p s)) [
    | inl stays ↦ rw miss (left_live p n live (rw miss at (rw stays at l)))
    | inr goes ↦ rw miss (left_live p n live (rw goes at l))
  ]
]

pub none_expired : (moment ttl : ℕ) (live : List Session) → list_any (is_expired moment ttl) live ≡ false
    → expired_serials moment ttl live ≡ []
none_expired moment ttl [] e = refl
none_expired moment ttl (x ∷ live) e =
    let both = or_parts (is_expired moment ttl x) (list_any (is_expired moment ttl) live) e in
    rw (both.0) (none_expired moment ttl live both.1)
