-- Sessions of which some have expired: what is found among those left, and how they end in turn.
-- 1. Where the session of an id, or of a client, goes, there is no other (`id_lost`,
--    `client_lost`).
-- 2. Sessions end one after the other: each is live when its turn comes (`can_end`), and together
--    they leave what all of them leave at once (`without_each`).
-- 3. How many sessions are left (`left_length`).
-- 4. So those can end that are expired (`expired_end`).
use Rattle.std.proofs.Common.{◌≡◌, refl, sym, ap, subst, ℕ, ◌+◌, ◌≤◌, ◌==◌, Bool, true, false, not, List, [], ◌∷◌, length, map, nat_eq, None, Some, inl, inr, arith}
use Rattle.std.proofs.lemmas.Bool.{cases_Bool, eq-eqb}
use Rattle.std.proofs.lemmas.Bool.Decides.{nat_tests}
use Rattle.std.proofs.lemmas.List.Kept.{IsStrictlySortedBy-filter}
use Rattle.std.specs.List.{AllByRecursion, IsDistinct, filter, list_any}
use Rattle.std.specs.List.Sorted.{IsStrictlySortedBy}
use Rattle.std.specs.declared.cmp.Ordering.TheVariants.{Less}
use Rattle.ifmap_subscribes.specs.ifmap_changes.Between.{CanEnd}
use Rattle.std.proofs.lemmas.Cmp.{nat_list_eq_equiv}
use Rattle.ifmap_lemmas.specs.Filters.{all_filter, all_weaker, found_all}
use Rattle.ifmap_lemmas.specs.Finding.{found_passes}
use Rattle.ifmap_lemmas.specs.Keyed.{rest_differ}
use Rattle.ifmap_lemmas.specs.Members.{map_of_all, all_two}
use Rattle.ifmap_lemmas.specs.Options.{is_some_of, some_is}
use Rattle.ifmap_lemmas.specs.Parted.{lost_in_rest}
use Rattle.ifmap_session.specs.SessionIds.{BeginsWithSerial}
use Rattle.ifmap_session.specs.Sessions.{IsLive, IsTable, Session, SessionTable, expired_serials, is_expired, is_same_text, session_of_client, session_order, session_with_id, session_with_serial, without_sessions}
use Rattle.ifmap_session.specs.laws.TableLaws.{found_beside_ended, is_left}
use Rattle.ifmap_session.specs.laws.TextLaws.{find_none, text_is}
use Rattle.ifmap_session.specs.laws.IdLaws.{ids_tell}

-- ---- what a search finds among those that a filter leaves

-- no other session has the id of one that goes
pub id_lost : (table : SessionTable) (serials : List ℕ) (id : List ℕ) (s : Session) → IsTable table → session_with_id id table.live ≡ Some s
    → is_left serials s ≡ false → session_with_id id (without_sessions serials table.live) ≡ None
id_lost table serials id s h e goes =
    let q : Session → Bool = λ (t : Session). is_same_text t.id id in
    let mine : BeginsWithSerial s.serial s.id = found_all (λ (t : Session). BeginsWithSerial t.serial t.id) q table.live h.ids s e in
    let low : s.serial ≤ table.counter = found_all (λ (t : Session). t.serial ≤ table.counter) q table.live h.counted s e in
    let own : is_same_text s.id id ≡ true = found_passes q table.live s e in
    let one : (t : Session) → BeginsWithSerial t.serial t.id → t.serial ≤ table.counter → is_same_text t.id id ≡ true
    → is_left serials t ≡ false =
    λ t begins below is. let same : t.serial ≡ s.serial =
    ids_tell t.serial s.serial id (omega (arith, below, h.small)) (omega (arith, low, h.small))
    (subst (BeginsWithSerial t.serial) (text_is t.id id is) begins) (subst (BeginsWithSerial s.serial) (text_is s.id id own) mine) in
    subst (λ n. not (list_any (λ m. m == n) serials) ≡ false) (sym same) goes in
    lost_in_rest q (is_left serials) table.live (all_two (λ (t : Session). BeginsWithSerial t.serial t.id)
    (λ (t : Session). t.serial ≤ table.counter) (λ (t : Session). is_same_text t.id id ≡ true → is_left serials t ≡ false) one table.live
    h.ids
    h.counted)

-- no other session is of the client of one that goes
pub client_lost : (p : Session → Bool) (live : List Session) (client : List ℕ) (s : Session)
    → IsDistinct is_same_text (map (λ (t : Session). t.client) live) → session_of_client client live ≡ Some s → p s ≡ false
    → session_of_client client (filter p live) ≡ None
unfolding IsDistinct
client_lost p [] client s apart e goes = refl
client_lost p (x ∷ live) client s apart e goes =
    elim (cases_Bool (is_same_text x.client client)) [
      | inl hit ↦
          let same : x ≡ s = cc (rw hit at e) in
          let out : p x ≡ false = subst (λ (t : Session). p t ≡ false) (sym same) goes in
          rw out (find_none (λ (t : Session). is_same_text t.client client) (filter p live) (all_filter
          (λ (t : Session). is_same_text t.client client ≡ false) p live
          (rest_differ is_same_text (λ (t : Session). t.client) nat_list_eq_equiv x client live apart.0 hit)))
      | inr miss ↦
          let rest = client_lost p live client s apart.1 (rw miss at e) goes in
          elim (cases_Bool (p x)) [ inl stays ↦ rw (stays, miss) rest | inr out ↦ rw out rest ]
    ]

-- ---- sessions end one after the other

pub live_beside : (n m : ℕ) (live : List Session) → (m == n) ≡ false → IsLive m live → IsLive m (without_sessions (n ∷ []) live)
live_beside n m live other l =
    let there = some_is (session_with_serial m live) l in
    is_some_of (session_with_serial m (without_sessions (n ∷ []) live)) there.0 (found_beside_ended n m live there.0 other there.1)

pub can_end : (serials : List ℕ) (live : List Session) → IsDistinct nat_eq serials → AllByRecursion (λ n. IsLive n live) serials
    → CanEnd serials live
unfolding IsDistinct
can_end [] live apart all = tt
can_end (n ∷ serials) live apart all = (
  all.0,
  can_end serials (without_sessions (n ∷ []) live) apart.1 (all_two (λ m. nat_eq n m ≡ false) (λ m. IsLive m live)
      (λ m. IsLive m (without_sessions (n ∷ []) live)) (λ m other l. live_beside n m live (turned n m other) l) serials apart.0 all.1),
)
  where
    turned : (n m : ℕ) → nat_eq n m ≡ false → (m == n) ≡ false
    turned n m e = grind (arith, nat_tests, e)

pub without_none : (live : List Session) → without_sessions [] live ≡ live
without_none [] = refl
without_none (x ∷ live) = ap (λ t. x ∷ t) (without_none live)

pub without_each : (n : ℕ) (serials : List ℕ) (live : List Session)
    → without_sessions (n ∷ serials) live ≡ without_sessions serials (without_sessions (n ∷ []) live)
without_each n serials [] = refl
without_each n serials (x ∷ live) =
    let rest = without_each n serials live in
    elim (cases_Bool (n == x.serial)) [
      | inl hit ↦ rw hit rest
      | inr miss ↦
          elim (cases_Bool (list_any (λ m. m == x.serial) serials)) [
            | inl out ↦ rw (miss, out) rest
            | inr stays ↦ rw (miss, stays) (ap (λ t. x ∷ t) rest)
          ]
    ]

pub rising_left : (serials : List ℕ) (live : List Session) → IsStrictlySortedBy session_order live
    → IsStrictlySortedBy session_order (without_sessions serials live)
rising_left serials live up = IsStrictlySortedBy-filter session_order (is_left serials) live up

all_remain : (n : ℕ) (x : Session) (live : List Session) → (x.serial == n) ≡ true → AllByRecursion (λ y. session_order x y ≡ Less) live
    → without_sessions (n ∷ []) live ≡ live
all_remain n x [] is up = refl
all_remain n x (y ∷ live) is up =
    let other : (n == y.serial) ≡ false = let less = up.0 in grind (arith, nat_tests, is, less) in
    rw other (ap (λ t. y ∷ t) (all_remain n x live is up.1))

one_out : (n : ℕ) (live : List Session) → IsStrictlySortedBy session_order live → IsLive n live
    → length (without_sessions (n ∷ []) live) + 1 ≡ length live
unfolding IsStrictlySortedBy
one_out n [] up l = cc
one_out n (x ∷ live) up l =
    elim (cases_Bool (x.serial == n)) [
      | inl hit ↦
          let goes : (n == x.serial) ≡ true = grind (arith, nat_tests, hit) in
          let rest = ap (λ (t : List Session). length t) (all_remain n x live hit up.0) in
          rw goes (omega (arith, rest))
      | inr miss ↦
          let stays : (n == x.serial) ≡ false = grind (arith, nat_tests, miss) in
          let rest = one_out n live up.1 (rw miss at l) in
          rw stays (omega (arith, rest))
    ]

pub left_length : (serials : List ℕ) (live : List Session) → IsStrictlySortedBy session_order live → CanEnd serials live
    → length (without_sessions serials live) + length serials ≡ length live
left_length [] live up can = let same = ap (λ (t : List Session). length t) (without_none live) in omega (arith, same)
left_length (n ∷ serials) live up can =
    let rest = left_length serials (without_sessions (n ∷ []) live) (rising_left (n ∷ []) live up) can.1 in
    let one = one_out n live up can.0 in
    let both = ap (λ (t : List Session). length t) (without_each n serials live) in
    omega (arith, rest, one, both)

-- ---- those that are expired

live_after : (n : ℕ) (x : Session) (live : List Session) → IsLive n live → IsLive n (x ∷ live)
live_after n x live l = elim (cases_Bool (x.serial == n)) [ inl hit ↦ rw hit refl | inr miss ↦ rw miss l ]

each_live : (live : List Session) → AllByRecursion (λ (s : Session). IsLive s.serial live) live
each_live [] = tt
each_live (x ∷ live) = (
  rw (eq-eqb x.serial x.serial refl) refl,
  all_weaker (λ (s : Session). IsLive s.serial live) (λ (s : Session). IsLive s.serial (x ∷ live))
      (λ s l. live_after s.serial x live l) live (each_live live),
)

serials_apart : (live : List Session) → IsStrictlySortedBy session_order live → IsDistinct nat_eq (map (λ (s : Session). s.serial) live)
unfolding IsStrictlySortedBy IsDistinct
serials_apart [] up = tt
serials_apart (x ∷ live) up = (
  map_of_all (λ m. nat_eq x.serial m ≡ false) (λ (s : Session). s.serial) live (all_weaker (λ y. session_order x y ≡ Less)
      (λ (s : Session). nat_eq x.serial s.serial ≡ false) (λ y less. grind (arith, nat_tests, less)) live up.0),
  serials_apart live up.1,
)

pub expired_end : (moment ttl : ℕ) (live : List Session) → IsStrictlySortedBy session_order live
    → CanEnd (expired_serials moment ttl live) live
expired_end moment ttl live up =
    let p : Session → Bool = is_expired moment ttl in
    can_end (expired_serials moment ttl live) live (serials_apart (filter p live) (IsStrictlySortedBy-filter session_order p live up))
    (map_of_all (λ n. IsLive n live) (λ (s : Session). s.serial) (filter p live)
    (all_filter (λ (s : Session). IsLive s.serial live) p live (each_live live)))
