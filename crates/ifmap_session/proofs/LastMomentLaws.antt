-- The last moments of rows: as rows have their last moments one by one, as one changes, and what the least and those that are due say of
-- the sessions.
-- 1. Rows up to a place have their last moments (`HasLastMomentsTo`): as it begins, one row on, and at the end.
-- 2. A list with its last moments of which a row changes, gains a row, or has a row that keeps its last moment.
-- 3. A session is expired exactly where its last moment is due, so the nodes that are due give the serials of those (`due_serials`).
-- 4. Whether any is due is told by the least last moment, at the root (`root_any`).
-- 5. Each node that is due is that of a row; and all of it once more in the words of the code (`any_is`, `due_is`).
use Rattle.std.proofs.Common.{◌≡◌, ◌≢◌, ◌⊎◌, refl, sym, ◌∙◌, ap, subst, ℕ, zero, suc, ◌+◌, ◌-◌, ◌*◌, ◌<◌, ◌≤◌, ◌==◌, nat_le, true, false, List, [], ◌∷◌, ◌++◌, length, map, set, Option, None, Some, inl, inr, arith}
use Rattle.std.proofs.lemmas.Bool.{cases_Bool, cases_lt, both_ways}
use Rattle.std.proofs.lemmas.Bool.Decides.{nat_tests}
use Rattle.std.proofs.lemmas.List.Elements.{All-from_recursion}
use Rattle.std.proofs.lemmas.Option.{slice_get_past}
use Rattle.std.specs.List.{All, AllByRecursion, filter, list_any, slice_get}
use Rattle.std.specs.Option.{IfSome, option_map, option_to_list, unwrap_or}
use Rattle.ifmap_lemmas.specs.Inserted.{push_elsewhere}
use Rattle.ifmap_lemmas.specs.Places.{last_there, written_elsewhere, written_there}
use Rattle.ifmap_session.specs.declared.rows.SessionRow.{SessionRow}
use Rattle.ifmap_session.specs.Rows.{AreLastMoments, HasOwnSerial, HasLastMoments, due_rows, live_in, seats_of, serial_at, last_moment_of}
use Rattle.ifmap_session.specs.Seats.{Seat}
use Rattle.ifmap_session.specs.Sessions.{Session, expired_serials, is_expired}
use Rattle.ifmap_session.specs.LastMoments.{IsPower, IsTree, SetsLastMoment, node_value, due_nodes, is_any_due, is_due, no_moment, numbers_from}
use Rattle.ifmap_session.proofs.RowLaws.{Own}
use Rattle.ifmap_session.proofs.Trees.{root_least, root_there}

-- the last moment of what may be a row
abbrev pub last_moment_in : Option SessionRow → ℕ
last_moment_in row = unwrap_or (option_map last_moment_of row) no_moment

-- rows up to a place have their last moments, and no other place has a last moment
pub record HasLastMomentsTo (rows : List SessionRow) (width place : ℕ) (tree : List ℕ) : Type 0 where
  pub lesser : IsTree width tree
  pub before : (p : ℕ) → p < place → p < width → node_value tree (width + p) ≡ last_moment_in (slice_get rows p)
  pub after : (p : ℕ) → place ≤ p → p < width → node_value tree (width + p) ≡ no_moment

pub moments_begin : (rows : List SessionRow) (width : ℕ) (tree : List ℕ) → IsTree width tree
    → ((node : ℕ) → width ≤ node → node < 2 * width → node_value tree node ≡ no_moment) → HasLastMomentsTo rows width 0 tree
moments_begin rows width tree t blank = record {
  lesser = t;
  before = λ p low high. absurd (omega arith);
  after = λ p low high. blank (width + p) (omega arith) (omega arith);
}

keeps_last_moment : (width place last_moment p : ℕ) (old new : List ℕ) → SetsLastMoment width place last_moment old new → p < width
    → p ≢ place
    → node_value new (width + p) ≡ node_value old (width + p)
keeps_last_moment width place last_moment p old new r less apart =
    elim (r.others (width + p) (omega arith) (omega arith)) [ inl e ↦ absurd (apart (omega arith)) | inr e ↦ e ]

pub moments_go_on : (rows : List SessionRow) (width place last_moment : ℕ) (old new : List ℕ) → HasLastMomentsTo rows width place old
    → SetsLastMoment width place last_moment old new → last_moment ≡ last_moment_in (slice_get rows place)
    → HasLastMomentsTo rows width (place + 1) new
moments_go_on rows width place last_moment old new s r is = record {
  lesser = r.tree;
  before = λ p low high. elim (cases_lt p place) [
    | inl less ↦ keeps_last_moment width place last_moment p old new r high (omega arith) ∙ s.before p less high
    | inr here ↦ let e : p ≡ place = omega arith in
        subst (λ q. node_value new (width + q) ≡ last_moment_in (slice_get rows q)) (sym e) (r.there ∙ is)
  ];
  after = λ p low high. keeps_last_moment width place last_moment p old new r high (omega arith) ∙ s.after p (omega arith) high;
}

pub moments_end : (rows : List SessionRow) (width place : ℕ) (tree : List ℕ) → HasLastMomentsTo rows width place tree → length rows ≤ place
    → HasLastMoments rows width tree
moments_end rows width place tree s all = λ p high. elim (cases_lt p place) [
  | inl less ↦ s.before p less high
  | inr more ↦ s.after p more high ∙ ap last_moment_in (sym (slice_get_past rows p (omega arith)))
]

pub last_moment_is_set : (rows : List SessionRow) (width i last_moment : ℕ) (q : SessionRow) (old new : List ℕ)
    → HasLastMoments rows width old → i < length rows
    → SetsLastMoment width i last_moment old new → last_moment ≡ last_moment_of q → HasLastMoments (set rows i q) width new
last_moment_is_set rows width i last_moment q old new s within r is = λ p high. elim (cases_lt p i) [
  | inl less ↦ other p high (omega arith)
  | inr not_less ↦ elim (cases_lt i p) [
    | inl more ↦ other p high (omega arith)
    | inr here ↦ let e : p ≡ i = omega arith in
        subst (λ k. node_value new (width + k) ≡ last_moment_in (slice_get (set rows i q) k)) (sym e)
        (r.there ∙ is ∙ ap last_moment_in (sym (written_there rows i q within)))
  ]
] where
  other : (p : ℕ) → p < width → p ≢ i → node_value new (width + p) ≡ last_moment_in (slice_get (set rows i q) p)
  other p high apart = keeps_last_moment width i last_moment p old new r high apart ∙ s p high ∙ ap last_moment_in
      (sym (written_elsewhere rows i p q apart))

pub last_moments_after_push : (rows : List SessionRow) (width last_moment : ℕ) (q : SessionRow) (old new : List ℕ)
    → HasLastMoments rows width old
    → SetsLastMoment width (length rows) last_moment old new → last_moment ≡ last_moment_of q → HasLastMoments (rows ++ q ∷ []) width new
last_moments_after_push rows width last_moment q old new s r is = λ p high. elim (cases_lt p (length rows)) [
  | inl less ↦ other p high (omega arith)
  | inr not_less ↦ elim (cases_lt (length rows) p) [
    | inl more ↦ other p high (omega arith)
    | inr here ↦ let e : p ≡ length rows = omega arith in
        subst (λ k. node_value new (width + k) ≡ last_moment_in (slice_get (rows ++ q ∷ []) k)) (sym e)
        (r.there ∙ is ∙ ap last_moment_in (sym (last_there rows q)))
  ]
] where
  other : (p : ℕ) → p < width → p ≢ length rows → node_value new (width + p) ≡ last_moment_in (slice_get (rows ++ q ∷ []) p)
  other p high apart = keeps_last_moment width (length rows) last_moment p old new r high apart ∙ s p high
      ∙ ap last_moment_in (sym (push_elsewhere rows q p apart))

-- a row that changes and keeps its last moment
pub same_last_moments : (rows : List SessionRow) (width i : ℕ) (r q : SessionRow) (tree : List ℕ) → HasLastMoments rows width tree
    → slice_get rows i ≡ Some r
    → i < length rows → last_moment_of q ≡ last_moment_of r → HasLastMoments (set rows i q) width tree
same_last_moments rows width i r q tree s e within is = λ p high. elim (cases_lt p i) [
  | inl less ↦ s p high ∙ ap last_moment_in (sym (written_elsewhere rows i p q (omega arith)))
  | inr not_less ↦ elim (cases_lt i p) [
    | inl more ↦ s p high ∙ ap last_moment_in (sym (written_elsewhere rows i p q (omega arith)))
    | inr here ↦ let k : p ≡ i = omega arith in
        s p high ∙ subst (λ j. last_moment_in (slice_get rows j) ≡ last_moment_in (slice_get (set rows i q) j)) (sym k)
        (ap last_moment_in e ∙ sym is ∙ ap last_moment_in (sym (written_there rows i q within)))
  ]
]

-- what the least last moment and those that are due say of the sessions
due_at : (moment ttl limit : ℕ) (s : Session) → limit + ttl ≡ moment → is_expired moment ttl s ≡ nat_le s.last limit
due_at moment ttl limit s e = grind (arith, nat_tests)

expired_by : (moment ttl limit : ℕ) → limit + ttl ≡ moment → (sessions : List Session)
    → filter (is_expired moment ttl) sessions ≡ filter (λ s. nat_le s.last limit) sessions
expired_by moment ttl limit e [] = refl
expired_by moment ttl limit e (s ∷ sessions) = rw (due_at moment ttl limit s e, expired_by moment ttl limit e sessions) refl

any_by : (moment ttl limit : ℕ) → limit + ttl ≡ moment → (sessions : List Session)
    → list_any (is_expired moment ttl) sessions ≡ list_any (λ s. nat_le s.last limit) sessions
any_by moment ttl limit e [] = refl
any_by moment ttl limit e (s ∷ sessions) = rw (due_at moment ttl limit s e, any_by moment ttl limit e sessions) refl

not_yet : (moment ttl : ℕ) → moment < ttl → (sessions : List Session) → list_any (is_expired moment ttl) sessions ≡ false
not_yet moment ttl early [] = refl
not_yet moment ttl early (s ∷ sessions) =
    let e : is_expired moment ttl s ≡ false = grind (arith, nat_tests) in rw (e, not_yet moment ttl early sessions) refl

none_yet : (moment ttl : ℕ) → moment < ttl → (sessions : List Session) → filter (is_expired moment ttl) sessions ≡ []
none_yet moment ttl early [] = refl
none_yet moment ttl early (s ∷ sessions) =
    let e : is_expired moment ttl s ≡ false = grind (arith, nat_tests) in rw (e, none_yet moment ttl early sessions) refl

never_due : (tree : List ℕ) (limit k : ℕ) → limit < no_moment → node_value tree k ≡ no_moment → is_due tree limit k ≡ false
never_due tree limit k low e = grind (arith, nat_tests)

none_due : (tree : List ℕ) (limit base n : ℕ) → limit < no_moment → ((p : ℕ) → p < n → node_value tree (base + p) ≡ no_moment)
    → filter (is_due tree limit) (numbers_from base n) ≡ []
none_due tree limit base zero low blank = refl
none_due tree limit base (suc n) low blank =
    let first : node_value tree base ≡ no_moment = subst (λ k. node_value tree k ≡ no_moment) (omega arith) (blank 0 (omega arith)) in
    rw (never_due tree limit base low first) (none_due tree limit (base + 1) n low (λ p less.
    subst (λ k. node_value tree k ≡ no_moment) (omega arith) (blank (suc p) (omega arith))))

-- the serials at the nodes that are due are those of the sessions that are
due_one : (g : ℕ → ℕ) (tree : List ℕ) (limit base : ℕ) (serial : ℕ) (kept : Option Seat) (nodes : List ℕ) (rows : List SessionRow)
    → limit < no_moment → IfSome kept (HasOwnSerial serial) → g base ≡ serial
    → node_value tree base ≡ last_moment_of (record { serial = serial; kept = kept })
    → map g (filter (is_due tree limit) nodes) ≡ map (λ (s : Session). s.serial) (filter (λ s. nat_le s.last limit) (live_in rows))
    → map g (filter (is_due tree limit) (base ∷ nodes)) ≡ map (λ (s : Session). s.serial) (filter
    (λ s. nat_le s.last limit) (map (λ (s : Seat). s.session) (option_to_list kept ++ seats_of rows)))
due_one g tree limit base serial None nodes rows low own named last_moment rest = rw (never_due tree limit base low last_moment) rest
due_one g tree limit base serial (Some seat) nodes rows low own named last_moment rest =
    let same : is_due tree limit base ≡ nat_le seat.session.last limit = ap (λ n. nat_le n limit) last_moment in
    elim (cases_Bool (nat_le seat.session.last limit)) [
      | inl hit ↦ rw (same, hit, named, own.numbered, rest) refl
      | inr miss ↦ rw (same, miss) rest
    ]

due_all : (g : ℕ → ℕ) (tree : List ℕ) (limit base n : ℕ) (rows : List SessionRow) → limit < no_moment → Own rows → length rows ≤ n
    → ((p : ℕ) (r : SessionRow) → slice_get rows p ≡ Some r → g (base + p) ≡ r.serial)
    → ((p : ℕ) → p < n → node_value tree (base + p) ≡ last_moment_in (slice_get rows p))
    → map g (filter (is_due tree limit) (numbers_from base n)) ≡ map (λ (s : Session). s.serial) (filter
    (λ s. nat_le s.last limit) (live_in rows))
due_all g tree limit base n [] low own fits named has_moments =
    ap (map g) (none_due tree limit base n low (λ p less. has_moments p less))
due_all g tree limit base zero (r ∷ rows) low own fits named has_moments = absurd (omega arith)
due_all g tree limit base (suc n) (r ∷ rows) low own fits named has_moments =
    due_one g tree limit base r.serial r.kept (numbers_from (base + 1) n) rows low own.0
    (subst (λ k. g k ≡ r.serial) (omega arith) (named 0 r refl))
    (subst (λ k. node_value tree k ≡ last_moment_of r) (omega arith) (has_moments 0 (omega arith)))
    (due_all g tree limit (base + 1) n rows low own.1 (omega arith)
    (λ p q e. subst (λ k. g k ≡ q.serial) (omega arith) (named (suc p) q e))
    (λ p less. subst (λ k. node_value tree k ≡ last_moment_in (slice_get rows p)) (omega arith) (has_moments (suc p) (omega arith))))

pub due_serials : (width : ℕ) (tree : List ℕ) (rows : List SessionRow) (moment ttl limit : ℕ) → limit < no_moment → limit + ttl ≡ moment
    → Own rows → length rows ≤ width → HasLastMoments rows width tree
    → map (λ node. serial_at rows (node - width)) (due_nodes width tree limit) ≡ expired_serials moment ttl (live_in rows)
due_serials width tree rows moment ttl limit low e own fits has_moments =
    due_all (λ node. serial_at rows (node - width)) tree limit width width rows low own fits
    (λ p r got. let back : width + p - width ≡ p = omega arith in rw (back, got) refl) has_moments
    ∙ ap (map (λ (s : Session). s.serial)) (sym (expired_by moment ttl limit e (live_in rows)))

-- whether any is due
any_at : (limit : ℕ) (rows : List SessionRow) (p : ℕ) → limit < no_moment → last_moment_in (slice_get rows p) ≤ limit
    → list_any (λ s. nat_le s.last limit) (live_in rows) ≡ true
any_at limit [] p low le = absurd (omega arith)
any_at limit (r ∷ rows) zero low le = here r.kept le where
  here : (o : Option Seat) → unwrap_or (option_map (λ (s : Seat). s.session.last) o) no_moment ≤ limit
      → list_any (λ s. nat_le s.last limit) (map (λ (s : Seat). s.session) (option_to_list o ++ seats_of rows)) ≡ true
  here None le = absurd (omega arith)
  here (Some s) le = let e : nat_le s.session.last limit ≡ true = grind (arith, nat_tests) in rw e refl
any_at limit (r ∷ rows) (suc p) low le = past r.kept (any_at limit rows p low le) where
  past : (o : Option Seat) → list_any (λ s. nat_le s.last limit) (live_in rows) ≡ true
      → list_any (λ s. nat_le s.last limit) (map (λ (s : Seat). s.session) (option_to_list o ++ seats_of rows)) ≡ true
  past None e = e
  past (Some s) e = elim (cases_Bool (nat_le s.session.last limit)) [ inl hit ↦ rw hit refl | inr miss ↦ rw (miss, e) refl ]

none_any : (limit : ℕ) (rows : List SessionRow) → ((p : ℕ) → p < length rows → limit < last_moment_in (slice_get rows p))
    → list_any (λ s. nat_le s.last limit) (live_in rows) ≡ false
none_any limit [] f = refl
none_any limit (r ∷ rows) f = one r.kept (f 0 (omega arith)) (none_any limit rows (λ p less. f (suc p) (omega arith))) where
  one : (o : Option Seat) → limit < unwrap_or (option_map (λ (s : Seat). s.session.last) o) no_moment
      → list_any (λ s. nat_le s.last limit) (live_in rows) ≡ false
      → list_any (λ s. nat_le s.last limit) (map (λ (s : Seat). s.session) (option_to_list o ++ seats_of rows)) ≡ false
  one None low e = e
  one (Some s) low e = let k : nat_le s.session.last limit ≡ false = grind (arith, nat_tests) in rw (k, e) refl

pub root_any : (width : ℕ) (tree : List ℕ) (rows : List SessionRow) (moment ttl limit : ℕ) → limit < no_moment → limit + ttl ≡ moment
    → IsTree width tree → 1 ≤ width → length rows ≤ width → HasLastMoments rows width tree
    → nat_le (node_value tree 1) limit ≡ list_any (is_expired moment ttl) (live_in rows)
root_any width tree rows moment ttl limit low e t some fits has_moments =
    elim (cases_lt limit (node_value tree 1)) [
      | inl above ↦
          let k : nat_le (node_value tree 1) limit ≡ false = grind (arith, nat_tests) in
          k ∙ sym (any_by moment ttl limit e (live_in rows) ∙ none_any limit rows (λ p less.
          let least = root_least width tree t (width + p) (omega arith) (omega arith) in
          let is = has_moments p (omega arith) in omega arith))
      | inr within ↦
          let k : nat_le (node_value tree 1) limit ≡ true = grind (arith, nat_tests) in
          let there = root_there width tree t some in
          k ∙ sym (any_by moment ttl limit e (live_in rows) ∙ any_at limit rows there.0 low
          (let is = has_moments there.0 there.1 in let at_root = there.2 in omega arith))
    ]

-- where there is no row, none is expired
pub no_rows : (rows : List SessionRow) (moment ttl : ℕ) → length rows ≤ 0 → (list_any (is_expired moment ttl) (live_in rows) ≡ false)
    × (expired_serials moment ttl (live_in rows) ≡ [])
no_rows [] moment ttl none = (refl, refl)
no_rows (r ∷ rows) moment ttl none = absurd (omega arith)

-- each node that is due is that of a row
all_due : (width : ℕ) (tree : List ℕ) (rows : List SessionRow) (limit base n : ℕ) → width ≤ base → base + n ≤ 2 * width → limit < no_moment
    → HasLastMoments rows width tree
    → AllByRecursion (λ node. (width ≤ node) × (node - width < length rows)) (filter (is_due tree limit) (numbers_from base n))
all_due width tree rows limit base zero low high small has_moments = tt
all_due width tree rows limit base (suc n) low high small has_moments =
    let rest = all_due width tree rows limit (base + 1) n (omega arith) (omega arith) small has_moments in
    elim (cases_Bool (is_due tree limit base)) [
      | inl hit ↦ rw hit (
        (
          low,
          elim (cases_lt (base - width) (length rows)) [
            | inl less ↦ less
            | inr past ↦
                let is : node_value tree (width + (base - width)) ≡ last_moment_in (slice_get rows (base - width)) =
                has_moments (base - width) (omega arith) in
                let none : node_value tree base ≡ no_moment = subst (λ k. node_value tree k ≡ no_moment) (omega arith)
                (is ∙ ap last_moment_in
                (slice_get_past rows (base - width) (omega arith))) in
                absurd (both_ways (is_due tree limit base) (never_due tree limit base small none) hit)
          ],
        ),
        rest,
      )
      | inr miss ↦ rw miss rest
    ]

pub due_within : (width : ℕ) (tree : List ℕ) (rows : List SessionRow) (limit : ℕ) → limit < no_moment → HasLastMoments rows width tree
    → All (λ node. (width ≤ node) × (node - width < length rows)) (due_nodes width tree limit)
due_within width tree rows limit small has_moments =
    All-from_recursion (λ node. (width ≤ node) × (node - width < length rows)) (due_nodes width tree limit)
    (all_due width tree rows limit width width (omega arith) (omega arith) small has_moments)

pub is_power : (width : ℕ) → (width ≡ 0) ⊎ IsPower width → width ≢ 0 → IsPower width
is_power width (inl none) some = absurd (some none)
is_power width (inr p) some = p

-- the same, in the words of the code
pub any_is : (width : ℕ) (tree : List ℕ) (rows : List SessionRow) (moment ttl limit : ℕ) → limit < no_moment → limit + ttl ≡ moment
    → AreLastMoments rows width tree → is_any_due width tree limit ≡ list_any (is_expired moment ttl) (live_in rows)
any_is width tree rows moment ttl limit low e m =
    elim (cases_lt 0 width) [
      | inl some ↦
          let there : (width == 0) ≡ false = grind (arith, nat_tests) in
          rw there (root_any width tree rows moment ttl limit low e m.lesser (omega arith) m.within m.has_moments)
      | inr none ↦
          let there : (width == 0) ≡ true = grind (arith, nat_tests) in
          let fits = m.within in
          rw there (sym (no_rows rows moment ttl (omega arith)).0)
    ]

pub due_is : (width : ℕ) (tree : List ℕ) (rows : List SessionRow) (moment ttl limit : ℕ) → limit < no_moment → limit + ttl ≡ moment
    → Own rows
    → AreLastMoments rows width tree → due_rows rows width tree limit ≡ expired_serials moment ttl (live_in rows)
due_is width tree rows moment ttl limit low e own m = due_serials width tree rows moment ttl limit low e own m.within m.has_moments

pub none_due_yet : (moment ttl : ℕ) → moment < ttl → (sessions : List Session)
    → (list_any (is_expired moment ttl) sessions ≡ false) × (expired_serials moment ttl sessions ≡ [])
none_due_yet moment ttl early sessions =
    (not_yet moment ttl early sessions, ap (map (λ (s : Session). s.serial)) (none_yet moment ttl early sessions))
