-- What is pending, queued in sessions.
-- First: who lives goes on to live (`live_changed`), and items are queued one after the other (`PushesOn`). Last: one session is told
-- (`room_for_one`), and sessions one after the other (`TellsOn`).
use Rattle.std.proofs.Common.{◌≡◌, ◌≢◌, refl, sym, ◌∙◌, ap, subst, ℕ, ◌+◌, ◌≤◌, ◌==◌, true, false, List, [], ◌∷◌, append_assoc, length, map, Option, None, Some, inl, inr, arith, nat_cmp}
use Rattle.std.proofs.lemmas.Bool.{cases_Bool, eq-eqb, eqb-true}
use Rattle.std.specs.BTreeMap.{Updates, get}
use Rattle.ifmap_lemmas.specs.Numbers.{others_untied}
use Rattle.ifmap_lemmas.specs.Options.{is_some_of, some_is}
use Rattle.ifmap_tellings.specs.declared.tellings.Telling.{Telling}
use Rattle.ifmap_tellings.specs.declared.tellings.Telling.TheVariants.{After, Alone}
use Rattle.ifmap_tellings.specs.ChangeLaws.{changes_both, changes_none}
use Rattle.ifmap_tellings.specs.Tellings.{CanTell, EachTelling, Tellings, count_told, count_where, tell_by, tell_if}
use Rattle.ifmap_standing.specs.ifmap_machine.Telling.{tell_session}
use Rattle.ifmap_search.specs.declared.results.PollItem.{PollItem}
use Rattle.ifmap_standing.specs.ifmap_session.Sessions.{Changes, IsLive, Session, SessionTable, change, session_with_serial, spare_of, with_item}
use Rattle.ifmap_standing.specs.ifmap_session.laws.TableLaws.{KeepsIdAndClient, changed_one, found_changed}
use Rattle.ifmap_standing.specs.ifmap_machine.OrderLaws.{tell_nothing}

-- who lives goes on to live
pub live_changed : (n : ℕ) (f : Session → Session) → KeepsIdAndClient f → (old new : SessionTable) → Changes n f old new → (m : ℕ) → IsLive
    m old.live
    → IsLive m new.live
live_changed n f k old new c m l =
    let there = some_is (session_with_serial m old.live) l in
    subst (IsLive m) (sym c.live) (is_some_of (session_with_serial m (change n f old.live)) (changed_one n f there.0)
    (found_changed n f k m old.live there.0 there.1))

-- ---- items are queued one after the other

told_more : (item : PollItem) (items : List PollItem) (s : Session) → tell_session items (with_item item s) ≡ tell_session (item ∷ items) s
told_more item items s = ap (λ q. record s { queue = q }) (append_assoc s.queue (item ∷ []) items)

queued_keeps : (item : PollItem) → KeepsIdAndClient (with_item item)
queued_keeps item = record { serial = λ s. refl; id = λ s. refl; client = λ s. refl }

-- of these items some are queued, and the rest is left
pub record PushesOn (n : ℕ) (items : List PollItem) (old now : SessionTable) (rest : List PollItem) : Type 0 where
  pub live : IsLive n now.live
  pub on : (new : SessionTable) → Changes n (tell_session rest) now new → Changes n (tell_session items) old new
  pub spare : spare_of n now.spare + length items ≡ spare_of n old.spare + length rest
  pub fits : length items ≤ spare_of n old.spare

module _ (n : ℕ) (items : List PollItem) (old : SessionTable) where
  pub pushes_none : (rest : List PollItem) → rest ≡ items → IsLive n old.live → length items ≤ spare_of n old.spare
      → PushesOn n items old old rest
  pushes_none rest is live fits = record {
    live = live;
    on = λ new c. subst (λ all. Changes n (tell_session all) old new) is c;
    spare = ap (λ all. spare_of n old.spare + length all) (sym is);
    fits = fits;
  }

  module _ (now : SessionTable) (all : List PollItem) (item : PollItem) (rest : List PollItem) (p : PushesOn n items old now all)
      (cut : all ≡ item ∷ rest) where
    pub push_fits : 1 ≤ spare_of n now.spare
    push_fits = let long = ap length cut in omega (arith, long, p.spare, p.fits)

    pub pushes_more : (new : SessionTable) → Changes n (with_item item) now new → spare_of n new.spare + 1 ≡ spare_of n now.spare
        → PushesOn n items old new rest
    pushes_more new c less = record {
      live = live_changed n (with_item item) (queued_keeps item) now new c n p.live;
      on = λ last d.
          p.on last (subst (λ xs. Changes n (tell_session xs) now last) (sym cut)
          (changes_both n (with_item item) (tell_session rest) (tell_session (item ∷ rest)) (λ s. refl) (told_more item rest) now new last
          c d));
      spare = let long = ap length cut in omega (arith, long, p.spare, less);
      fits = p.fits;
    }

  module _ (now : SessionTable) (rest : List PollItem) (p : PushesOn n items old now rest) (none : rest ≡ []) where
    pub pushes_all : Changes n (tell_session items) old now
    pushes_all = p.on now (subst (λ xs. Changes n (tell_session xs) now now) (sym none) (changes_none n (tell_session []) tell_nothing now))

    pub pushes_spare : spare_of n now.spare + length items ≡ spare_of n old.spare
    pushes_spare = let long = ap length none in omega (arith, long, p.spare)

-- ---- one session is told

-- with room for one more, there is room for one in place of all
pub room_for_one : (n : ℕ) (table : SessionTable) (t : Telling) → count_told t ≡ 1 → CanTell table n t → (s : Session)
    → session_with_serial n table.live ≡ Some s → 1 ≤ spare_of n table.spare + length s.queue
room_for_one n table t one can s is = omega (arith, one, can.room)

-- ---- sessions are told one after the other

told_keeps : (o : Option Telling) → KeepsIdAndClient (tell_if o)
told_keeps None = record { serial = λ s. refl; id = λ s. refl; client = λ s. refl }
told_keeps (Some (After items size)) = record { serial = λ s. refl; id = λ s. refl; client = λ s. refl }
told_keeps (Some (Alone error)) = record { serial = λ s. refl; id = λ s. refl; client = λ s. refl }

-- some tellings are left, the others are told
pub record TellsOn (tellings : Tellings) (old now : SessionTable) (left : Tellings) : Type 0 where
  pub can : EachTelling (CanTell now) left
  pub live : map (tell_by left) now.live ≡ map (tell_by tellings) old.live
  pub counter : now.counter ≡ old.counter
  pub spare : (n : ℕ) → spare_of n old.spare + count_where (get nat_cmp left n)
      ≤ spare_of n now.spare + count_where (get nat_cmp tellings n)
  pub room : old.room ≤ now.room

pub tells_none : (tellings : Tellings) (old : SessionTable) → EachTelling (CanTell old) tellings → TellsOn tellings old old tellings
tells_none tellings old can = record {
  can = can;
  live = refl;
  counter = refl;
  spare = λ n. omega arith;
  room = omega arith;
}

module _ (n : ℕ) (t : Telling) (left less : Tellings) (there : get nat_cmp left n ≡ Some t) (u : Updates nat_cmp left less n None) where
  others_left : (m : ℕ) → m ≢ n → get nat_cmp less m ≡ get nat_cmp left m
  others_left m apart = u.2 m (others_untied n m (λ e. apart (sym e)))

  -- one is told, the rest of what is to be told makes of it what all made
  told_then : (s : Session) → tell_by less (changed_one n (tell_if (Some t)) s) ≡ tell_by left s
  told_then s =
      elim (cases_Bool (s.serial == n)) [
        | inl hit ↦
            let here : s.serial ≡ n = eqb-true s.serial n hit in
            let same : (tell_if (Some t) s).serial ≡ n = (told_keeps (Some t)).serial s ∙ here in
            let none : get nat_cmp less (tell_if (Some t) s).serial ≡ None = ap (get nat_cmp less) same ∙ u.1 in
            let some : get nat_cmp left s.serial ≡ Some t = ap (get nat_cmp left) here ∙ there in
            rw (hit, none, some) refl
        | inr miss ↦
            let other : s.serial ≢ n = λ e. (let bad : true ≡ false = sym (eq-eqb s.serial n e) ∙ miss in cc) in
            rw (miss, others_left s.serial other) refl
      ]

  told_each : (live : List Session) → map (tell_by less) (change n (tell_if (Some t)) live) ≡ map (tell_by left) live
  told_each [] = refl
  told_each (s ∷ live) = rw (told_then s, told_each live) refl

  module _ (tellings : Tellings) (old now new : SessionTable) (so : TellsOn tellings old now left)
      (c : Changes n (tell_if (Some t)) now new) (spare : spare_of n now.spare ≤ spare_of n new.spare + count_told t) where
    spare_at : (m : ℕ) → spare_of m old.spare + count_where (get nat_cmp less m)
        ≤ spare_of m new.spare + count_where (get nat_cmp tellings m)
    spare_at m =
        elim (cases_Bool (m == n)) [
          | inl hit ↦
              let here : m ≡ n = eqb-true m n hit in
              let none : count_where (get nat_cmp less n) ≡ 0 = ap count_where u.1 in
              let some : count_where (get nat_cmp left n) ≡ count_told t = ap count_where there in
              subst (λ k. spare_of k old.spare + count_where (get nat_cmp less k)
              ≤ spare_of k new.spare + count_where (get nat_cmp tellings k)) (sym here) (omega (arith, none, some, so.spare n, spare))
          | inr miss ↦
              let other : m ≢ n = λ e. (let bad : true ≡ false = sym (eq-eqb m n e) ∙ miss in cc) in
              let same : count_where (get nat_cmp less m) ≡ count_where (get nat_cmp left m) = ap count_where (others_left m other) in
              omega (arith, same, c.others m other, so.spare m)
        ]

    can_still : (m : ℕ) (r : Telling) → get nat_cmp less m ≡ Some r → CanTell new m r
    can_still m r is =
        elim (cases_Bool (m == n)) [
          | inl hit ↦
              let here : m ≡ n = eqb-true m n hit in
              let bad : None ≡ Some r = sym (ap (get nat_cmp less) here ∙ u.1) ∙ is in cc
          | inr miss ↦
              let other : m ≢ n = λ e. (let bad : true ≡ false = sym (eq-eqb m n e) ∙ miss in cc) in
              let could = so.can m r (sym (others_left m other) ∙ is) in
              record {
                live = live_changed n (tell_if (Some t)) (told_keeps (Some t)) now new c m could.live;
                room = omega (arith, could.room, c.others m other);
              }
        ]

    pub tells_more : TellsOn tellings old new less
    tells_more = record {
      can = can_still;
      live = ap (map (tell_by less)) c.live ∙ told_each now.live ∙ so.live;
      counter = c.counter ∙ so.counter;
      spare = spare_at;
      room = omega (arith, c.room, so.room);
    }

module _ (tellings : Tellings) (old now : SessionTable) (left : Tellings) (so : TellsOn tellings old now left) (none : left.entries ≡ [])
  where
    none_at : (n : ℕ) → get nat_cmp left n ≡ None
    none_at n = rw none refl

    told_as_is : (live : List Session) → map (tell_by left) live ≡ live
    told_as_is [] = refl
    told_as_is (s ∷ live) = rw (none_at s.serial, told_as_is live) refl

    pub tells_all : now.live ≡ map (tell_by tellings) old.live
    tells_all = sym (told_as_is now.live) ∙ so.live

    pub tells_spare : (n : ℕ) → spare_of n old.spare ≤ spare_of n now.spare + count_where (get nat_cmp tellings n)
    tells_spare n = let nothing : count_where (get nat_cmp left n) ≡ 0 = ap count_where (none_at n) in omega (arith, nothing, so.spare n)
