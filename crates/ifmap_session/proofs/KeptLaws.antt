-- All that is kept, as calls change it.
-- First: the session of one row changes (`one_row_changes`), in its queue alone (`kept_queue`) or in its last moment too
-- (`kept_renewed`). Then: what holds of the last moments as a session ends (`moments_ended`) or begins (`moments_begun`).
use Rattle.std.proofs.Common.{◌≡◌, ◌≢◌, refl, sym, ◌∙◌, ap, ℕ, suc, ◌<◌, ◌≤◌, ◌==◌, List, [], ◌∷◌, ◌++◌, length, set, Some, inl, arith}
use Rattle.std.proofs.lemmas.List.{length-set}
use Rattle.std.proofs.lemmas.Option.{slice_get_within}
use Rattle.std.specs.List.{IsDistinct, slice_get}
use Rattle.std.specs.List.Sorted.{IsStrictlySortedBy}
use Rattle.ifmap_lemmas.specs.Choices.{same_either_way}
use Rattle.ifmap_lemmas.specs.Places.{written_there}
use Rattle.ifmap_search.specs.declared.results.PollItem.{PollItem}
use Rattle.ifmap_session.specs.declared.holders.Holder.{Holder}
use Rattle.ifmap_session.specs.declared.rows.SessionRow.{SessionRow}
use Rattle.ifmap_session.specs.SessionIds.{session_id}
use Rattle.ifmap_session.specs.Rows.{AreHolders, AreRows, AreLastMoments, ChangesSeat, AreTied, HasOwnSerial, Rewrites, live_in, spare_in}
use Rattle.ifmap_session.specs.Seats.{Seat}
use Rattle.ifmap_session.specs.Sessions.{Session, change, session_with_serial, spare_of, with_error, with_item, with_last, without_items, without_name}
use Rattle.ifmap_session.specs.LastMoments.{SetsLastMoment, no_moment}
use Rattle.ifmap_session.proofs.RowLaws.{changed_in_row, empty_row, found_in_row, spare_found, spare_other, row_of}
use Rattle.ifmap_session.specs.laws.TableLaws.{KeepsIdAndClient, renewed_keeps}
use Rattle.ifmap_session.proofs.SessionLaws.{holders_changed, own_at, rows_changed}
use Rattle.ifmap_session.proofs.LastMomentLaws.{last_moment_is_set, last_moments_after_push, same_last_moments}

pub kept_none : AreTied 0 [] [] 0 []
unfolding IsStrictlySortedBy IsDistinct
kept_none = record {
  sessions = record { small = omega arith; own = record { rising = tt; own = tt }; counted = tt; apart = tt; few = omega arith };
  clients = record { ordered = tt; indexed = λ c. refl; counts = refl };
  moments = record {
    lesser = record { long = refl; lesser = λ node one less. absurd (omega arith) };
    power = inl refl;
    few = omega arith;
    within = omega arith;
    has_moments = λ p less. absurd (omega arith);
  };
}

-- the session of a row changed by f
pub record Rewritten (counter n : ℕ) (f : Session → Session) (P : Seat → Seat → Type 0) (rows new : List SessionRow)
    (holders : List Holder) : Type 0 where
  pub before : Seat
  pub after : Seat
  pub holds : P before after
  pub there : session_with_serial n (live_in rows) ≡ Some before.session
  pub sessions : AreRows counter new
  pub clients : AreHolders new holders
  pub live : live_in new ≡ change n f (live_in rows)
  pub others : (other : ℕ) → other ≢ n → spare_of other (spare_in new) ≡ spare_of other (spare_in rows)
  pub was : spare_of n (spare_in rows) ≡ before.spare
  pub is : spare_of n (spare_in new) ≡ after.spare

-- f changes no more of a session than its queue
pub record ChangesQueue (f : Session → Session) : Type 0 where
  pub names : KeepsIdAndClient f
  pub last : (s : Session) → (f s).last ≡ s.last

pub queue_stays : ChangesQueue (λ s. s)
queue_stays = record { names = record { serial = λ s. refl; id = λ s. refl; client = λ s. refl }; last = λ s. refl }

pub item_queued : (item : PollItem) → ChangesQueue (with_item item)
item_queued item = record { names = record { serial = λ s. refl; id = λ s. refl; client = λ s. refl }; last = λ s. refl }

pub queue_overflowed : (error : PollItem) → ChangesQueue (with_error error)
queue_overflowed error = record { names = record { serial = λ s. refl; id = λ s. refl; client = λ s. refl }; last = λ s. refl }

pub name_dropped : (name : List ℕ) → ChangesQueue (without_name name)
name_dropped name = record { names = record { serial = λ s. refl; id = λ s. refl; client = λ s. refl }; last = λ s. refl }

pub queue_emptied : ChangesQueue without_items
queue_emptied = record { names = record { serial = λ s. refl; id = λ s. refl; client = λ s. refl }; last = λ s. refl }

-- a list in which nothing is changed
pub change_none : (n : ℕ) (live : List Session) → change n (λ s. s) live ≡ live
change_none n [] = refl
change_none n (s ∷ live) = rw (same_either_way (s.serial == n) s, change_none n live) refl

module _ {counter : ℕ} {rows : List SessionRow} {holders : List Holder} {width : ℕ} {tree : List ℕ}
    (k : AreTied counter rows holders width tree) (n place : ℕ) (a : Seat) (e : slice_get rows place ≡ Some (row_of n a)) where
  pub one_row_changes : (new : List SessionRow) (f : Session → Session) (P : Seat → Seat → Type 0) → KeepsIdAndClient f
      → Rewrites place (ChangesSeat f P) rows new → Rewritten counter n f P rows new holders
  one_row_changes new f P keeps w =
      let r = w n a e in
      let b : Seat = r.0 in
      let own = own_at n rows place a k.sessions.own.own e in
      let is : b.session ≡ f a.session = r.1.0 in
      let kept : AreRows counter (set rows place (row_of n b)) =
      rows_changed counter n f rows place a b keeps k.sessions e own is in
      let own_b : b.session.serial ≡ n = ap (λ (s : Session). s.serial) is ∙ keeps.serial a.session ∙ own.numbered in
      record {
        before = a;
        after = b;
        holds = r.1.1;
        there = found_in_row n rows place a k.sessions.own.rising k.sessions.own.own e;
        sessions = rw r.2 kept;
        clients = rw r.2 (holders_changed n f rows holders place a b keeps k.sessions.own k.clients e is);
        live = rw r.2 (changed_in_row n f rows place a b k.sessions.own.rising k.sessions.own.own e is);
        others = λ other apart. rw r.2 (spare_other n rows place a (Some b) k.sessions.own.own e own_b other apart);
        was = spare_found n rows place a k.sessions.own.rising k.sessions.own.own e;
        is = rw r.2 (spare_found n (set rows place (row_of n b)) place b kept.own.rising kept.own.own
            (written_there rows place (row_of n b) (slice_get_within rows place (row_of n a) e)));
      }

  -- its last moment stays
  moments_same : (new : List SessionRow) (f : Session → Session) (P : Seat → Seat → Type 0) → ((s : Session) → (f s).last ≡ s.last)
      → Rewrites place (ChangesSeat f P) rows new → AreLastMoments new width tree
  moments_same new f P last w =
      let r = w n a e in
      let b : Seat = r.0 in
      let within = slice_get_within rows place (row_of n a) e in
      rw r.2 (record {
        lesser = k.moments.lesser;
        power = k.moments.power;
        few = k.moments.few;
        within = rw (length-set rows place (row_of n b)) k.moments.within;
        has_moments = same_last_moments rows width place (row_of n a) (row_of n b) tree k.moments.has_moments e within
            (ap (λ (s : Session). s.last) r.1.0 ∙ last a.session);
      })

  pub kept_queue : (new : List SessionRow) (f : Session → Session) (P : Seat → Seat → Type 0) → ChangesQueue f
      → Rewrites place (ChangesSeat f P) rows new → AreTied counter new holders width tree
  kept_queue new f P c w =
      let r = one_row_changes new f P c.names w in
      record { sessions = r.sessions; clients = r.clients; moments = moments_same new f P c.last w }

  -- it is set
  moments_set : (new : List SessionRow) (P : Seat → Seat → Type 0) (moment : ℕ) (tree2 : List ℕ)
      → Rewrites place (ChangesSeat (with_last moment) P) rows new → SetsLastMoment width place moment tree tree2
      → AreLastMoments new width tree2
  moments_set new P moment tree2 w sets_moment =
      let r = w n a e in
      let b : Seat = r.0 in
      let within = slice_get_within rows place (row_of n a) e in
      rw r.2 (record {
        lesser = sets_moment.tree;
        power = k.moments.power;
        few = k.moments.few;
        within = rw (length-set rows place (row_of n b)) k.moments.within;
        has_moments = last_moment_is_set rows width place moment (row_of n b) tree tree2 k.moments.has_moments within sets_moment
            (sym (ap (λ (s : Session). s.last) r.1.0));
      })

  pub kept_renewed : (new : List SessionRow) (P : Seat → Seat → Type 0) (moment : ℕ) (tree2 : List ℕ)
      → Rewrites place (ChangesSeat (with_last moment) P) rows new → SetsLastMoment width place moment tree tree2
      → AreTied counter new holders width tree2
  kept_renewed new P moment tree2 w sets_moment =
      let r = one_row_changes new (with_last moment) P (renewed_keeps moment) w in
      record { sessions = r.sessions; clients = r.clients; moments = moments_set new P moment tree2 w sets_moment }

  -- a place is one that last moments are for
  pub place_within : place < width
  place_within = let less = slice_get_within rows place (row_of n a) e in let within = k.moments.within in omega arith

-- a session ends
pub moments_ended : (n : ℕ) (rows : List SessionRow) (width : ℕ) (tree tree2 : List ℕ) (place : ℕ) (a : Seat)
    → AreLastMoments rows width tree
    → slice_get rows place ≡ Some (row_of n a) → SetsLastMoment width place no_moment tree tree2
    → AreLastMoments (set rows place (empty_row n)) width tree2
moments_ended n rows width tree tree2 place a m e sets_moment =
    let within = slice_get_within rows place (row_of n a) e in
    record {
      lesser = sets_moment.tree;
      power = m.power;
      few = m.few;
      within = rw (length-set rows place (empty_row n)) m.within;
      has_moments = last_moment_is_set rows width place no_moment (empty_row n) tree tree2 m.has_moments within sets_moment refl;
    }

-- one begins
push_length : (rows : List SessionRow) (r : SessionRow) → length (rows ++ r ∷ []) ≡ suc (length rows)
push_length [] r = refl
push_length (x ∷ rows) r = ap (λ m. suc m) (push_length rows r)

pub moments_begun : (n : ℕ) (rows : List SessionRow) (width last_moment : ℕ) (tree tree2 : List ℕ) (y : Seat)
    → AreLastMoments rows width tree
    → length rows < width → SetsLastMoment width (length rows) last_moment tree tree2 → y.session.last ≡ last_moment
    → AreLastMoments (rows ++ row_of n y ∷ []) width tree2
moments_begun n rows width last_moment tree tree2 y m less sets_moment is = record {
  lesser = sets_moment.tree;
  power = m.power;
  few = m.few;
  within = let l = push_length rows (row_of n y) in omega arith;
  has_moments = last_moments_after_push rows width last_moment (row_of n y) tree tree2 m.has_moments sets_moment (sym is);
}

-- where a session is expired there is a row
pub some_width : (rows : List SessionRow) (width : ℕ) → length rows ≤ width → width ≡ 0 → length rows ≤ 0
some_width rows width fits none = omega arith

-- a session that was ready has the serial that its id begins with
pub begun_own : (n random : ℕ) (y : Seat) → y.session.serial ≡ n → y.session.id ≡ session_id n random → HasOwnSerial n y
begun_own n random y same id = record { numbered = same; id = (_, id) }
