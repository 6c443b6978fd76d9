-- What a seat knows, and how each step changes it.
use Rattle.std.specs.Prelude.{◌≡◌, ℕ, Bool, ◌+◌, ◌-◌, ◌/◌, ◌<◌, ◌≤◌, [], ◌++◌, length, drop, map, true, false, Option, nat_lt, if◌then◌else◌}
use Rattle.atomic_table.specs.Table.{Me}
use Rattle.ifmap_hall.specs.Histories.{no_history, history_in, Extends}
use Rattle.ifmap_hall.specs.Sights.{run}
use Rattle.ifmap_hall.specs.Views.{is_later, IsSoundView, first_view, kept_view, given_view, joint_view}
use Rattle.ifmap_hall.specs.declared.book.Book.{Book}
use Rattle.ifmap_hall.specs.declared.view.HallHistory.{HallHistory}
use Rattle.ifmap_hall.specs.declared.view.SeatView.{SeatView}
use Rattle.ifmap_hall.specs.declared.view.Stage.{Stage}
use Rattle.ifmap_hall.specs.declared.view.Stage.TheVariants.{Idle, Waits, Holds}
use Rattle.ifmap_hall.specs.declared.view.Terms.{Terms}
use Rattle.ifmap_hall.specs.declared.view.HallView.{HallView}

module _ {E : Type 0} where
  -- how many tickets a seat has
  abbrev pub tickets_of : Stage E → ℕ
  tickets_of Idle = 0
  tickets_of (Waits t) = 1
  tickets_of (Holds t h) = 1

  -- its ticket
  abbrev pub ticket_of : Stage E → ℕ
  ticket_of Idle = 0
  ticket_of (Waits t) = t
  ticket_of (Holds t h) = t

  -- whether it has the book
  abbrev pub holds_book : Stage E → Bool
  holds_book Idle = false
  holds_book (Waits t) = false
  holds_book (Holds t h) = true

  -- the history of the book that it took
  abbrev pub taken_of : Stage E → HallHistory E
  taken_of Idle = no_history
  taken_of (Waits t) = no_history
  taken_of (Holds t h) = h

-- a new seat gets one in so many of the parts
abbrev pub share_divisor : ℕ
share_divisor = 65536

-- how many parts a new seat gets
abbrev pub share_of : ℕ → ℕ
share_of parts = if nat_lt parts share_divisor then 1 else parts / share_divisor

-- how many parts the first seat has, which are all that there are
abbrev pub all_parts : ℕ
all_parts = 18446744073709551615

module _ {M E R : Type 0} where
  -- the first seat, which has all parts
  abbrev pub first_seat : Terms M → SeatView M E R
  first_seat terms = record { view = first_view terms; parts = all_parts; stage = Idle; joined = no_history }

  -- after a ticket was drawn
  abbrev pub with_ticket : SeatView M E R → ℕ → SeatView M E R
  with_ticket s t = record s { stage = Waits t }

  -- after the book was taken, which has this history
  abbrev pub with_book : SeatView M E R → HallHistory E → SeatView M E R
  with_book s h = record s { stage = Holds (ticket_of s.stage) h }

  -- after a seat was split from
  abbrev pub kept_seat : SeatView M E R → SeatView M E R
  kept_seat s = record s { view = kept_view s.view; parts = s.parts - share_of s.parts }

  -- the seat that was split off
  abbrev pub given_seat : SeatView M E R → SeatView M E R
  given_seat s = record { view = given_view s.view; parts = share_of s.parts; stage = Idle; joined = no_history }

  -- after another seat was joined to it
  abbrev pub joint_seat : SeatView M E R → SeatView M E R → SeatView M E R
  joint_seat s u =
      record s {
        view = joint_view s.view u.view;
        parts = s.parts + u.parts;
        joined = if is_later s.view.history u.view.history then s.view.history else u.view.history;
      }

  -- what is left of a seat that was joined to another
  abbrev pub spent_seat : M → SeatView M E R
  spent_seat m =
      let terms : Terms M = record { opening = record { marker = record {}; value = m }; limit = 0; heaviest = 0 } in
      record { view = kept_view (first_view terms); parts = 0; stage = Idle; joined = no_history }

  module _ (next : M → E → M) (reply : M → E → R) where
    -- what a pass is seen as after a turn in which it found this history and left this book: it has seen what the book has seen,
    -- and where there is an entry more it is the pass's own
    abbrev pub view_after : HallView M E R → HallHistory E → Book M E R → HallView M E R
    view_after v h b =
        let gained = drop (length h.log) (history_in h b).log in
        record v {
          history = history_in h b;
          mine = v.mine ++ map (λ _. length h.log) gained;
          said = v.said ++ map (λ e. (e.1, reply (run next v.terms.opening.value h.log) e.1)) gained;
          turns = v.turns + 1;
        }

    -- after the turn was passed on, and with it this book
    abbrev pub after_turn : SeatView M E R → Book M E R → SeatView M E R
    after_turn s b = record s { view = view_after s.view (taken_of s.stage) b; stage = Idle; joined = no_history }

  -- what holds of each seat that is not spent
  pub record IsSoundSeat (s : SeatView M E R) : Type 0 where
    pub view : IsSoundView s.view
    pub joined : Extends s.joined s.view.history
    pub parts : s.parts ≤ all_parts

  -- the seat has a part, no ticket and no slot
  pub record IsAtRest (me : Me (Option (Book M E R)) (SeatView M E R)) : Type 0 where
    pub slots : me.1 ≡ []
    pub idle : me.0.stage ≡ Idle
    pub part : 0 < me.0.parts

  -- the seat has a part, a ticket and no slot
  pub record IsWaiting (me : Me (Option (Book M E R)) (SeatView M E R)) : Type 0 where
    pub slots : me.1 ≡ []
    pub waits : me.0.stage ≡ Waits (ticket_of me.0.stage)
    pub part : 0 < me.0.parts

  -- the seat has a part and took the book
  pub record HoldsBook (s : SeatView M E R) : Type 0 where
    pub holds : s.stage ≡ Holds (ticket_of s.stage) (taken_of s.stage)
    pub part : 0 < s.parts
