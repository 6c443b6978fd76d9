-- The rule of the hall's table: two words, one slot, and what all seats know.
use Rattle.std.specs.Prelude.{◌≡◌, ◌⊎◌, ℕ, ◌+◌, ◌-◌, ◌%◌, ◌^◌, ◌≤◌, ◌<◌, List, [], ◌∷◌, length, true, false, sum_by, Option, Some}
use mathlib.Core.Option.{Option as Maybe, some, none}
use lib.ListN.{get_elem?}
use Rattle.atomic_table.specs.Table.{State}
use Rattle.ifmap_hall.specs.Histories.{Extends, OneExtendsOther, BookStandsFor}
use Rattle.ifmap_hall.specs.Places.{times, once_below}
use Rattle.ifmap_hall.specs.SeatViews.{tickets_of, ticket_of, taken_of, holds_book}
use Rattle.ifmap_hall.specs.Views.{IsSoundView}
use Rattle.ifmap_hall.specs.declared.book.Book.{Book}
use Rattle.ifmap_hall.specs.declared.view.HallHistory.{HallHistory}
use Rattle.ifmap_hall.specs.declared.view.SeatView.{SeatView}
use Rattle.ifmap_hall.specs.declared.view.Terms.{Terms}

-- the slots of the hall's table: none where a slot is out with a seat
abbrev pub Homes : Type 0 → Type 0 → Type 0 → Type 0
Homes M E R = List (Maybe (Option (Book M E R)))

module _ {M E R : Type 0} where
  -- the seat with this number knows this
  abbrev pub Sits : List (SeatView M E R) → ℕ → SeatView M E R → Type 0
  Sits seats i s = get_elem? seats i ≡ some s

  -- what a seat knows fits the history, the number served and the next ticket
  pub record SeatFits (terms : Terms M) (h : HallHistory E) (served drawn : ℕ) (s : SeatView M E R) : Type 0 where
    pub terms_are : s.view.terms ≡ terms
    pub sound : IsSoundView s.view
    pub extends : Extends s.view.history h
    pub joined : Extends s.joined s.view.history
    pub queued : tickets_of s.stage ≡ 1 → (served ≤ ticket_of s.stage) × (ticket_of s.stage < drawn)
    pub held : holds_book s.stage ≡ true → (ticket_of s.stage ≡ served) × (taken_of s.stage ≡ h)
    pub lone : s.view.lone ≡ true → s.view.history ≡ h

  module _ (next : M → E → M) (weight : E → ℕ) where
    -- the book stands in its slot, and no seat has it
    pub record AtHome (terms : Terms M) (h : HallHistory E) (homes : Homes M E R) (seats : List (SeatView M E R)) : Type 0 where
      pub book : Book M E R
      pub there : homes ≡ some (Some book) ∷ []
      pub stands : BookStandsFor next weight terms h book
      pub free : (i : ℕ) (s : SeatView M E R) → Sits seats i s → holds_book s.stage ≡ false

    -- the slot is empty, and a seat has the book
    pub record IsAway (homes : Homes M E R) (seats : List (SeatView M E R)) : Type 0 where
      pub gone : homes ≡ none ∷ []
      pub seat : ℕ
      pub holder : SeatView M E R
      pub sits : Sits seats seat holder
      pub holds : holds_book holder.stage ≡ true

    -- what holds of the table between any two steps
    pub record IsInTurn (terms : Terms M) (words : List ℕ) (homes : Homes M E R) (seats : List (SeatView M E R)) : Type 0 where
      -- there is one history, and so many turns were passed on and so many tickets drawn
      pub history : HallHistory E
      pub served : ℕ
      pub drawn : ℕ
      pub words_are : words ≡ served % 2 ^ 64 ∷ drawn % 2 ^ 64 ∷ []
      pub slot : AtHome terms history homes seats ⊎ IsAway homes seats
      -- each part is some seat's, a ticket needs a part, and a seat without parts has neither a place nor the book
      pub parts : sum_by (λ (s : SeatView M E R). s.parts) seats ≡ 2 ^ 64 - 1
      pub enough : (i : ℕ) (s : SeatView M E R) → Sits seats i s → tickets_of s.stage ≤ s.parts
      pub spent : (i : ℕ) (s : SeatView M E R) → Sits seats i s → s.parts ≡ 0 → (s.view.mine ≡ []) × (holds_book s.stage ≡ false)
      -- each ticket that is out is one seat's
      pub tickets : sum_by (λ (s : SeatView M E R). tickets_of s.stage) seats + served ≡ drawn
      pub apart : (i j : ℕ) (s u : SeatView M E R) → Sits seats i s → Sits seats j u → tickets_of s.stage ≡ 1 → tickets_of u.stage ≡ 1
          → ticket_of s.stage ≡ ticket_of u.stage → i ≡ j
      -- each place of the history is in the list of one seat
      pub places : (x : ℕ) → sum_by (λ (s : SeatView M E R). times x s.view.mine) seats ≡ once_below x (length history.log)
      pub fit : (i : ℕ) (s : SeatView M E R) → Sits seats i s → 0 < s.parts → SeatFits terms history served drawn s
      -- of each two seats that are not spent one has seen what the other has seen
      pub ordered : (i j : ℕ) (s u : SeatView M E R) → Sits seats i s → Sits seats j u → 0 < s.parts → 0 < u.parts
          → OneExtendsOther s.view.history u.view.history
      pub alone : (i : ℕ) (s : SeatView M E R) → Sits seats i s → s.view.lone ≡ true → length seats ≡ 1

    -- the rule of a table
    abbrev pub Keeps : Terms M → State (Option (Book M E R)) (SeatView M E R) → Type 0
    Keeps terms t = IsInTurn terms t.words t.homes t.views

    -- the table keeps its rule, and the book lies in its slot
    abbrev pub Keeping : Terms M → State (Option (Book M E R)) (SeatView M E R) → Book M E R → Type 0
    Keeping terms t b = Keeps terms t × (t.homes ≡ some (Some b) ∷ [])

  -- each of the first so many places stands once in the lists of all seats, and no other place does
  abbrev pub AreSharedOut : List (SeatView M E R) → ℕ → Type 0
  AreSharedOut seats count = (x : ℕ) → sum_by (λ (s : SeatView M E R). times x s.view.mine) seats ≡ once_below x count
