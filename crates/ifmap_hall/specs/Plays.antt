-- What each step tells its seat.
use Rattle.std.specs.Prelude.{◌≡◌, ◌≢◌, ℕ, ◌%◌, ◌^◌, ◌≤◌, [], ◌∷◌, length, true, Option, Some}
use Rattle.atomic_table.specs.Table.{Step, Me}
use Rattle.ifmap_hall.specs.Histories.{Extends, GainsAtMostOne, BookStandsFor, history_in}
use Rattle.ifmap_hall.specs.SeatViews.{ticket_of, taken_of, with_ticket, with_book, after_turn, IsSoundSeat}
use Rattle.ifmap_hall.specs.Views.{IsSoundView}
use Rattle.ifmap_hall.specs.declared.book.Book.{Book}
use Rattle.ifmap_hall.specs.declared.view.HallHistory.{HallHistory}
use Rattle.ifmap_hall.specs.declared.view.SeatView.{SeatView}
use Rattle.ifmap_hall.specs.declared.view.Terms.{Terms}
use Rattle.ifmap_hall.specs.declared.view.HallView.{HallView}

-- what a seat knows, and the book where it has it
abbrev pub Seated : Type 0 → Type 0 → Type 0 → Type 0
Seated M E R = Me (Option (Book M E R)) (SeatView M E R)

module _ {M E R : Type 0} where
  -- draw: a ticket was drawn, and its number found
  abbrev pub Draws : Step (Option (Book M E R)) → Seated M E R → ℕ → Seated M E R → Type 0
  Draws s me n after = (t : ℕ) × (n ≡ t % 2 ^ 64) × (after ≡ (with_ticket me.0 t, me.1))

  -- a look at rest, without a ticket: nothing changed, and the seat is sound
  abbrev pub LooksAtRest : Step (Option (Book M E R)) → Seated M E R → ℕ → Seated M E R → Type 0
  LooksAtRest s me n after = (after ≡ me) × IsSoundSeat me.0

  module _ (next : M → E → M) (weight : E → ℕ) where
    -- the book that a pass finds stands for a history that extends what it has seen, and is what it has seen if it is alone
    pub record FindsBook (v : HallView M E R) (h : HallHistory E) (b : Book M E R) : Type 0 where
      pub book : BookStandsFor next weight v.terms h b
      pub sound : IsSoundView v
      pub extends : Extends v.history h
      pub lone : v.lone ≡ true → v.history ≡ h

    -- the seat took the book
    abbrev pub TakesBook : SeatView M E R → Seated M E R → Type 0
    TakesBook s after = (h : HallHistory E) × (b : Book M E R) × FindsBook s.view h b × (after ≡ (with_book s h, (0, Some b) ∷ []))

    -- look: where its ticket is served the seat took the book, and elsewhere nothing changed
    abbrev pub Looks : Step (Option (Book M E R)) → Seated M E R → ℕ → Seated M E R → Type 0
    Looks s me n after =
        (n ≡ ticket_of me.0.stage % 2 ^ 64 → TakesBook me.0 after)
        × (n ≢ ticket_of me.0.stage % 2 ^ 64 → after ≡ me)

    -- the book that a seat gives back stands for the history that was taken, with one entry more or none, of which as many
    -- or more are in the base, and only such as were taken
    pub record Gives (terms : Terms M) (taken : HallHistory E) (b : Book M E R) : Type 0 where
      pub book : BookStandsFor next weight terms (history_in taken b) b
      pub settled : taken.from ≤ b.from
      pub near : b.from ≤ length taken.log
      pub gains : GainsAtMostOne taken.log (history_in taken b).log

    -- the seat has a book that it may give back
    abbrev pub Brings : Seated M E R → Type 0
    Brings me = (b : Book M E R) × (me.1 ≡ (0, Some b) ∷ []) × Gives me.0.view.terms (taken_of me.0.stage) b

  module _ (next : M → E → M) (reply : M → E → R) where
    -- the seat gave the book back
    abbrev pub WentOn : Seated M E R → Seated M E R → Type 0
    WentOn me after = (b : Book M E R) × (me.1 ≡ (0, Some b) ∷ []) × (after ≡ (after_turn next reply me.0 b, []))

    -- pass the turn on: the book went back to its slot, and the turn to the next ticket
    abbrev pub PassesOn : Step (Option (Book M E R)) → Seated M E R → ℕ → Seated M E R → Type 0
    PassesOn s me n after = WentOn me after
