-- What an answer says of the pass before it and after it.
use Rattle.std.specs.Prelude.{◌≡◌, ℕ, Bool, ◌+◌, ◌-◌, ◌^◌, ◌<◌, ◌≤◌, List, [], ◌∷◌, ◌++◌, length, true, false}
use Rattle.ifmap_hall.specs.Histories.{Extends}
use Rattle.ifmap_hall.specs.Plays.{Gives}
use Rattle.ifmap_hall.specs.SeatViews.{view_after}
use Rattle.ifmap_hall.specs.Sights.{Sight, end_of, run}
use Rattle.ifmap_hall.specs.Views.{IsSoundView}
use Rattle.ifmap_hall.specs.declared.book.Asked.{Asked}
use Rattle.ifmap_hall.specs.declared.book.Asked.TheVariants.{Done, Held, Spent, NoMemory}
use Rattle.ifmap_hall.specs.declared.book.Book.{Book}
use Rattle.ifmap_hall.specs.declared.view.HallHistory.{HallHistory}
use Rattle.ifmap_hall.specs.declared.view.HallView.{HallView}

module _ {M E R : Type 0} where
  -- the pass passed one turn on, and has seen all that it had seen and maybe more
  pub record TookATurn (v w : HallView M E R) : Type 0 where
    pub terms : w.terms ≡ v.terms
    pub lone : w.lone ≡ v.lone
    pub turns : w.turns ≡ v.turns + 1
    pub history : Extends v.history w.history
    pub sound : IsSoundView w
    -- if it was never split from, it had seen all entries that are in the base now
    pub near : v.lone ≡ true → w.history.from ≤ length v.history.log

  -- nothing of the pass's own was entered, and nothing at all if it was never split from
  pub record SaidNothing (v w : HallView M E R) : Type 0 where
    pub mine : w.mine ≡ v.mine
    pub said : w.said ≡ v.said
    pub alone : v.lone ≡ true → w.history.log ≡ v.history.log

  module _ (next : M → E → M) (holds_on : M → E → Bool) (reply : M → E → R) where
    -- the event is the last entry of the history, at this place, with the reply of the machine after the entries before it, which
    -- would not have held on it; if the pass was never split from, these are the entries that it had seen
    pub record EntersEvent (v w : HallView M E R) (number : ℕ) (event : E) (place : ℕ) (r : R) : Type 0 where
      pub before : List (ℕ × E)
      pub entry : w.history.log ≡ before ++ (number, event) ∷ []
      pub place_is : length before ≡ place
      pub numbered : place < 2 ^ 64 - 1
      pub free : holds_on (run next v.terms.opening.value before) event ≡ false
      pub reply_is : r ≡ reply (run next v.terms.opening.value before) event
      pub settled : w.history.from ≤ place
      pub later : length v.history.log ≤ place
      pub alone : v.lone ≡ true → before ≡ v.history.log
      pub mine : w.mine ≡ v.mine ++ place ∷ []
      pub said : w.said ≡ v.said ++ (event, r) ∷ []

    -- what each answer says of the whole history, from the opening state on
    abbrev pub AnsweredFromHistory : HallView M E R → HallView M E R → ℕ → E → Asked E R → Type 0
    AnsweredFromHistory v w number event (Done place r) = EntersEvent v w number event place r
    AnsweredFromHistory v w number event (Held place back) =
        (back ≡ event) × (length w.history.log ≡ place) × (place < 2 ^ 64 - 1)
        × (holds_on (run next v.terms.opening.value w.history.log) event ≡ true) × SaidNothing v w
    AnsweredFromHistory v w number event (Spent entries back) =
        (back ≡ event) × (length w.history.log ≡ entries) × (entries ≡ 2 ^ 64 - 1) × SaidNothing v w
    AnsweredFromHistory v w number event (NoMemory back) =
        (back ≡ event) × (length w.history.log < 2 ^ 64 - 1)
        × (holds_on (run next v.terms.opening.value w.history.log) event ≡ false) × SaidNothing v w

    -- what each answer says of what is seen: the base, and the entries after it
    abbrev pub AnsweredFromBase : Sight M E → ℕ → E → Asked E R → Type 0
    AnsweredFromBase p number event (Done place r) =
        (before : List (ℕ × E)) × (p.seen ≡ before ++ (number, event) ∷ []) × (end_of p ≡ place + 1)
        × (holds_on (run next p.base before) event ≡ false) × (r ≡ reply (run next p.base before) event)
    AnsweredFromBase p number event (Held place back) = (end_of p ≡ place) × (holds_on (run next p.base p.seen) event ≡ true)
    AnsweredFromBase p number event (Spent entries back) = (end_of p ≡ entries) × (entries ≡ 2 ^ 64 - 1)
    AnsweredFromBase p number event (NoMemory back) = Unit {0}

  module _ (next : M → E → M) (weight : E → ℕ) (holds_on : M → E → Bool) (reply : M → E → R) where
    -- a turn of a pass that found this history and leaves this book
    pub record TakesTurn (v : HallView M E R) (h : HallHistory E) (b : Book M E R) (number : ℕ) (event : E) (answer : Asked E R)
        : Type 0 where
      pub gives : Gives next weight v.terms h b
      pub took : TookATurn v (view_after next reply v h b)
      pub answered : AnsweredFromHistory next holds_on reply v (view_after next reply v h b) number event answer
