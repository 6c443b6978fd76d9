-- Histories: all entries since the opening state, and how many of them are in a base.
use Rattle.std.specs.Prelude.{◌≡◌, ◌⊎◌, ℕ, ◌≤◌, List, [], ◌∷◌, ◌++◌, length, take, drop}
use Rattle.ifmap_hall.specs.Books.{IsBook, sight_of}
use Rattle.ifmap_hall.specs.Sights.{Sight, run}
use Rattle.ifmap_hall.specs.declared.book.Book.{Book}
use Rattle.ifmap_hall.specs.declared.view.HallHistory.{HallHistory}
use Rattle.ifmap_hall.specs.declared.view.Terms.{Terms}

module _ {E : Type 0} where
  -- no entry
  abbrev pub no_history : HallHistory E
  no_history = record { log = []; from = 0 }

  -- the later history begins with the earlier one, and has as many entries in the base or more
  pub record Extends (earlier later : HallHistory E) : Type 0 where
    pub from : earlier.from ≤ later.from
    pub rest : List (ℕ × E)
    pub whole : later.log ≡ earlier.log ++ rest

  -- of two histories one extends the other
  abbrev pub OneExtendsOther : HallHistory E → HallHistory E → Type 0
  OneExtendsOther h k = Extends h k ⊎ Extends k h

  -- the later list has one entry more or none
  abbrev pub GainsAtMostOne : List (ℕ × E) → List (ℕ × E) → Type 0
  GainsAtMostOne earlier later = (later ≡ earlier) ⊎ ((e : ℕ × E) × (later ≡ earlier ++ e ∷ []))

module _ {M E : Type 0} where
  -- what is seen of a history that began in this state
  abbrev pub sight_in : (M → E → M) → M → HallHistory E → Sight M E
  sight_in next opening h = record { from = h.from; base = run next opening (take h.from h.log); seen = drop h.from h.log }

module _ {M E R : Type 0} where
  -- the history of a book, where its base has taken in no entry that is not in this one
  abbrev pub history_in : HallHistory E → Book M E R → HallHistory E
  history_in h b = record { log = take b.from h.log ++ b.journal.items; from = b.from }

  -- the book is in order, and what is seen in it is what is seen of this history
  pub record BookStandsFor (next : M → E → M) (weight : E → ℕ) (terms : Terms M) (h : HallHistory E) (b : Book M E R) : Type 0 where
    pub book : IsBook next weight b
    pub limit : b.limit ≡ terms.limit
    pub heaviest : b.heaviest ≡ terms.heaviest
    pub inside : h.from ≤ length h.log
    pub sight : sight_of b ≡ sight_in next terms.opening.value h
