-- What becomes of a book.
use Rattle.std.specs.Prelude.{◌≡◌, ℕ, ◌+◌, ◌-◌, ◌<◌, List, [], ◌∷◌, ◌++◌, length, drop, sum_by}
use Rattle.ifmap_hall.specs.Books.{IsBook, sight_of, end_of_book}
use Rattle.ifmap_hall.specs.Sights.{Sight, CarriesOn}
use Rattle.ifmap_hall.specs.declared.book.Book.{Book}

module _ {M E : Type 0} where
  -- the last that is seen is this entry, at this place
  abbrev pub EndsWith : Sight M E → ℕ → ℕ × E → Type 0
  EndsWith p place entry = (before : List (ℕ × E)) × (p.seen ≡ before ++ entry ∷ []) × (p.from + length before ≡ place)

module _ {M E R : Type 0} where
  -- the limit and the heaviest weight stay
  pub record SameLimits (old new : Book M E R) : Type 0 where
    pub limit : new.limit ≡ old.limit
    pub heaviest : new.heaviest ≡ old.heaviest

  -- the base took in some entries or none, and nothing else changed
  pub record Settles (next : M → E → M) (weight : E → ℕ) (old new : Book M E R) : Type 0 where
    pub book : IsBook next weight new
    pub carries : CarriesOn next (sight_of old) (sight_of new)
    pub machine : new.machine ≡ old.machine
    pub limits : SameLimits old new
    pub ends : end_of_book new ≡ end_of_book old

  -- no entry went to the base without need: before each that went, an event of this weight was too heavy for what was left
  abbrev pub HadToGo : (E → ℕ) → Book M E R → Book M E R → ℕ → Type 0
  HadToGo weight old new heavy =
      (k : ℕ) → k < new.from - old.from → old.limit < heavy + sum_by (λ e. weight e.1) (drop k old.journal.items)

  -- the event became the last entry, at the place that was next, and got the reply of the machine before it
  pub record Enters (reply : M → E → R) (old new : Book M E R) (pass : ℕ) (event : E) (place : ℕ) (r : R) : Type 0 where
    pub place_is : place ≡ end_of_book old
    pub reply_is : r ≡ reply old.machine event
    pub entry : EndsWith (sight_of new) place (pass, event)
