-- What holds of every book.
use Rattle.std.specs.Prelude.{◌≡◌, ℕ, ◌+◌, ◌*◌, ◌^◌, ◌<◌, ◌≤◌, sum_by, All}
use Rattle.ifmap_hall.specs.Sights.{Sight, end_of, run}
use Rattle.ifmap_hall.specs.declared.book.Book.{Book}

module _ {M E : Type 0} (next : M → E → M) (weight : E → ℕ) where
  -- the machine is the run of the journal from the base, the weights are added up and within the limit, entries went to the
  -- base only for want of room, and each place has a number
  pub record IsBalanced (machine : M) (kept : Sight M E) (bytes limit heaviest : ℕ) : Type 0 where
    pub state : machine ≡ run next kept.base kept.seen
    pub weighed : bytes ≡ sum_by (λ e. weight e.1) kept.seen
    pub within : bytes ≤ limit
    pub each : All (λ e. weight e.1 ≤ heaviest) kept.seen
    pub room : 2 * heaviest ≤ limit
    pub full : 0 < kept.from → limit < bytes + 2 * heaviest
    pub places : end_of kept < 2 ^ 64

module _ {M E R : Type 0} where
  -- what is seen of a history in a book
  abbrev pub sight_of : Book M E R → Sight M E
  sight_of b = record { from = b.from; base = b.base; seen = b.journal.items }

  -- the place of the next entry
  abbrev pub end_of_book : Book M E R → ℕ
  end_of_book b = end_of (sight_of b)

  -- the book is in order
  abbrev pub IsBook : (M → E → M) → (E → ℕ) → Book M E R → Type 0
  IsBook next weight b = IsBalanced next weight b.machine (sight_of b) b.bytes b.limit b.heaviest
