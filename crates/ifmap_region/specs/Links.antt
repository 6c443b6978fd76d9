-- Links between numbers, by their places at a number.
use Rattle.std.specs.Prelude.{◌≡◌, ℕ, ◌<◌, Bool, Option, Some}

-- a number has a matching link with another at some place: `link` gives the other end at a place, or nothing where
-- the link there does not match
abbrev pub Linked : (ℕ → ℕ) → (ℕ → ℕ → Option ℕ) → ℕ → ℕ → Type 0
Linked count link v w = (i : ℕ) × (i < count v) × (link v i ≡ Some w)

-- what is seen of a graph: how many links a number has, the other end of its link at a place where that link matches,
-- and whether no walk goes on from it
pub record GraphSeen : Type 0 where
  pub count : ℕ → ℕ
  pub link : ℕ → ℕ → Option ℕ
  pub terminal : ℕ → Bool

-- the matching links of a graph
abbrev pub links_of : GraphSeen → ℕ → ℕ → Type 0
links_of graph = Linked graph.count graph.link

-- each link is one of both its ends
abbrev pub IsSymmetric : {X : Type 0} → (X → X → Type 0) → Type 0
IsSymmetric {X} links = (v w : X) → links v w → links w v
