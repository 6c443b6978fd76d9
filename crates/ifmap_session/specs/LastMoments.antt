-- Last moments by place, of which the least is known.
use Rattle.std.specs.Prelude.{◌≡◌, ◌⊎◌, ℕ, zero, suc, ◌+◌, ◌-◌, ◌*◌, ◌^◌, ◌≤◌, ◌<◌, nat_le, ◌==◌, ◌&&◌, not, Bool, List, [], ◌∷◌, filter, flat_map, length, min, slice_index_or}
use Rattle.ifmap_session.specs.Sessions.{most_sessions}

-- the last moment of a place that has none: no moment reaches it
abbrev pub no_moment : ℕ
no_moment = 2 ^ 64 - 1

-- what stands at a node
abbrev pub node_value : List ℕ → ℕ → ℕ
node_value tree node = slice_index_or tree node 0

-- the second half has a last moment for each place; before it stands at each node from 1 on the lesser of what stands at its two children
pub record IsTree (width : ℕ) (tree : List ℕ) : Type 0 where
  pub long : length tree ≡ 2 * width
  pub lesser : (node : ℕ) → 1 ≤ node → node < width → node_value tree node ≡ min (node_value tree (2 * node))
      (node_value tree (2 * node + 1))

-- one place has another last moment
pub record SetsLastMoment (width place last_moment : ℕ) (old new : List ℕ) : Type 0 where
  pub tree : IsTree width new
  pub there : node_value new (width + place) ≡ last_moment
  pub others : (node : ℕ) → width ≤ node → node < 2 * width → (node ≡ width + place) ⊎ (node_value new node ≡ node_value old node)

-- n numbers, from the first on
abbrev pub numbers_from : ℕ → ℕ → List ℕ
numbers_from first zero = []
numbers_from first (suc n) = first ∷ numbers_from (first + 1) n

-- whether a last moment is no later than the limit
abbrev pub is_due : List ℕ → ℕ → ℕ → Bool
is_due tree limit node = nat_le (node_value tree node) limit

-- the two children of each node
abbrev pub children_of : List ℕ → List ℕ
children_of nodes = flat_map (λ node. (2 * node) ∷ ((2 * node + 1) ∷ [])) nodes

-- the nodes of all places whose last moments are no later than the limit
abbrev pub due_nodes : ℕ → List ℕ → ℕ → List ℕ
due_nodes width tree limit = filter (is_due tree limit) (numbers_from width width)

-- what a number is once it was doubled so often
abbrev pub doubled_number : ℕ → ℕ → ℕ
doubled_number zero n = n
doubled_number (suc times) n = doubled_number times (2 * n)

-- a power of two
abbrev pub IsPower : ℕ → Type 0
IsPower width = (times : ℕ) × (width ≡ doubled_number times 1)

-- what no width comes up to: four times as many places as sessions may live
abbrev pub width_bound : ℕ
width_bound = 4 * most_sessions

-- whether the least last moment is no later than the limit
abbrev pub is_any_due : ℕ → List ℕ → ℕ → Bool
is_any_due width tree limit = not (width == 0) && is_due tree limit 1
