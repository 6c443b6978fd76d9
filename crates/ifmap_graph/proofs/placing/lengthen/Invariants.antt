use Rattle.std.proofs.Common.{◌≡◌, ◌≤◌, ◌-◌, ℕ, length}
use Rattle.ifmap_graph.specs.Turning.{sides_at}
use Rattle.ifmap_graph.proofs.placing.lengthen.Given as goal

abbrev pub invariant-room : goal.invariant-room
invariant-room l = ((v : ℕ) → sides_at l.links.items v ≡ sides_at l.initial.links.items v)
    × (length l.initial.links.items ≤ length l.links.items)

abbrev pub decreases-room : goal.decreases-room
decreases-room l = l.n - length l.links.items
