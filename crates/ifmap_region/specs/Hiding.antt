-- Links that are hidden by their ends.
use Rattle.std.specs.Prelude.{ℕ, Bool, ◌&&◌, nat_eq, Option, Some, None, if◌then◌else◌}
use Rattle.std.specs.HashSet.{HashSet, contains}
use Rattle.ifmap_region.specs.declared.mid.Ends.{Ends}
use Rattle.ifmap_region.specs.Links.{GraphSeen}

-- the same ends, the same way round
abbrev pub same_ends : Ends → Ends → Bool
same_ends p q = nat_eq p.from q.from && nat_eq p.to q.to

-- the ends of the link from v to w
abbrev pub ends : ℕ → ℕ → Ends
ends v w = record { from = v; to = w }

-- the set has the ends of the link from v to w
abbrev pub hides : {S : Type 0} → HashSet Ends S → ℕ → ℕ → Bool
hides hidden v w = contains same_ends hidden (ends v w)

-- the end of a link of v, where the link is not hidden
abbrev pub unless_hidden : {S : Type 0} → HashSet Ends S → ℕ → Option ℕ → Option ℕ
unless_hidden hidden v None = None
unless_hidden hidden v (Some w) = if hides hidden v w then None else Some w

-- what is seen of a graph whose hidden links match no more
abbrev pub seen_unless_hidden : {S : Type 0} → HashSet Ends S → GraphSeen → GraphSeen
seen_unless_hidden hidden graph = record {
  count = graph.count;
  link = λ v i. unless_hidden hidden v (graph.link v i);
  terminal = graph.terminal;
}
