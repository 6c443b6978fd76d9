-- How much the programs take at most.
use Rattle.std.specs.Prelude.{ℕ}

-- the most events of a drill
abbrev pub most_events : ℕ
most_events = 100_000

-- the most workers of a server
abbrev pub most_workers : ℕ
most_workers = 256
