-- Live sessions beside the room of their queues.
use Rattle.std.specs.Prelude.{ℕ, ◌-◌, ◌^◌, min}
use Rattle.ifmap_search.specs.declared.results.PollItem.{PollItem}
use Rattle.ifmap_search.specs.Sizes.{poll_size}
use Rattle.ifmap_session.specs.Sessions.{Session}

-- a live session, and the room of its queue
pub record Seat : Type 0 where
  pub session : Session
  -- for how many more items the queue has room
  pub spare : ℕ

-- the size of an item as it is counted: at most 2^64 - 1
abbrev pub counted_size : PollItem → ℕ
counted_size item = min (poll_size item) (2 ^ 64 - 1)
