-- What each event of a drill asks.
use Rattle.std.specs.Prelude.{ℕ, ◌/◌, ◌%◌, ◌==◌, nat_lt, if◌then◌else◌}
use Rattle.ifmap_drill.specs.Extent.{client_count, first_events}
use Rattle.ifmap_drill.specs.declared.tasks.Task.{Task}
use Rattle.ifmap_drill.specs.declared.tasks.Task.TheVariants.{Begin, Subscribe, Update, Delete, Search, Poll, Renew}

-- what the ten events of a block ask, by the last digit of the block's number
abbrev pub block_task : ℕ → Task
block_task digit =
    if nat_lt digit 6 then Update
    else if digit == 6 then Delete
    else if digit == 7 then Search
    else if digit == 8 then Poll
    else Renew

-- what event i asks: the first ten events a session each, the next ten a subscription each, and then block by block
abbrev pub task_at : ℕ → Task
task_at i =
    if nat_lt i client_count then Begin
    else if nat_lt i first_events then Subscribe
    else block_task (i / client_count % 10)
