-- The exit statuses of the programs, which tell the outside how a run ended.
use Rattle.std.specs.Prelude.{ℕ}

-- the input was read to its end, and all of it was done; or no connection is left to serve
abbrev pub done_status : ℕ
done_status = 0

-- the words after the program's name ask for nothing that it does
abbrev pub usage_status : ℕ
usage_status = 2

-- a frame or a line of the input is at fault
abbrev pub script_fault_status : ℕ
script_fault_status = 3

-- a read of the input failed
abbrev pub read_fault_status : ℕ
read_fault_status = 4

-- a write of the output failed
abbrev pub write_fault_status : ℕ
write_fault_status = 5

-- want of memory
abbrev pub no_memory_status : ℕ
no_memory_status = 6

-- a listener or a connection could not be had, or failed
abbrev pub link_fault_status : ℕ
link_fault_status = 7

-- a connection ended before an answer was whole
abbrev pub link_ended_status : ℕ
link_ended_status = 8

-- an answer is no reply
abbrev pub bad_reply_status : ℕ
bad_reply_status = 9
