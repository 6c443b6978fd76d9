-- The status of each end of the program.
use Rattle.std.specs.Prelude.{ℕ}
use Rattle.ifmap_client_script.specs.declared.outcomes.Outcome.TheVariants as outcome
use Rattle.ifmap_client_script.specs.declared.outcomes.Outcome.{Outcome}
use Rattle.ifmap_io.specs.Statuses.{bad_reply_status, done_status, link_ended_status, link_fault_status, no_memory_status}
use Rattle.ifmap_io.specs.Statuses.{read_fault_status, script_fault_status, usage_status, write_fault_status}
use Rattle.mapc.specs.declared.endings.End.{End}
use Rattle.mapc.specs.declared.endings.End.TheVariants as the_end

-- of a script
abbrev pub script_status : Outcome → ℕ
script_status outcome.Done = done_status
script_status (outcome.BadLine line) = script_fault_status
script_status outcome.ReadFault = read_fault_status
script_status outcome.WriteFault = write_fault_status
script_status outcome.NoMemory = no_memory_status
script_status outcome.LinkFault = link_fault_status
script_status (outcome.LinkEnded line) = link_ended_status
script_status (outcome.BadReply line) = bad_reply_status

abbrev pub end_status : End → ℕ
end_status the_end.Usage = usage_status
end_status the_end.NoConnection = link_fault_status
end_status (the_end.Script outcome) = script_status outcome
