use Rattle.std.proofs.Common.{arith}
use Rattle.ifmap_io.specs.Calendar.{last_moment}
use Rattle.ifmap_server.proofs.Cuts.{number_told}
use Rattle.ifmap_server.proofs.headers.moment_of.Goals as goal

pub returns : goal.returns
returns c = number_told last_moment c.in_ok-decimal_number.field-0 c.args.text.now c.new.result (omega arith)
    c.in_ok-decimal_number.ensures.0 c.in_ok-decimal_number.ensures.1 c.new.ensures
