use Rattle.ifmap_reader.proofs.deciding.Readings.{some_stop}
use Rattle.ifmap_reader.proofs.laws.bytes_stop_somewhere.Goals as goal

pub returns : goal.returns
returns c = let tokens = c.token_stands_or_none.ensures in some_stop tokens.decided tokens.some_bytes
