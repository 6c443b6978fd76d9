use Rattle.ifmap_reader.proofs.deciding.Readings.{deep_or_not}
use Rattle.ifmap_reader.proofs.laws.bytes_nest_too_deep_or_not.Goals as goal

pub returns : goal.returns
returns c = let tokens = c.token_stands_or_none.ensures in deep_or_not tokens.decided tokens.some_bytes
