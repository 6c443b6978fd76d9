use Rattle.ifmap_reader.proofs.deciding.Readings.{spelled_or_not}
use Rattle.ifmap_reader.proofs.laws.bytes_spell_an_element_or_none.Goals as goal

pub returns : goal.returns
returns c = let tokens = c.token_stands_or_none.ensures in spelled_or_not tokens.decided tokens.some_bytes
