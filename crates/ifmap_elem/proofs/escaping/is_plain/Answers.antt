use Rattle.ifmap_elem.proofs.EscapeLaws.{plain_is_escaped}
use Rattle.ifmap_elem.proofs.escaping.is_plain.Goals as goal

pub returns-then-bytes-lt-BLOCK : goal.returns-then-bytes-lt-BLOCK
returns-then-bytes-lt-BLOCK c = plain_is_escaped c.is_plain_each.result c.args.place c.args.bytes.now c.is_plain_each.ensures

pub returns-else-bytes-lt-BLOCK : goal.returns-else-bytes-lt-BLOCK
returns-else-bytes-lt-BLOCK c = plain_is_escaped c.is_plain_in_blocks.result c.args.place c.args.bytes.now c.is_plain_in_blocks.ensures
