use Rattle.ifmap_addresses.proofs.Grouped.{hex_length}
use Rattle.ifmap_addresses.proofs.ip_v6.group_len.Goals as goal

pub returns-clause-value : goal.returns-clause-value
returns-clause-value c = hex_length c.args.group c.leading_zeros.result c.leading_zeros.ensures.value
