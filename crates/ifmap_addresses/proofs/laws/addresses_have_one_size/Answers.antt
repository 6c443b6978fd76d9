use Rattle.ifmap_addresses.specs.IpV6Laws.{ip_v6_fits}
use Rattle.ifmap_addresses.proofs.laws.addresses_have_one_size.Goals as goal

pub returns-clause-ip_v6 : goal.returns-clause-ip_v6
returns-clause-ip_v6 c = ip_v6_fits
