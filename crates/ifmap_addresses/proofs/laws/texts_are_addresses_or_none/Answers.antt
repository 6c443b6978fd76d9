use Rattle.ifmap_addresses.proofs.Deciding.{ip_v4_or_none, ip_v6_or_none, mac_address_or_none}
use Rattle.ifmap_addresses.proofs.laws.texts_are_addresses_or_none.Goals as goal

pub returns-clause-ip_v4 : goal.returns-clause-ip_v4
returns-clause-ip_v4 c = ip_v4_or_none

pub returns-clause-ip_v6 : goal.returns-clause-ip_v6
returns-clause-ip_v6 c = ip_v6_or_none

pub returns-clause-mac_address : goal.returns-clause-mac_address
returns-clause-mac_address c = mac_address_or_none
