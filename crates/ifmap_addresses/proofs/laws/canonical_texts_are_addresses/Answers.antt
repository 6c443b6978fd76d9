use Rattle.ifmap_addresses.specs.IpV4Laws.{ip_v4_spelled}
use Rattle.ifmap_addresses.specs.IpV6Laws.{ip_v6_spelled}
use Rattle.ifmap_addresses.specs.MacAddressLaws.{mac_address_spelled}
use Rattle.ifmap_addresses.proofs.laws.canonical_texts_are_addresses.Goals as goal

pub returns-clause-ip_v4 : goal.returns-clause-ip_v4
returns-clause-ip_v4 c = ip_v4_spelled

pub returns-clause-ip_v6 : goal.returns-clause-ip_v6
returns-clause-ip_v6 c = ip_v6_spelled

pub returns-clause-mac_address : goal.returns-clause-mac_address
returns-clause-mac_address c = mac_address_spelled
