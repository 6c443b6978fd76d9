use Rattle.ifmap_addresses.specs.IpV4Laws.{one_ip_v4}
use Rattle.ifmap_addresses.specs.IpV6Laws.{one_ip_v6}
use Rattle.ifmap_addresses.specs.MacAddressLaws.{one_mac_address}
use Rattle.ifmap_addresses.proofs.laws.texts_are_one_address.Goals as goal

pub returns-clause-ip_v4 : goal.returns-clause-ip_v4
returns-clause-ip_v4 c = one_ip_v4

pub returns-clause-ip_v6 : goal.returns-clause-ip_v6
returns-clause-ip_v6 c = one_ip_v6

pub returns-clause-mac_address : goal.returns-clause-mac_address
returns-clause-mac_address c = one_mac_address
