use Rattle.ifmap_ident.proofs.MacLaws.{mac_is_identifier}
use Rattle.ifmap_ident.proofs.laws.mac_addresses_are_identifiers.Goals as goal

pub returns : goal.returns
returns c = mac_is_identifier
