use Rattle.std.proofs.Common.{sym, ◌∙◌}
use Rattle.ifmap_addresses.specs.MacAddressLaws.{mac_address_in_order}
use Rattle.ifmap_addresses.proofs.mac_addresses.mac_address_order.Goals as goal

pub returns : goal.returns
returns c =
    c.cmp.ensures ∙ sym (mac_address_in_order c.args.one.now c.args.other.now (c.told-one ∙ sym c.told-other))
