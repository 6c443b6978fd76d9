use Rattle.std.proofs.Common.{arith}
use Rattle.ifmap_lemmas.specs.Runs.{all_below}
use Rattle.ifmap_addresses.specs.MacAddressLaws.{mac_address_plain}
use Rattle.ifmap_ident.proofs.SizeLaws.{mac_size}
use Rattle.ifmap_ident.proofs.sizes.mac_len.Goals as goal

pub returns : goal.returns
returns c = let whole = mac_size c.args.value.now c.args.domain.now (mac_address_plain c.args.value.now
    (all_below 256 c.args.value.now c.fits-value)) in omega arith
