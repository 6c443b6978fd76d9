use Rattle.std.proofs.Common.{arith}
use Rattle.ifmap_addresses.specs.IpV4Laws.{ip_v4_plain}
use Rattle.ifmap_ident.proofs.SizeLaws.{v4_size}
use Rattle.ifmap_ident.proofs.sizes.v4_len.Goals as goal

pub returns : goal.returns
returns c = let whole = v4_size c.args.value.now c.args.domain.now (ip_v4_plain c.args.value.now c.fits-value) in omega arith
