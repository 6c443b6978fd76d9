use Rattle.std.proofs.Common.{arith}
use Rattle.ifmap_lemmas.specs.Runs.{all_below}
use Rattle.ifmap_addresses.specs.IpV6Laws.{ip_v6_plain}
use Rattle.ifmap_ident.proofs.SizeLaws.{v6_size}
use Rattle.ifmap_ident.proofs.sizes.v6_len.Goals as goal

pub returns : goal.returns
returns c = let whole = v6_size c.args.value.now c.args.domain.now (ip_v6_plain c.args.value.now
    (all_below 65536 c.args.value.now c.fits-value)) in omega arith
