use Rattle.ifmap_ident.proofs.AlikeLaws.{identifiers_alike}
use Rattle.ifmap_ident.proofs.TypedLaws.{is_typed}
use Rattle.ifmap_ident.proofs.laws.bytes_tell_identifiers_apart.Goals as goal

pub returns : goal.returns
returns c = let size = c.addresses_have_one_size.ensures.ip_v4 in
    λ one other p q. identifiers_alike one other (is_typed size one p) (is_typed size other q)
